use Rattle.std.proofs.Common.{◌≡◌, ◌++◌, drop}
use Rattle.std.specs.Prelude.{flat_map}
use Rattle.core_model.specs.Names.{at}
use Rattle.core_model.specs.FreshLoad.{unlinked_module}
use Rattle.import_links.specs.Links.{links}
use Rattle.fresh_loads.proofs.unlinked.unlinked_names.Given as goal

-- what was found so far, and of the names that are to come, is all
abbrev pub invariant-loop-name : goal.invariant-loop-name
invariant-loop-name l = l.found.items ++ flat_map (λ n. unlinked_module links l.versions.served n (at l.versions.served n)) (drop l.name-index l.names) ≡ flat_map (λ n. unlinked_module links l.versions.served n (at l.versions.served n)) l.names
