use Rattle.std.proofs.Common.{◌≡◌, ◌++◌, drop}
use Rattle.import_links.specs.Links.{with_names}
use Rattle.import_links.proofs.link.add_names.Given as goal

-- the links so far, and those of the names that are left, are all
abbrev pub invariant-loop-name : goal.invariant-loop-name
invariant-loop-name l = l.links.items ++ with_names l.dependency (drop l.name-index l.names) ≡ l.initial.links.items ++ with_names l.dependency l.names
