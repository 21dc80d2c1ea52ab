use Rattle.std.proofs.Common.{◌≡◌, ◌++◌, drop}
use Rattle.std.specs.Prelude.{All}
use Rattle.core_model.specs.Names.{at, collect}
use Rattle.core_model.specs.FreshLoad.{version_in}
use Rattle.fresh_loads.specs.Fresh.{HasVersion}
use Rattle.fresh_loads.proofs.loading.served_rows.Given as goal

-- the rows so far, and those of the names that are to come, are all
abbrev pub invariant-loop-name : goal.invariant-loop-name
invariant-loop-name l = (l.rows.items ++ collect (λ n. version_in (at l.versions.served n)) (drop l.name-index l.names) ≡ collect (λ n. version_in (at l.versions.served n)) l.names) × All HasVersion l.rows.items
