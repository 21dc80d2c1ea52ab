use Rattle.std.proofs.Common.{◌≡◌, drop}
use Rattle.std.specs.Prelude.{filter, not, ◌==◌}
use Rattle.core_model.specs.Names.{first_of}
use Rattle.core_model.specs.Requests.{version_at}
use Rattle.core_model.specs.View.{table_of}
use Rattle.page_plan.proofs.versions.first_differing.Given as goal

abbrev pub invariant-loop-name : goal.invariant-loop-name
invariant-loop-name l = first_of (filter (λ n. not (version_at l.told n == version_at (table_of l.kept) n)) (drop l.name-index l.names)) ≡ first_of (filter (λ n. not (version_at l.told n == version_at (table_of l.kept) n)) l.names)
