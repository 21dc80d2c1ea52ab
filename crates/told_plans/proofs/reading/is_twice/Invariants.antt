use Rattle.std.proofs.Common.{◌≡◌}
use Rattle.std.specs.Prelude.{is_some}
use Rattle.std.specs.List.{list_any}
use Rattle.told_plans.specs.Plans.{at}
use Rattle.told_plans.proofs.reading.is_twice.Given as goal

abbrev pub invariant-loop-name : goal.invariant-loop-name
invariant-loop-name l =
    list_any (λ r. is_some (at l.plan.made r.0)) l.name-iterator ≡ list_any (λ r. is_some (at l.plan.made r.0)) l.plan.kept
