use Rattle.std.proofs.Common.{◌≡◌, ◌≤◌, drop, length}
use Rattle.page_plan.specs.Renewals.{adds_present}
use Rattle.page_plan.proofs.renewal.adds_present.Given as goal

-- what is left of both lists is as all
abbrev pub invariant-loop-name : goal.invariant-loop-name
invariant-loop-name l = (adds_present l.view (drop l.kept l.before) (drop l.name-index l.names) ≡ adds_present l.view l.before l.names) × (l.kept ≤ length l.before)
