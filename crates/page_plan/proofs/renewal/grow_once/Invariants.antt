use Rattle.std.proofs.Common.{◌≡◌, drop}
use Rattle.page_plan.specs.Renewals.{grow_once}
use Rattle.page_plan.proofs.renewal.grow_once.Given as goal

-- what is left is as all
abbrev pub invariant-loop-place : goal.invariant-loop-place
invariant-loop-place l = grow_once l.plan l.view (drop l.place l.names) ≡ grow_once l.plan l.view l.names
