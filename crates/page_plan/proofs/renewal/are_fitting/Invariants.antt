use Rattle.std.proofs.Common.{◌≡◌, drop}
use Rattle.page_plan.specs.Renewals.{are_fitting}
use Rattle.page_plan.proofs.renewal.are_fitting.Given as goal

-- what is left is as all
abbrev pub invariant-loop-place : goal.invariant-loop-place
invariant-loop-place l = are_fitting l.plan (drop l.place l.rows) (drop l.place l.view) ≡ are_fitting l.plan l.rows l.view
