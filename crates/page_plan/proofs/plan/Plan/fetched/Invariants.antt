use Rattle.std.proofs.Common.{◌≡◌, take}
use Rattle.page_plan.specs.Renewals.{fetched_of}
use Rattle.page_plan.proofs.plan.Plan.fetched.Given as goal

abbrev pub invariant-loop-name : goal.invariant-loop-name
invariant-loop-name l = l.rows.items ≡ fetched_of l.self (take l.name-index l.names)
