use Rattle.std.proofs.Common.{◌≡◌, true, take}
use Rattle.core_model.specs.Names.{Name, has}
use Rattle.page_plan.specs.Renewals.{IsToldOf}
use Rattle.page_plan.proofs.renewal.are_told.Given as goal

-- all names so far are told
abbrev pub invariant-loop-name : goal.invariant-loop-name
invariant-loop-name l = (n : Name) → has (take l.name-index l.names) n ≡ true → IsToldOf l.plan l.rows n
