use Rattle.std.proofs.Common.{◌≡◌, take}
use Rattle.core_model.specs.Names.{Name, at}
use Rattle.page_plan.proofs.told.Told.of.Given as goal

-- the versions kept are those of the rows so far
abbrev pub invariant-loop-row : goal.invariant-loop-row
invariant-loop-row l = (n : Name) → at l.versions.entries n ≡ at (take l.row-index l.rows) n
