use Rattle.std.proofs.Common.{◌≡◌, take}
use Rattle.core_model.specs.Names.{names_of}
use Rattle.page_plan.proofs.versions.names_told.Given as goal

abbrev pub invariant-loop-row : goal.invariant-loop-row
invariant-loop-row l = l.names.items ≡ names_of (take l.row-index l.told)
