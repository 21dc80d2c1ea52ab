use Rattle.std.proofs.Common.{◌≡◌, take}
use Rattle.std.specs.Prelude.{◌&&◌}
use Rattle.core_model.specs.Names.{Name, has}
use Rattle.plan_changes.proofs.changing.replaced_of.Given as goal

abbrev pub invariant-loop-name : goal.invariant-loop-name
invariant-loop-name l = (n : Name) → has l.set n ≡ (has l.plan.replaced n && has (take l.name-index l.names) n)
