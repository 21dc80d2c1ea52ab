use Rattle.std.proofs.Common.{List}
use Rattle.core_model.specs.Names.{Name}
use Rattle.page_plan.specs.Turns.{room}
use Rattle.page_plan.specs.Walking.{IsAt}
use Rattle.page_plan.proofs.walker.Walker.go_on.Given as goal

abbrev pub invariant-loop-name : goal.invariant-loop-name
invariant-loop-name l = (roots : List Name) → IsAt roots l.plan l.view l.fn.self → IsAt roots l.plan l.view l.self

abbrev pub decreases-loop-name : goal.decreases-loop-name
decreases-loop-name l = room l.self
