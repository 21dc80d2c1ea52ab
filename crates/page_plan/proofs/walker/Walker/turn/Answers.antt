use Rattle.std.proofs.Common.{ap}
use Rattle.std.specs.Prelude.{reverse}
use Rattle.page_plan.proofs.Moments.{at_end_of, at_left_kept}
use Rattle.page_plan.proofs.walker.Walker.turn.Goals as goal

pub returns-in-None-clause-told : goal.returns-in-None-clause-told
returns-in-None-clause-told c = rw (← c.self.view_is) (λ roots i. at_end_of roots c.args.plan.now c.args.view.now _ i (ap reverse c.in-None.ensures.none))

pub returns-in_ok-push-in-Some-Leave-clause-at : goal.returns-in_ok-push-in-Some-Leave-clause-at
returns-in_ok-push-in-Some-Leave-clause-at c = rw (← c.self.view_is) (λ roots i. at_left_kept roots c.args.plan.now c.args.view.now c.in-Some-Leave.name c.in-Some-Leave.field-0 _ _ _ _ _ c.in-Some-Leave.ensures.tasks c.in-Some-Leave.field-0-is c.in_ok-push-in-Some-Leave.ensures.items i)
