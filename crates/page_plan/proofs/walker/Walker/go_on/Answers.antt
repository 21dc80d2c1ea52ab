use Rattle.std.proofs.Common.{sym}
use Rattle.std.proofs.Math.Path.{subst}
use Rattle.page_plan.specs.Turns.{IsTurn}
use Rattle.page_plan.proofs.walker.Walker.go_on.Goals as goal

pub returns-in-Needs-clause-needed : goal.returns-in-Needs-clause-needed
returns-in-Needs-clause-needed c = λ roots i. sym (subst (IsTurn roots c.args.plan.now c.args.view.now c.turn.new.self.left) c.in-Needs.is (c.in_ok-turn.ensures.told roots (c.loop-name.invariant roots i)))

pub returns-in-Done-clause-needed : goal.returns-in-Done-clause-needed
returns-in-Done-clause-needed c = λ roots i. sym (subst (IsTurn roots c.args.plan.now c.args.view.now c.turn.new.self.left) c.in-Done.is (c.in_ok-turn.ensures.told roots (c.loop-name.invariant roots i))).needed

pub returns-in-Done-clause-order : goal.returns-in-Done-clause-order
returns-in-Done-clause-order c = λ roots i. (subst (IsTurn roots c.args.plan.now c.args.view.now c.turn.new.self.left) c.in-Done.is (c.in_ok-turn.ensures.told roots (c.loop-name.invariant roots i))).order
