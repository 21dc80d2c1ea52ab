use Rattle.runtime_answers.proofs.Changed.{cause_given}
use Rattle.runtime_answers.proofs.answering.give_cause.Goals as goal

pub returns-clause-becomes : goal.returns-clause-becomes
returns-clause-becomes g c = λ r k s.
    cause_given c.args.cause r c.args.runtime.now c.give_cause_to.new.plan _ k s c.give_cause_to.ensures.none c.give_cause_to.ensures.some c.new.ensures.items
