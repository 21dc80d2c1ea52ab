use Rattle.runtime_answers.proofs.Sent.{ignored_becomes}
use Rattle.runtime_answers.proofs.answering.ignored.Goals as goal

pub returns-clause-becomes : goal.returns-clause-becomes
returns-clause-becomes g c = λ r k s. ignored_becomes c.args.name r c.args.runtime.now c.drop_first.new.unsent k s c.drop_first.ensures _ c.in_ok-lines.ensures
