use Rattle.std.proofs.Common.{◌∙◌}
use Rattle.client_sessions.proofs.Talking.{unopened, course_on}
use Rattle.client_sessions.proofs.session.client_session.Goals as goal

pub returns-in-Err-clause-course : goal.returns-in-Err-clause-course
returns-in-Err-clause-course g c = λ opening s.
    unopened c.in-Err.fault _ opening _ _ _ _ _ _ c.args.runtime.now _ c.from.ensures c.new-lines.ensures.items s (c.close.ensures.left ∙ c.open.ensures.left) (c.close.ensures.sent ∙ c.open.ensures.sent)

pub returns-clause-course : goal.returns-clause-course
returns-clause-course g c = λ opening s. course_on _ _ _ _ _ _ _ _ _ _ _ _ _ c.open.ensures.left c.open.ensures.sent c.close-2.ensures.left c.close-2.ensures.sent (c.talk-ended.ensures.course opening s)
