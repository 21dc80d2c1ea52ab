use Rattle.std.proofs.Common.{◌≡◌, ◌∙◌, rules}
use Rattle.sessions.proofs.Courses.{course_on, unopened}
use Rattle.sessions.proofs.serving.serve_session.Goals as goal

pub returns-in-Err-clause-course : goal.returns-in-Err-clause-course
returns-in-Err-clause-course g c = unopened _ _ _ _ _ _ _ _ c.from.ensures (c.close.ensures.left ∙ c.open.ensures.left) (c.close.ensures.sent ∙ c.open.ensures.sent)

pub returns-clause-course : goal.returns-clause-course
returns-clause-course g c = course_on _ _ _ _ _ _ _ _ _ _ _ _ c.open.ensures.left c.open.ensures.sent c.close-2.ensures.left c.close-2.ensures.sent c.talk-ended.ensures.course
