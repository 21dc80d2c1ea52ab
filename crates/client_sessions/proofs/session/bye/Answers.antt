use Rattle.client_sessions.proofs.Exchanges.{bye_answered, widened}
use Rattle.client_sessions.proofs.session.bye.Goals as goal

pub returns-in-Ok-clause-ends : goal.returns-in-Ok-clause-ends
returns-in-Ok-clause-ends g c = bye_answered _ _ _ _ _ _ _ c.in-Ok.ensures.exchanged

pub returns-clause-ends : goal.returns-clause-ends
returns-clause-ends g c = widened _ _ _ _ _ _ _ _ c.in-Err.ensures.ends
