use Rattle.core_model.proofs.Sending.{reload_is}
use Rattle.core_model.proofs.laws.reload_is_sent_exactly.Goals as goal

pub returns : goal.returns
returns c s client path = reload_is path s client
