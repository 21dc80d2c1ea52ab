use Rattle.core_model.proofs.Spreading.{replaced_are}
use Rattle.core_model.proofs.laws.replaced_is_computed.Goals as goal

pub returns : goal.returns
returns c = replaced_are
