use Rattle.core_model.specs.Spread.{replaced_of}
use Rattle.core_model.proofs.Pairing.{pairs_are}
use Rattle.core_model.proofs.Spreading.{replaced_are}
use Rattle.core_model.proofs.laws.pairs_are_computed.Goals as goal

pub returns : goal.returns
returns c view changed forced = pairs_are view changed forced (replaced_of view changed forced) (replaced_are view changed forced)
