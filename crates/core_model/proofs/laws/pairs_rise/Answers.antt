use Rattle.core_model.proofs.Membering as membering
use Rattle.core_model.proofs.laws.pairs_rise.Goals as goal

pub returns : goal.returns
returns c = membering.pairs_rise
