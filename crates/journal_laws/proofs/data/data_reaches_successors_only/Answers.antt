use Rattle.journal_laws.proofs.DataDisposing.{disposers_hand_on}
use Rattle.journal_laws.proofs.DataInheriting.{successors_inherit, others_inherit}
use Rattle.journal_laws.proofs.data.data_reaches_successors_only.Goals as goal

pub returns-clause-successors : goal.returns-clause-successors
returns-clause-successors c language = successors_inherit language

pub returns-clause-others : goal.returns-clause-others
returns-clause-others c language = others_inherit language

pub returns-clause-disposers : goal.returns-clause-disposers
returns-clause-disposers c language = disposers_hand_on language
