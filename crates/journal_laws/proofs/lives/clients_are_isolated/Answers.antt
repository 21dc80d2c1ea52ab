use Rattle.journal_laws.proofs.Isolation.{others_are_spared}
use Rattle.journal_laws.proofs.lives.clients_are_isolated.Goals as goal

pub returns : goal.returns
returns c = others_are_spared
