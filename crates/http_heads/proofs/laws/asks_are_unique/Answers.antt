use Rattle.http_heads.proofs.Ends.{one_cut}
use Rattle.http_heads.proofs.OneAsk.{one_ask}
use Rattle.http_heads.proofs.laws.asks_are_unique.Goals as goal

pub returns-clause-asks : goal.returns-clause-asks
returns-clause-asks c = one_ask

pub returns-clause-cuts : goal.returns-clause-cuts
returns-clause-cuts c = one_cut
