use Rattle.http_exchange.proofs.Turns.{one_list}
use Rattle.http_exchange.proofs.laws.answers_are_unique.Goals as goal

pub returns : goal.returns
returns c = one_list
