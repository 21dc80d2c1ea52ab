use Rattle.client_model.proofs.Walking.{orders_agree}
use Rattle.client_model.proofs.laws.orders_have_the_same_modules.Goals as goal

pub returns : goal.returns
returns c = orders_agree
