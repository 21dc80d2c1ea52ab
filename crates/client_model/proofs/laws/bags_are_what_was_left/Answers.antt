use Rattle.client_model.proofs.Bagging.{bags_are}
use Rattle.client_model.proofs.laws.bags_are_what_was_left.Goals as goal

pub returns : goal.returns
returns c language = bags_are language
