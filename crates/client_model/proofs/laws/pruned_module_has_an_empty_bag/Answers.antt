use Rattle.client_model.proofs.Bagging.{pruned_bag_is_empty}
use Rattle.client_model.proofs.laws.pruned_module_has_an_empty_bag.Goals as goal

pub returns : goal.returns
returns c language = pruned_bag_is_empty language
