use Rattle.module_language.proofs.Specifiers.{good_items_mean}
use Rattle.module_language.proofs.laws.specifiers_of_good_texts_mean_modules.Goals as goal

pub returns : goal.returns
returns c = good_items_mean
