use Rattle.module_language.proofs.Bagless.{bagless_evaluations}
use Rattle.module_language.proofs.laws.texts_without_data_do_not_hang_on_it.Goals as goal

pub returns : goal.returns
returns c = bagless_evaluations
