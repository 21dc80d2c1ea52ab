use Rattle.module_semantics.proofs.Texts.{is_parsed, was_parsed, one_tree}
use Rattle.module_semantics.proofs.text.parsing_is_reading.Goals as goal

pub returns-clause-same : goal.returns-clause-same
returns-clause-same c = λ text m. (was_parsed text m, is_parsed text m)

pub returns-clause-one : goal.returns-clause-one
returns-clause-one c = one_tree
