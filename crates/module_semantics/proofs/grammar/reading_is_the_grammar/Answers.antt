use Rattle.module_semantics.proofs.Modules.{is_read, was_read, one_module}
use Rattle.module_semantics.proofs.grammar.reading_is_the_grammar.Goals as goal

pub returns-clause-same : goal.returns-clause-same
returns-clause-same c = λ most ts items. (was_read most ts items, is_read most ts items)

pub returns-clause-one : goal.returns-clause-one
returns-clause-one c = one_module
