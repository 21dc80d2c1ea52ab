use Rattle.module_semantics.proofs.Growing.{statements_extend, items_extend}
use Rattle.module_semantics.proofs.evaluation_laws.what_was_made_stays.Goals as goal

pub returns-clause-statements : goal.returns-clause-statements
returns-clause-statements c = statements_extend

pub returns-clause-items : goal.returns-clause-items
returns-clause-items c = items_extend
