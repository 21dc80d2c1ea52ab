use Rattle.module_semantics.proofs.Growing.{module_vars}
use Rattle.module_semantics.proofs.evaluation_laws.variables_are_the_declared_names.Goals as goal

pub returns : goal.returns
returns c = module_vars
