use Rattle.module_language.proofs.Leaving.{evaluated_vars}
use Rattle.module_language.proofs.laws.variables_are_the_declared_names.Goals as goal

pub returns : goal.returns
returns c = evaluated_vars
