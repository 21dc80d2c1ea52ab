use Rattle.core_laws.proofs.Numbers.{step_numbered, numbered}
use Rattle.core_laws.proofs.laws.clients_are_numbered.Goals as goal

pub returns-clause-step : goal.returns-clause-step
returns-clause-step c = step_numbered

pub returns-clause-always : goal.returns-clause-always
returns-clause-always c = numbered
