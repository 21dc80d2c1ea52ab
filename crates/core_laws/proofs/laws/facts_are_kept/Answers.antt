use Rattle.core_laws.proofs.Givens.{sources_facts}
use Rattle.core_laws.proofs.Events.{client_facts, facts_on}
use Rattle.core_laws.proofs.laws.facts_are_kept.Goals as goal

pub returns-clause-sources : goal.returns-clause-sources
returns-clause-sources c = sources_facts

pub returns-clause-clients : goal.returns-clause-clients
returns-clause-clients c = client_facts

pub returns-clause-step : goal.returns-clause-step
returns-clause-step c = facts_on
