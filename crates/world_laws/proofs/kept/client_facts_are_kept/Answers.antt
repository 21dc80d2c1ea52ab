use Rattle.world_laws.proofs.KeptClient.{client_begins, client_keeps, clients_keep}
use Rattle.world_laws.proofs.kept.client_facts_are_kept.Goals as goal

pub returns-clause-first : goal.returns-clause-first
returns-clause-first c = client_begins

pub returns-clause-step : goal.returns-clause-step
returns-clause-step c = client_keeps

pub returns-clause-world : goal.returns-clause-world
returns-clause-world c = clients_keep
