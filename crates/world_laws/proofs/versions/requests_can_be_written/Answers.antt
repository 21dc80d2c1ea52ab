use Rattle.world_laws.proofs.Unsent.{unsent_run, sayable_run}
use Rattle.world_laws.proofs.versions.requests_can_be_written.Goals as goal

pub returns-clause-unsent : goal.returns-clause-unsent
returns-clause-unsent c = unsent_run

pub returns-clause-requests : goal.returns-clause-requests
returns-clause-requests c = sayable_run
