use Rattle.world_laws.proofs.Making.{one_run, live_run}
use Rattle.world_laws.proofs.instances.page_is_live.Goals as goal

pub returns-clause-one : goal.returns-clause-one
returns-clause-one c = one_run

pub returns-clause-page : goal.returns-clause-page
returns-clause-page c = live_run
