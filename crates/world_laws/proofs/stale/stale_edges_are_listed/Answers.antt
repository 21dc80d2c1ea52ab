use Rattle.world_laws.proofs.StaleLists.{stale_rises, listed_are}
use Rattle.world_laws.proofs.Making.{listed_run}
use Rattle.world_laws.proofs.stale.stale_edges_are_listed.Goals as goal

pub returns-clause-rising : goal.returns-clause-rising
returns-clause-rising c = stale_rises

pub returns-clause-live : goal.returns-clause-live
returns-clause-live c = listed_are

pub returns-clause-exactly : goal.returns-clause-exactly
returns-clause-exactly c = listed_run
