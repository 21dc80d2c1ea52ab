use Rattle.world_laws.proofs.Freshness.{are_fresh}
use Rattle.world_laws.proofs.fresh.caught_up_client_is_fresh.Goals as goal

pub returns : goal.returns
returns c = are_fresh
