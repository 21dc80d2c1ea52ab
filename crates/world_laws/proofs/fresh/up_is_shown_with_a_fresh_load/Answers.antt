use Rattle.world_laws.proofs.Freshness.{up_shows}
use Rattle.world_laws.proofs.fresh.up_is_shown_with_a_fresh_load.Goals as goal

pub returns : goal.returns
returns c = up_shows
