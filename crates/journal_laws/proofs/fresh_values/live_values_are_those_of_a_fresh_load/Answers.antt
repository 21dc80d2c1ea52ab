use Rattle.journal_laws.proofs.FreshWorld.{live_values_are_fresh}
use Rattle.journal_laws.proofs.fresh_values.live_values_are_those_of_a_fresh_load.Goals as goal

pub returns : goal.returns
returns c = live_values_are_fresh
