use Rattle.journal_laws.proofs.FreshWorld.{values_are_fresh}
use Rattle.journal_laws.proofs.fresh_values.values_are_those_of_a_fresh_load.Goals as goal

pub returns : goal.returns
returns c = values_are_fresh
