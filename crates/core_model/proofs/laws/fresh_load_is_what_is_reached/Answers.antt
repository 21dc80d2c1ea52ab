use Rattle.core_model.proofs.Membering.{loaded_is}
use Rattle.core_model.proofs.Loading.{reached_is, at_fresh}
use Rattle.core_model.proofs.laws.fresh_load_is_what_is_reached.Goals as goal

pub returns-clause-reached : goal.returns-clause-reached
returns-clause-reached c = reached_is

pub returns-clause-table : goal.returns-clause-table
returns-clause-table c = at_fresh

pub returns-clause-members : goal.returns-clause-members
returns-clause-members c = loaded_is
