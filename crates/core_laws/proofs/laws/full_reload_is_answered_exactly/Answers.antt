use Rattle.core_laws.proofs.Replying.{reload_answered, reload_exactly}
use Rattle.core_laws.proofs.laws.full_reload_is_answered_exactly.Goals as goal

pub returns-clause-exactly : goal.returns-clause-exactly
returns-clause-exactly c = reload_exactly

pub returns-clause-told : goal.returns-clause-told
returns-clause-told c = reload_answered
