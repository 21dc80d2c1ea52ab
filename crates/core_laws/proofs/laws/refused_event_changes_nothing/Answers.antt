use Rattle.core_laws.proofs.Refusing.{refused_is_nothing, same_is_nothing, late_is_nothing}
use Rattle.core_laws.proofs.laws.refused_event_changes_nothing.Goals as goal

pub returns-clause-refused : goal.returns-clause-refused
returns-clause-refused c = refused_is_nothing

pub returns-clause-same : goal.returns-clause-same
returns-clause-same c = same_is_nothing

pub returns-clause-late : goal.returns-clause-late
returns-clause-late c = late_is_nothing
