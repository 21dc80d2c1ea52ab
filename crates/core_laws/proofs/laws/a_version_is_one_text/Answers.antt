use Rattle.core_laws.proofs.Writing.{texts_on, current_written, served_written, written_stays}
use Rattle.core_laws.proofs.laws.a_version_is_one_text.Goals as goal

pub returns-clause-current : goal.returns-clause-current
returns-clause-current c = current_written

pub returns-clause-served : goal.returns-clause-served
returns-clause-served c = served_written

pub returns-clause-stays : goal.returns-clause-stays
returns-clause-stays c = written_stays

pub returns-clause-step : goal.returns-clause-step
returns-clause-step c = texts_on
