use Rattle.core_laws.proofs.Givens.{served_once, given_stays}
use Rattle.core_laws.proofs.laws.version_is_served_once.Goals as goal

pub returns-clause-once : goal.returns-clause-once
returns-clause-once c = served_once

pub returns-clause-stays : goal.returns-clause-stays
returns-clause-stays c = given_stays
