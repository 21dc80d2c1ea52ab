use Rattle.core_laws.proofs.Trying.{two_are_a_batch}
use Rattle.core_laws.proofs.examples.two_changes_are_a_batch.Goals as goal

pub returns-clause-batch : goal.returns-clause-batch
returns-clause-batch c = two_are_a_batch
