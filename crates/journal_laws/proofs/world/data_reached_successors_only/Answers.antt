use Rattle.journal_laws.specs.Data.{SuccessorsInherit, DisposersHandOn, OthersInheritNothing}
use Rattle.journal_laws.proofs.DataDisposing.{disposers_hand_on}
use Rattle.journal_laws.proofs.DataInheriting.{successors_inherit, others_inherit}
use Rattle.journal_laws.proofs.InWorld.{of_each_client}
use Rattle.journal_laws.proofs.world.data_reached_successors_only.Goals as goal

pub returns-clause-successors : goal.returns-clause-successors
returns-clause-successors c language roots = of_each_client language roots SuccessorsInherit (successors_inherit language)

pub returns-clause-others : goal.returns-clause-others
returns-clause-others c language roots = of_each_client language roots OthersInheritNothing (others_inherit language)

pub returns-clause-disposers : goal.returns-clause-disposers
returns-clause-disposers c language roots = of_each_client language roots DisposersHandOn (disposers_hand_on language)
