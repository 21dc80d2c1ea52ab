use Rattle.journal_laws.specs.Values.{ValuesAreLeft}
use Rattle.journal_laws.proofs.ValuesLeft.{values_run}
use Rattle.journal_laws.proofs.InWorld.{of_each_client}
use Rattle.journal_laws.proofs.world.values_are_those_of_evaluations.Goals as goal

pub returns : goal.returns
returns c language roots = of_each_client language roots ValuesAreLeft (values_run language)
