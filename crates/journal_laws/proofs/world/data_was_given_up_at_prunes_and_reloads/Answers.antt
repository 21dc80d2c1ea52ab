use Rattle.journal_laws.specs.GivingUp.{BagsGoAtPrunes, AllBagsGoAtReloads}
use Rattle.journal_laws.proofs.GivingUp.{bags_go_at_prunes, all_bags_go_at_reloads}
use Rattle.journal_laws.proofs.InWorld.{of_each_client}
use Rattle.journal_laws.proofs.world.data_was_given_up_at_prunes_and_reloads.Goals as goal

pub returns-clause-one : goal.returns-clause-one
returns-clause-one c language roots = of_each_client language roots BagsGoAtPrunes (bags_go_at_prunes language)

pub returns-clause-all : goal.returns-clause-all
returns-clause-all c language roots = of_each_client language roots AllBagsGoAtReloads (all_bags_go_at_reloads language)
