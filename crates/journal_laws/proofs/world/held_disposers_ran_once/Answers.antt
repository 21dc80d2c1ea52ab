use Rattle.journal_laws.specs.Counts.{AreDisposedOnce, ArePrunedOnce}
use Rattle.journal_laws.specs.Ends.{AllEnd}
use Rattle.journal_laws.proofs.CountsOnce.{are_disposed_once, are_pruned_once}
use Rattle.journal_laws.proofs.HandlerEnds.{all_end}
use Rattle.journal_laws.proofs.InWorld.{of_each_client}
use Rattle.journal_laws.proofs.world.held_disposers_ran_once.Goals as goal

pub returns-clause-disposers : goal.returns-clause-disposers
returns-clause-disposers c language roots = of_each_client language roots AreDisposedOnce (are_disposed_once language)

pub returns-clause-prune_handlers : goal.returns-clause-prune_handlers
returns-clause-prune_handlers c language roots = of_each_client language roots ArePrunedOnce (are_pruned_once language)

pub returns-clause-ends : goal.returns-clause-ends
returns-clause-ends c language roots = of_each_client language roots AllEnd (all_end language)
