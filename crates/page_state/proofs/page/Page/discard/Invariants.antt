use Rattle.std.proofs.Common.{length}
use Rattle.page_state.proofs.page.Page.discard.Given as goal

abbrev pub decreases-loop-instance : goal.decreases-loop-instance
decreases-loop-instance g l = length l.instances.items
