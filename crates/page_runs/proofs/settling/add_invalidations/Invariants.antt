use Rattle.std.proofs.Common.{◌≡◌, ◌++◌, drop}
use Rattle.page_state.specs.Settling.{invalidated}
use Rattle.page_runs.proofs.settling.add_invalidations.Given as goal

abbrev pub invariant-loop-message : goal.invariant-loop-message
invariant-loop-message l = l.unsent.items ++ invalidated l.name l.version (drop l.message-index l.messages) ≡ l.fn.unsent.items ++ invalidated l.name l.version l.messages
