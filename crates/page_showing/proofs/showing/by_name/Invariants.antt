use Rattle.std.proofs.Common.{◌≡◌, ◌≤◌, drop, length}
use Rattle.core_model.specs.Names.{Name, at}
use Rattle.page_state.specs.Live.{number_of}
use Rattle.page_showing.proofs.showing.by_name.Given as goal

-- those from the last on are there
abbrev pub invariant-loop-left : goal.invariant-loop-left
invariant-loop-left l = record {
  within : l.left ≤ length l.links;
  numbers : (n : Name) → number_of l.numbers n ≡ at (drop l.left l.links) n;
}

abbrev pub decreases-loop-left : goal.decreases-loop-left
decreases-loop-left l = l.left
