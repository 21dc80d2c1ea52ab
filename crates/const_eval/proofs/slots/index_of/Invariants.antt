use Rattle.std.proofs.Common.{◌≤◌, ◌++◌, length, drop}
use Rattle.const_eval.proofs.Lookups.{TellsFrom}
use Rattle.const_eval.proofs.slots.index_of.Given as goal

-- the places of the names from here on are kept
abbrev pub invariant-loop-place : goal.invariant-loop-place
invariant-loop-place l = record {
  tells : TellsFrom l.place l.places (drop l.place (l.first ++ l.second));
  below : l.place ≤ length (l.first ++ l.second);
}

abbrev pub decreases-loop-place : goal.decreases-loop-place
decreases-loop-place l = l.place
