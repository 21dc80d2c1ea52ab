use Rattle.std.proofs.Common.{◌≡◌, drop}
use Rattle.const_eval.specs.Places.{place_among}
use Rattle.const_eval.proofs.Lookups.{from}
use Rattle.const_eval.proofs.slots.walk_to.Given as goal

-- the first place among what is left, counted from the beginning, is the first among all
abbrev pub invariant-loop-place : goal.invariant-loop-place
invariant-loop-place l = from l.place (place_among l.name (drop l.place l.entries)) ≡ place_among l.fn.name l.fn.entries
