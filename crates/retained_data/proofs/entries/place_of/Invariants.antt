use Rattle.std.proofs.Common.{◌≡◌, ◌+◌, drop}
use Rattle.retained_data.specs.Places.{place}
use Rattle.retained_data.proofs.entries.place_of.Given as goal

-- the place among what is left, counted from the beginning, is the place among all
abbrev pub invariant-loop-at : goal.invariant-loop-at
invariant-loop-at g l = l.at + place l.name (drop l.at l.entries) ≡ place l.fn.name l.fn.entries
