use Rattle.std.proofs.Common.{◌≡◌, ◌++◌, drop, take}
use Rattle.hot_events.specs.Rows.{first_in, taken_from}
use Rattle.hot_events.proofs.waiting.place_of.Given as goal

-- the client isn't among those before
abbrev pub invariant-loop-place : goal.invariant-loop-place
invariant-loop-place l = record {
  first : first_in l.client l.lists ≡ first_in l.client (drop l.place l.lists);
  taken : taken_from l.client l.lists ≡ take l.place l.lists ++ taken_from l.client (drop l.place l.lists);
}
