use Rattle.std.proofs.Common.{◌≡◌, ◌+◌, ◌++◌, drop, length, take}
use Rattle.std.specs.List.{All}
use Rattle.hot_events.specs.Calls.{Event}
use Rattle.hot_events.specs.Rows.{added_to_each}
use Rattle.hot_events.proofs.waiting.add_to_each.Given as goal

-- the event is added to those before; there is one more for each that is left
abbrev pub invariant-loop-place : goal.invariant-loop-place
invariant-loop-place l = record {
  count : length l.events.items + l.place ≡ length l.initial.lists;
  same : length l.lists ≡ length l.initial.lists;
  added : (event : Event) → All (λ e. e ≡ event) l.initial.events.items
      → All (λ e. e ≡ event) l.events.items
      × (l.lists ≡ added_to_each event (take l.place l.initial.lists) ++ drop l.place l.initial.lists);
}
