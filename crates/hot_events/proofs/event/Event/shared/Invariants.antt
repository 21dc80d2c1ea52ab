use Rattle.std.proofs.Common.{◌≡◌, All, length}
use Rattle.std.specs.Arc.{arc_value}
use Rattle.hot_events.proofs.event.Event.shared.Given as goal

-- as many as were counted, each with what was shared first
abbrev pub invariant-loop : goal.invariant-loop
invariant-loop l = record {
  count : length l.events.items ≡ l.counter;
  same : All (λ e. e ≡ arc_value l.first) l.events.items;
  first : arc_value l.first ≡ (l.event, l.value);
}
