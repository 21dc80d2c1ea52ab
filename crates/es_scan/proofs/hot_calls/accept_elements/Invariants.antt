use Rattle.std.proofs.Common.{◌≤◌, ◌-◌, length}
use Rattle.es_scan.specs.Outlines.{IsOutlineOf, reach}
use Rattle.es_scan.proofs.hot_calls.accept_elements.Given as goal

abbrev pub invariant-loop-end : goal.invariant-loop-end
invariant-loop-end l = record {
  from : l.fn.from ≤ l.at;
  to : l.at ≤ length l.text;
  sound : IsOutlineOf l.text l.found;
  reach : reach l.found ≤ l.at;
  grows : length l.fn.found.specifiers.items ≤ length l.found.specifiers.items;
}

abbrev pub decreases-loop-end : goal.decreases-loop-end
decreases-loop-end l = length l.text - l.at
