use Rattle.std.proofs.Common.{◌≤◌, ◌-◌, length}
use Rattle.html_scan.specs.Pages.{IsHead}
use Rattle.html_scan.proofs.scanning.head_place.Given as goal

abbrev pub invariant-loop-at : goal.invariant-loop-at
invariant-loop-at l = record {
  to : l.at ≤ length l.text;
  head : IsHead l.text l.head;
}

abbrev pub decreases-loop-at : goal.decreases-loop-at
decreases-loop-at l = length l.text - l.at
