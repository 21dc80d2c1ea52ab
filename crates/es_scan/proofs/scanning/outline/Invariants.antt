use Rattle.std.proofs.Common.{◌≤◌, ◌-◌, length}
use Rattle.es_scan.specs.Outlines.{IsOutlineOf, reach}
use Rattle.es_scan.proofs.scanning.outline.Given as goal

abbrev pub invariant-loop-at : goal.invariant-loop-at
invariant-loop-at l = record {
  to : l.at ≤ length l.text;
  sound : IsOutlineOf l.text l.found;
  reach : reach l.found ≤ l.at;
}

abbrev pub decreases-loop-at : goal.decreases-loop-at
decreases-loop-at l = length l.text - l.at
