use Rattle.std.proofs.Common.{◌≤◌, ◌-◌, length}
use Rattle.css_scan.specs.Styles.{IsStyleOf, reach}
use Rattle.css_scan.proofs.scanning.scan_style.Given as goal

abbrev pub invariant-loop-alloc : goal.invariant-loop-alloc
invariant-loop-alloc l = record {
  to : l.at ≤ length l.text;
  sound : IsStyleOf l.text l.found;
  reach : reach l.found ≤ l.at;
}

abbrev pub decreases-loop-alloc : goal.decreases-loop-alloc
decreases-loop-alloc l = length l.text - l.at
