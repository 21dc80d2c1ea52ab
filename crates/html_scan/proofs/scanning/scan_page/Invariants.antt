use Rattle.std.proofs.Common.{◌≤◌, ◌-◌, length}
use Rattle.html_scan.specs.Pages.{IsPageOf, reach}
use Rattle.html_scan.proofs.scanning.scan_page.Given as goal

abbrev pub invariant-loop-at : goal.invariant-loop-at
invariant-loop-at l = record {
  to : l.at ≤ length l.text;
  sound : IsPageOf l.text l.page;
  reach : reach l.page ≤ l.at;
}

abbrev pub decreases-loop-at : goal.decreases-loop-at
decreases-loop-at l = length l.text - l.at
