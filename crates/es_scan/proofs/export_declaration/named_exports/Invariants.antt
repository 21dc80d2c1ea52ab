use Rattle.std.proofs.Common.{◌≤◌, ◌<◌, ◌-◌, length}
use Rattle.es_scan.specs.Outlines.{IsOutlineOf, reach}
use Rattle.es_scan.proofs.export_declaration.named_exports.Given as goal

abbrev pub invariant-loop-found : goal.invariant-loop-found
invariant-loop-found l = record {
  from : l.fn.from < l.at;
  to : l.at ≤ length l.text;
  sound : IsOutlineOf l.text l.found;
  reach : reach l.found ≤ l.at;
  grows : length l.fn.found.exports.items ≤ length l.found.exports.items;
}

abbrev pub decreases-loop-found : goal.decreases-loop-found
decreases-loop-found l = length l.text - l.at
