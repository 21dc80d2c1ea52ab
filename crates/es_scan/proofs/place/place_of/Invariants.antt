use Rattle.std.proofs.Common.{◌≡◌, ◌≢◌, ℕ, ◌+◌, ◌-◌, ◌≤◌, ◌<◌}
use Rattle.es_scan.specs.Places.{lines_before}
use Rattle.std.specs.Prelude.{slice_index}
use Rattle.es_scan.proofs.place.place_of.Given as goal

abbrev pub invariant-loop-i : goal.invariant-loop-i
invariant-loop-i l = record {
  line : l.line ≡ 1 + lines_before l.text l.i;
  few : l.line ≤ 1 + l.i;
  start : l.start ≤ l.i;
  begins : 0 < l.start → slice_index l.text (l.start - 1) ≡ 10;
  one_line : (k : ℕ) → l.start ≤ k → k < l.i → slice_index l.text k ≢ 10;
}
