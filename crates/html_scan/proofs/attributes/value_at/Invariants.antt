use Rattle.std.proofs.Common.{◌≡◌, ◌≢◌, ℕ, ◌≤◌, ◌<◌, false, get_or}
use Rattle.html_scan.specs.Pages.{ends}
use Rattle.html_scan.proofs.attributes.value_at.Given as goal

abbrev pub invariant-loop-at : goal.invariant-loop-at
invariant-loop-at l = record {
  inside : (k : ℕ) → l.from ≤ k → k < l.at → ends l.quoting (get_or l.text k 0) ≡ false;
  plain : l.has_references ≡ false → (k : ℕ) → l.from ≤ k → k < l.at → get_or l.text k 0 ≢ 38;
}
