use Rattle.std.proofs.Common.{◌≡◌}
use Rattle.runtime_state.specs.Standing.{KeepsWords}
use Rattle.runtime_tests.proofs.transcript.play_all.Given as goal

-- the format is that of the beginning, and what is held keeps its word
abbrev pub invariant-loop-row : goal.invariant-loop-row
invariant-loop-row g l = record {
  format : l.runtime.format ≡ l.fn.runtime.format;
  words : KeepsWords (goal.F-post g) l.runtime;
}
