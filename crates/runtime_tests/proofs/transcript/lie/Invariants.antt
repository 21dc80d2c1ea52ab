use Rattle.std.proofs.Common.{◌≡◌}
use Rattle.runtime_state.specs.Standing.{KeepsWords}
use Rattle.runtime_tests.proofs.transcript.lie.Given as goal

-- the format is that of the beginning, and what is held keeps its word
abbrev pub invariant-loop-kind : goal.invariant-loop-kind
invariant-loop-kind g l = record {
  format : l.runtime.format ≡ l.fn.runtime.format;
  words : KeepsWords (goal.F-post g) l.runtime;
}
