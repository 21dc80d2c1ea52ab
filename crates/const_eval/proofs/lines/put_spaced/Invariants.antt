use Rattle.std.proofs.Common.{◌≡◌, ◌++◌, drop}
use Rattle.std.specs.Prelude.{string_bytes}
use Rattle.module_semantics.specs.Bodies.{spaced}
use Rattle.const_eval.proofs.lines.put_spaced.Given as goal

-- what is written, and what is left to write, is the whole
abbrev pub invariant-loop-value : goal.invariant-loop-value
invariant-loop-value l = string_bytes l.out ++ spaced (drop l.value-index l.values) ≡ string_bytes l.initial.out ++ spaced l.values
