use Rattle.std.proofs.Common.{◌≡◌, ◌+◌, drop}
use Rattle.module_semantics.specs.Bytes.{is_blank, span}
use Rattle.hot_lexer.proofs.run.blank_run.Given as goal

abbrev pub invariant-loop-i : goal.invariant-loop-i
invariant-loop-i l = l.i + span is_blank (drop l.i l.bytes) ≡ span is_blank l.bytes
