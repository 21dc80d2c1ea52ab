use Rattle.std.proofs.Common.{◌≡◌, ◌+◌, drop}
use Rattle.module_semantics.specs.Bytes.{is_name_byte, span}
use Rattle.hot_lexer.proofs.run.name_run.Given as goal

abbrev pub invariant-loop-i : goal.invariant-loop-i
invariant-loop-i l = l.i + span is_name_byte (drop l.i l.bytes) ≡ span is_name_byte l.bytes
