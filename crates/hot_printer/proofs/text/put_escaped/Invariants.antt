use Rattle.std.proofs.Common.{◌≡◌, ◌++◌, drop}
use Rattle.module_semantics.specs.Canon.{all_escaped}
use Rattle.hot_printer.proofs.text.put_escaped.Given as goal

-- what is written, and the text of what is left, is the whole
abbrev pub invariant-loop-byte : goal.invariant-loop-byte
invariant-loop-byte l = l.out.items ++ all_escaped (drop l.byte-index l.text) ≡ l.initial.out.items ++ all_escaped l.text
