use Rattle.std.proofs.Common.{◌≡◌, ◌++◌, drop, map}
use Rattle.module_semantics.specs.Canon.{comma_then, quoted}
use Rattle.hot_printer.proofs.item.put_later_texts.Given as goal

-- what is written, and the text of what is left, is the whole
abbrev pub invariant-loop-text : goal.invariant-loop-text
invariant-loop-text l = l.out.items ++ comma_then (map quoted (drop l.text-index l.texts)) ≡ l.initial.out.items ++ comma_then (map quoted l.texts)
