use Rattle.std.proofs.Common.{◌≡◌, ◌++◌, drop}
use Rattle.module_semantics.specs.Canon.{comma_then}
use Rattle.hot_printer.proofs.names.put_later_names.Given as goal

-- what is written, and the text of what is left, is the whole
abbrev pub invariant-loop-name : goal.invariant-loop-name
invariant-loop-name l = l.out.items ++ comma_then (drop l.name-index l.names) ≡ l.initial.out.items ++ comma_then l.names
