use Rattle.std.proofs.Common.{◌≡◌, ◌++◌}
use Rattle.module_semantics.specs.Canon.{indent}
use Rattle.hot_printer.proofs.statement.put_indent.Given as goal

abbrev pub invariant-loop-block : goal.invariant-loop-block
invariant-loop-block l = l.out.items ≡ l.initial.out.items ++ indent l._block
