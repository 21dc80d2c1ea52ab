use Rattle.std.proofs.Common.{◌≡◌, ◌++◌, drop, map}
use Rattle.module_tree.specs.Tree.{expr_of}
use Rattle.module_semantics.specs.Canon.{comma_then, expr_text}
use Rattle.hot_printer.proofs.expression.put_later_exprs.Given as goal

-- what is written, and the text of what is left, is the whole
abbrev pub invariant-loop-e : goal.invariant-loop-e
invariant-loop-e l =
    l.out.items ++ comma_then (map (expr_text l.params) (map expr_of (drop l.e-index l.es))) ≡ l.initial.out.items ++ comma_then (map (expr_text l.params) (map expr_of l.es))
