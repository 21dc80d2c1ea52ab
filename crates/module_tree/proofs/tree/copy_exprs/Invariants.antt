use Rattle.std.proofs.Common.{◌≡◌, ◌++◌, drop, map}
use Rattle.module_tree.specs.Tree.{expr_of}
use Rattle.module_tree.proofs.tree.copy_exprs.Given as goal

-- the copies, and what is left to copy, are the whole
abbrev pub invariant-loop-expr : goal.invariant-loop-expr
invariant-loop-expr l = map expr_of l.copies.items ++ map expr_of (drop l.expr-index l.exprs) ≡ map expr_of l.exprs
