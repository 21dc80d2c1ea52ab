use Rattle.std.proofs.Common.{◌≤◌}
use Rattle.module_tree.specs.declared.tree.Expr.{size-Expr}
use Rattle.const_eval.proofs.mentions.+in_expr.Given as goal

-- the walk stands at a part of the expression
abbrev pub invariant-loop-first : goal.invariant-loop-first
invariant-loop-first l = size-Expr l.first ≤ size-Expr l.fn.e
