use Rattle.std.proofs.Common.{◌≤◌}
use Rattle.module_tree.specs.declared.tree.Expr.{size-Expr}
use Rattle.module_tree.proofs.tree.Expr.+drop.Given as goal

-- no deeper than what was to be dropped
abbrev pub invariant-loop-self : goal.invariant-loop-self
invariant-loop-self l = size-Expr l.self ≤ size-Expr l.initial.self
