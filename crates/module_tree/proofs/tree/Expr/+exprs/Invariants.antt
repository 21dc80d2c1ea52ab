use Rattle.std.proofs.Common.{◌≡◌, ◌≤◌}
use Rattle.std.specs.Prelude.{vec_len}
use Rattle.module_tree.specs.declared.tree.Expr.{size-Expr}
use Rattle.module_tree.specs.Tree.{expr_of}
use Rattle.module_tree.proofs.Rows.{rowed}
use Rattle.module_tree.proofs.tree.Expr.+exprs.Given as goal

-- the row so far round what is left of it is the whole, and what is left is no larger
abbrev pub invariant-copy-loop-rest : goal.invariant-copy-loop-rest
invariant-copy-loop-rest l = record {
  whole : rowed l.row.items (expr_of l.rest) ≡ expr_of l.fn.self;
  smaller : size-Expr l.rest ≤ size-Expr l.fn.self;
}

-- the row that is left round the copy is the whole
abbrev pub invariant-copy-loop-op : goal.invariant-copy-loop-op
invariant-copy-loop-op l = rowed l.row.items (expr_of l.copy) ≡ expr_of l.fn.self

abbrev pub decreases-copy-loop-op : goal.decreases-copy-loop-op
decreases-copy-loop-op l = vec_len l.row
