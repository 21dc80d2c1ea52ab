use Rattle.std.proofs.Common.{◌≡◌, ◌+◌, ◌*◌, ◌≤◌, List, Ok, length}
use Rattle.module_tree.specs.Syntax.{ExprTree}
use Rattle.module_tree.specs.Tree.{expr_of}
use Rattle.module_semantics.specs.Scope.{Scope}
use Rattle.module_semantics.specs.Evaluation.{value_of}
use Rattle.const_eval.specs.Reads.{scope_of}
use Rattle.module_tree.specs.declared.tree.Op.{Op}
use Rattle.const_eval.proofs.Rows.{weight, run_row, Below, steps}
use Rattle.const_eval.proofs.expression.+eval.Given as goal

abbrev pub decreases-eval_expr : goal.decreases-eval_expr
decreases-eval_expr l = 2 * weight (expr_of l.e.now) + 1

abbrev pub decreases-eval_first : goal.decreases-eval_first
decreases-eval_first l = 2 * weight (expr_of l.e.now)

abbrev pub decreases-eval_right : goal.decreases-eval_right
decreases-eval_right l = 2 * weight (expr_of l.right.now) + 2

-- the row so far, from the node where the walk stands, is the whole
abbrev pub invariant-eval_expr-loop-first : goal.invariant-eval_expr-loop-first
invariant-eval_expr-loop-first l =
    let s : Scope = scope_of l.scope in
    let row : List (Op × ExprTree) = steps l.row.items in
    record {
      whole : run_row s row (value_of s (expr_of l.first)) ≡ value_of s (expr_of l.fn.e);
      small : weight (expr_of l.first) ≤ weight (expr_of l.fn.e);
      below : Below (weight (expr_of l.fn.e)) row;
    }

-- what is left of the row makes of the value so far the whole
abbrev pub invariant-eval_expr-loop-op : goal.invariant-eval_expr-loop-op
invariant-eval_expr-loop-op l =
    let s : Scope = scope_of l.scope in
    let row : List (Op × ExprTree) = steps l.row.items in
    record {
      whole : run_row s row (Ok l.value) ≡ value_of s (expr_of l.fn.e);
      below : Below (weight (expr_of l.fn.e)) row;
    }

abbrev pub decreases-eval_expr-loop-op : goal.decreases-eval_expr-loop-op
decreases-eval_expr-loop-op l = length l.row.items
