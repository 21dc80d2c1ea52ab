use Rattle.std.proofs.Common.{◌≡◌, ◌+◌, ◌*◌, ◌≤◌, ◌++◌, length}
use Rattle.module_tree.specs.Tree.{expr_of}
use Rattle.hot_printer.specs.Rows.{at_place}
use Rattle.hot_printer.proofs.Rows.{Below, row_text, nodes, weight}
use Rattle.hot_printer.proofs.expression.+exprs.Given as goal

abbrev pub decreases-put_at : goal.decreases-put_at
decreases-put_at l = 4 * weight (expr_of l.e.now) + 2

abbrev pub decreases-put_first : goal.decreases-put_first
decreases-put_first l = 4 * weight (expr_of l.e.now) + 1

abbrev pub decreases-put_bare : goal.decreases-put_bare
decreases-put_bare l = 4 * weight (expr_of l.e.now)

abbrev pub decreases-put_neg : goal.decreases-put_neg
decreases-put_neg l = 4 * weight (expr_of l.a.now) + 3

abbrev pub decreases-put_choose : goal.decreases-put_choose
decreases-put_choose l = 4 * (weight (expr_of l.condition.now) + (weight (expr_of l.first.now) + weight (expr_of l.second.now))) + 3

abbrev pub decreases-put_right : goal.decreases-put_right
decreases-put_right l = 4 * weight (expr_of l.right.now) + 3

-- what is written, the text of the node where the walk stands, and that of the row behind it, are the whole
abbrev pub invariant-put_at-loop-first : goal.invariant-put_at-loop-first
invariant-put_at-loop-first l = record {
  whole : l.out.items ++ (at_place l.params l.asked (expr_of l.first) ++ row_text l.params (nodes l.row.items)) ≡ l.initial.out.items ++ at_place l.params l.place (expr_of l.fn.e);
  small : weight (expr_of l.first) ≤ weight (expr_of l.fn.e);
  below : Below (weight (expr_of l.fn.e)) (nodes l.row.items);
}

-- what is written, and the text of the row that is left, are the whole
abbrev pub invariant-put_at-loop-op : goal.invariant-put_at-loop-op
invariant-put_at-loop-op l = record {
  whole : l.out.items ++ row_text l.params (nodes l.row.items) ≡ l.fn.out.items ++ at_place l.params l.place (expr_of l.fn.e);
  below : Below (weight (expr_of l.fn.e)) (nodes l.row.items);
}

abbrev pub decreases-put_at-loop-op : goal.decreases-put_at-loop-op
decreases-put_at-loop-op l = length l.row.items
