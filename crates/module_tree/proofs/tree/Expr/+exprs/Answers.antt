use Rattle.std.proofs.Common.{rules, arith, ◌≡◌, ap, ◌∙◌}
use Rattle.module_tree.specs.declared.tree.Expr.{size-Expr}
use Rattle.module_tree.specs.Syntax.{binary}
use Rattle.module_tree.specs.Tree.{expr_of}
use Rattle.module_tree.proofs.Rows.{expr_of-Binary, left_no_larger, pushed, popped}
use Rattle.module_tree.proofs.tree.Expr.+exprs.Goals as goal

pub copy-loop-rest-preserved : goal.copy-loop-rest-preserved
copy-loop-rest-preserved t c =
    let node : expr_of c.loop-rest.rest.now ≡ binary c.in-Binary.op (expr_of c.in-Binary.left.value) (expr_of c.in-Binary.right.value) =
    ap expr_of c.in-Binary.is ∙ expr_of-Binary c.in-Binary.op c.in-Binary.left c.in-Binary.right in
    record {
      whole = pushed c.loop-rest.row.items c.push.new.self.items c.in-Binary.op c.in_ok-copy-in-Binary.field-0 (expr_of c.loop-rest.rest.now) (expr_of c.deref-rest.result.now) (expr_of c.deref.result.now) _ (search rules) (search (rules, node)) (search rules) c.loop-rest.invariant.whole;
      smaller = omega (arith, ap size-Expr c.deref-rest.ensures, left_no_larger c.in-Binary.op c.in-Binary.left c.in-Binary.right, ap size-Expr c.in-Binary.is, c.loop-rest.invariant.smaller);
    }

pub copy-loop-op-preserved : goal.copy-loop-op-preserved
copy-loop-op-preserved t c =
    popped c.loop-op.row.items c.pop.new.self.items c.in-Some.op c.in-Some.right (expr_of c.loop-op.copy) (expr_of c.in_ok-copy.copy) _ (search rules) (search rules) c.loop-op.invariant
