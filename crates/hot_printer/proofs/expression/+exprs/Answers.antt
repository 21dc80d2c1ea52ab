use Rattle.std.proofs.Common.{rules, ◌≡◌, ◌++◌, ◌∷◌, [], ap, ◌∙◌, Bool, nat_lt}
use Rattle.module_tree.specs.Syntax as tree
use Rattle.module_tree.specs.Tree.{expr_of}
use Rattle.module_tree.proofs.Rows.{expr_of-Binary}
use Rattle.module_semantics.specs.Canon.{op_level}
use Rattle.hot_printer.specs.Rows.{opening}
use Rattle.hot_printer.proofs.Rows.{weight, pushed, pushed_below, pushed_small, popped, popped_below}
use Rattle.hot_printer.proofs.expression.+exprs.Goals as goal

pub put_at-loop-first-preserved : goal.put_at-loop-first-preserved
put_at-loop-first-preserved t c =
    let seen : expr_of c.loop-first.first.now ≡ tree.binary c.in-Binary.op (expr_of c.in-Binary.left.value) (expr_of c.in-Binary.right.value) = ap expr_of c.in-Binary.is ∙ expr_of-Binary c.in-Binary.op c.in-Binary.left c.in-Binary.right in
    let node : expr_of c.loop-first.first.now ≡ tree.binary c.in-Binary.op (expr_of c.deref-first.result.now) (expr_of c.deref.result.now) = search (rules, seen) in
    let closed : Bool = nat_lt c.op_level.result c.loop-first.asked in
    let is : c.push.new.self.items ≡ c.loop-first.row.items ++ (c.in-Binary.op, c.deref.result, closed) ∷ [] = search rules in
    let tested : closed ≡ nat_lt (op_level c.in-Binary.op) c.loop-first.asked = ap (λ l. nat_lt l c.loop-first.asked) c.op_level.ensures.value in
    let opens : c.put_open.new.out.items ≡ c.loop-first.out.items ++ opening closed = search rules in
    let text = pushed c.args.params.now c.loop-first.out.items c.put_open.new.out.items _ c.loop-first.asked c.loop-first.row.items c.push.new.self.items (c.in-Binary.op, c.deref.result, closed) (expr_of c.loop-first.first.now) (expr_of c.deref-first.result.now) is node tested opens c.loop-first.invariant.whole in
    record {
      whole = rw c.op_level-asked.ensures.value text;
      small = pushed_small _ c.in-Binary.op (expr_of c.loop-first.first.now) (expr_of c.deref-first.result.now) _ node c.loop-first.invariant.small;
      below = pushed_below _ c.loop-first.row.items c.push.new.self.items (c.in-Binary.op, c.deref.result, closed) (expr_of c.loop-first.first.now) (expr_of c.deref-first.result.now) is node c.loop-first.invariant.small c.loop-first.invariant.below;
    }

pub put_at-put_right-requires : goal.put_at-put_right-requires
put_at-put_right-requires t c =
    let is : c.loop-op.row.items ≡ c.pop.new.self.items ++ (c.in-Some.op, c.in-Some.right, c.in-Some.closed) ∷ [] = search rules in
    let b = popped_below (weight (expr_of c.args.e.now)) c.loop-op.row.items c.pop.new.self.items (c.in-Some.op, c.in-Some.right, c.in-Some.closed) is c.loop-op.invariant.below in
    search (rules, b)

pub put_at-loop-op-preserved : goal.put_at-loop-op-preserved
put_at-loop-op-preserved t c =
    let is : c.loop-op.row.items ≡ c.pop.new.self.items ++ (c.in-Some.op, c.in-Some.right, c.in-Some.closed) ∷ [] = search rules in
    let b = popped_below (weight (expr_of c.args.e.now)) c.loop-op.row.items c.pop.new.self.items (c.in-Some.op, c.in-Some.right, c.in-Some.closed) is c.loop-op.invariant.below in
    record {
      whole = popped c.args.params.now c.loop-op.out.items c.put_right.new.out.items c.put_close.new.out.items _ c.loop-op.row.items c.pop.new.self.items (c.in-Some.op, c.in-Some.right, c.in-Some.closed) is (search rules) (search rules) c.loop-op.invariant.whole;
      below = b.0;
    }
