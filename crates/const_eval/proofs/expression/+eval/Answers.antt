use Rattle.std.proofs.Common.{rules, ◌≡◌, ◌++◌, ◌∷◌, [], ap, ◌∙◌, refl, Result, Ok, Err}
use Rattle.module_semantics.specs.Scope.{Scope}
use Rattle.module_semantics.specs.Values.{with_right}
use Rattle.module_semantics.specs.Evaluation.{value_of}
use Rattle.const_eval.specs.Reads.{scope_of}
use Rattle.module_tree.specs.Tree.{expr_of}
use Rattle.module_tree.specs.Syntax.{ExprTree}
use Rattle.module_tree.specs.Syntax as tree
use Rattle.module_tree.proofs.Rows.{expr_of-Binary}
use Rattle.hmr_types.specs.declared.value.Value.{Value}
use Rattle.hmr_types.specs.declared.value.EvalFault.{EvalFault}
use Rattle.const_eval.proofs.Rows.{weight, run_row, steps, pushed, pushed_below, pushed_small, popped, popped_below, ended}
use Rattle.const_eval.proofs.expression.+eval.Goals as goal

pub eval_expr-loop-first-preserved : goal.eval_expr-loop-first-preserved
eval_expr-loop-first-preserved t c =
    let s : Scope = scope_of c.args.scope.now in
    let seen : expr_of c.loop-first.first.now ≡ tree.binary c.in-Binary.op (expr_of c.in-Binary.a.value) (expr_of c.in-Binary.b.value) = ap expr_of c.in-Binary.is ∙ expr_of-Binary c.in-Binary.op c.in-Binary.a c.in-Binary.b in
    let node : expr_of c.loop-first.first.now ≡ tree.binary c.in-Binary.op (expr_of c.deref-first.result.now) (expr_of c.deref.result.now) = search (rules, seen) in
    let is : c.push.new.self.items ≡ c.loop-first.row.items ++ (c.in-Binary.op, c.deref.result) ∷ [] = search rules in
    record {
      whole = pushed s c.loop-first.row.items c.push.new.self.items (c.in-Binary.op, c.deref.result) (expr_of c.loop-first.first.now) (expr_of c.deref-first.result.now) _ is node c.loop-first.invariant.whole;
      small = pushed_small _ c.in-Binary.op (expr_of c.loop-first.first.now) (expr_of c.deref-first.result.now) _ node c.loop-first.invariant.small;
      below = pushed_below _ c.loop-first.row.items c.push.new.self.items (c.in-Binary.op, c.deref.result) (expr_of c.loop-first.first.now) (expr_of c.deref-first.result.now) is node c.loop-first.invariant.small c.loop-first.invariant.below;
    }

pub eval_expr-returns-in_err-value : goal.eval_expr-returns-in_err-value
eval_expr-returns-in_err-value t c =
    let same : c.from_residual-in_err-value.result ≡ Err c.in_err-value.field-0.0 = search rules in
    ended (scope_of c.args.scope.now) c.loop-first.row.items _ _ _ _ same c.in_err-value.ensures c.loop-first.invariant.whole

pub eval_expr-eval_right-requires : goal.eval_expr-eval_right-requires
eval_expr-eval_right-requires t c =
    let is : c.loop-op.row.items ≡ c.pop.new.self.items ++ (c.in-Some.op, c.in-Some.right) ∷ [] = search rules in
    let b = popped_below (weight (expr_of c.args.e.now)) c.loop-op.row.items c.pop.new.self.items (c.in-Some.op, c.in-Some.right) is c.loop-op.invariant.below in
    search (rules, b)

pub eval_expr-loop-op-preserved : goal.eval_expr-loop-op-preserved
eval_expr-loop-op-preserved t c =
    let s : Scope = scope_of c.args.scope.now in
    let is : c.loop-op.row.items ≡ c.pop.new.self.items ++ (c.in-Some.op, c.in-Some.right) ∷ [] = search rules in
    let one : Ok c.in_ok-value-2.value ≡ with_right c.in-Some.op c.loop-op.value (value_of s (expr_of c.in-Some.right.now)) = search rules in
    let b = popped_below (weight (expr_of c.args.e.now)) c.loop-op.row.items c.pop.new.self.items (c.in-Some.op, c.in-Some.right) is c.loop-op.invariant.below in
    record {
      whole = popped s c.loop-op.row.items c.pop.new.self.items (c.in-Some.op, c.in-Some.right) c.loop-op.value _ (Ok c.in_ok-value-2.value) is one c.loop-op.invariant.whole;
      below = b.0;
    }

pub eval_expr-returns-in_err-value-2 : goal.eval_expr-returns-in_err-value-2
eval_expr-returns-in_err-value-2 t c =
    let s : Scope = scope_of c.args.scope.now in
    let is : c.loop-op.row.items ≡ c.pop.new.self.items ++ (c.in-Some.op, c.in-Some.right) ∷ [] = search rules in
    let right : Result Value EvalFault = with_right c.in-Some.op c.loop-op.value (value_of s (expr_of c.in-Some.right.now)) in
    let all : Result Value EvalFault = value_of s (expr_of c.args.e.now) in
    let same : c.from_residual-in_err-value-2.result ≡ Err c.in_err-value-2.field-0.0 = search rules in
    let whole : run_row s (steps c.pop.new.self.items) right ≡ all =
    popped s c.loop-op.row.items c.pop.new.self.items (c.in-Some.op, c.in-Some.right) c.loop-op.value all right is refl c.loop-op.invariant.whole in
    ended s c.pop.new.self.items c.from_residual-in_err-value-2.result c.in_err-value-2.field-0.0 right all same c.in_err-value-2.ensures whole
