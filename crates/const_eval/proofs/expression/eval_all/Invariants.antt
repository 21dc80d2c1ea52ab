use Rattle.std.proofs.Common.{◌≡◌, ◌++◌, drop, map, Ok}
use Rattle.module_tree.specs.Tree.{expr_of}
use Rattle.hmr_types.specs.Results.{◌>>=◌}
use Rattle.module_semantics.specs.Evaluation.{values_of}
use Rattle.const_eval.specs.Reads.{scope_of}
use Rattle.const_eval.proofs.expression.eval_all.Given as goal

-- the values so far and those of what is left are the values of all
abbrev pub invariant-loop-e : goal.invariant-loop-e
invariant-loop-e l =
    values_of (scope_of l.scope) (map expr_of (drop l.e-index l.es)) >>= (λ vs. Ok (l.values.items ++ vs)) ≡ values_of (scope_of l.scope) (map expr_of l.es)
