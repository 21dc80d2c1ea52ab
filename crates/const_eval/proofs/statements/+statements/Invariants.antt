use Rattle.std.proofs.Common.{◌≡◌, drop}
use Rattle.module_tree.specs.Tree.{stmts_of}
use Rattle.module_semantics.specs.Bodies.{run_all}
use Rattle.const_eval.specs.States.{context_of, state_of}
use Rattle.const_eval.proofs.statements.+statements.Given as goal

-- what is left, from here, ends as all of it from the beginning
abbrev pub invariant-run_stmts-loop-stmt : goal.invariant-run_stmts-loop-stmt
invariant-run_stmts-loop-stmt l =
    run_all (context_of l.context) (stmts_of (drop l.stmt-index l.stmts)) (state_of l.context l.state) ≡ run_all (context_of l.context) (stmts_of l.stmts) (state_of l.context l.initial.state)
