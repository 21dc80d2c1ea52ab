use Rattle.std.proofs.Common.{◌≡◌, drop, map}
use Rattle.module_tree.specs.Tree.{item_of}
use Rattle.module_semantics.specs.Modules.{items_run}
use Rattle.const_eval.specs.States.{context_of, state_of}
use Rattle.const_eval.proofs.module.eval_items.Given as goal

-- what is left, from here, ends as all of it from the beginning
abbrev pub invariant-loop-item : goal.invariant-loop-item
invariant-loop-item l =
    items_run (context_of l.context) (map item_of (drop l.item-index l.items)) (state_of l.context l.state) ≡ items_run (context_of l.context) (map item_of l.items) (state_of l.context l.initial.state)
