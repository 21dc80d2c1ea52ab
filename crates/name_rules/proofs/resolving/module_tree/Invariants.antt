use Rattle.std.proofs.Common.{◌≡◌, ◌++◌, drop, map}
use Rattle.module_tree.specs.Tree.{item_of}
use Rattle.raw_trees.specs.Raw.{raw_items_of}
use Rattle.module_semantics.specs.Resolving.{module_tree}
use Rattle.name_rules.proofs.resolving.module_tree.Given as goal

-- the tree so far, and that of what is left, are the whole
abbrev pub invariant-loop-item : goal.invariant-loop-item
invariant-loop-item l = map item_of l.tree.items ++ module_tree (raw_items_of (drop l.item-index l.items)) ≡ module_tree (raw_items_of l.items)
