use Rattle.std.proofs.Common.{◌≡◌, ◌++◌, drop, map}
use Rattle.module_tree.specs.Tree.{item_of}
use Rattle.module_semantics.specs.Canon.{canon}
use Rattle.hot_printer.proofs.module.put_items.Given as goal

-- what is written, and the text of what is left, is the whole
abbrev pub invariant-loop-item : goal.invariant-loop-item
invariant-loop-item l = l.out.items ++ canon (map item_of (drop l.item-index l.items)) ≡ l.initial.out.items ++ canon (map item_of l.items)
