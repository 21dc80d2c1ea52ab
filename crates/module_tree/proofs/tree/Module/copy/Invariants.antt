use Rattle.std.proofs.Common.{◌≡◌, ◌++◌, drop, map}
use Rattle.module_tree.specs.Tree.{item_of}
use Rattle.module_tree.proofs.tree.Module.copy.Given as goal

-- the copies, and what is left to copy, are the whole
abbrev pub invariant-loop-item : goal.invariant-loop-item
invariant-loop-item l = map item_of l.items.items ++ map item_of (drop l.item-index l.self.items.items) ≡ map item_of l.self.items.items
