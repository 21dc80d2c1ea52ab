use Rattle.std.proofs.Common.{◌≡◌, drop, map}
use Rattle.module_tree.specs.Tree.{item_of}
use Rattle.import_scan.specs.Scanning.{meant_of, with_items}
use Rattle.import_scan.proofs.specifiers.Meant.read_items.Given as goal

-- what is left, from here, means what all of it means from the beginning
abbrev pub invariant-loop-item : goal.invariant-loop-item
invariant-loop-item l = with_items l.base (meant_of l.self) (map item_of (drop l.item-index l.items)) ≡ with_items l.base (meant_of l.initial.self) (map item_of l.items)
