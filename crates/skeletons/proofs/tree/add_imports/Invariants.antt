use Rattle.std.proofs.Common.{◌≡◌, ◌++◌, map, take}
use Rattle.module_tree.specs.Tree.{item_of}
use Rattle.skeletons.specs.Skeletons.{import_item}
use Rattle.skeletons.proofs.tree.add_imports.Given as goal

abbrev pub invariant-loop-name : goal.invariant-loop-name
invariant-loop-name l = map item_of l.items.items ≡ map item_of l.fn.items.items ++ map import_item (take l.name-index l.names)
