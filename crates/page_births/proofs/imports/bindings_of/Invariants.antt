use Rattle.std.proofs.Common.{◌≡◌, ◌++◌, drop, map}
use Rattle.module_tree.specs.Tree.{item_of}
use Rattle.module_language.specs.ModuleLanguage.{bound_in}
use Rattle.page_instances.specs.Seeing.{binding_of}
use Rattle.page_births.proofs.imports.bindings_of.Given as goal

abbrev pub invariant-loop-item : goal.invariant-loop-item
invariant-loop-item l = map binding_of l.bounds.items ++ bound_in l.base (map item_of (drop l.item-index l.tree.items.items)) ≡ bound_in l.base (map item_of l.tree.items.items)
