use Rattle.std.proofs.Common.{◌≡◌, ◌++◌, drop, map}
use Rattle.module_tree.specs.Tree.{item_of}
use Rattle.module_semantics.specs.Modules.{declared_names, unset}
use Rattle.const_eval.proofs.module.unset.Given as goal

abbrev pub invariant-loop-item : goal.invariant-loop-item
invariant-loop-item l = l.vars.items ++ unset (declared_names (map item_of (drop l.item-index l.items))) ≡ unset (declared_names (map item_of l.items))
