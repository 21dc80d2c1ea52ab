use Rattle.std.proofs.Common.{◌≡◌, take}
use Rattle.std.specs.Prelude.{Some}
use Rattle.std.specs.List.{AllZip}
use Rattle.module_tree.specs.declared.tree.Module.{Module}
use Rattle.core_model.specs.Names.{Name, at}
use Rattle.plan_changes.specs.Changing.{IsMadeOf}
use Rattle.plan_changes.proofs.births.births_of.Given as goal

-- those so far are made, and the trees that are left are some of those that were there
abbrev pub invariant-loop-name : goal.invariant-loop-name
invariant-loop-name l = record {
  made : AllZip (IsMadeOf l.plan l.view l.numbers l.live l.fn.trees.entries) (take l.name-index l.names) l.births.items;
  trees : (n : Name) (tree : Module) → at l.trees.entries n ≡ Some tree → at l.fn.trees.entries n ≡ Some tree;
}
