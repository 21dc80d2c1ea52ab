use Rattle.std.proofs.Common.{◌≡◌, drop, map}
use Rattle.module_tree.specs.Tree.{item_of}
use Rattle.core_model.specs.Names.{first_of}
use Rattle.module_language.specs.ModuleLanguage.{bound_in}
use Rattle.client_plan.specs.Unlinked.{unlinked_among}
use Rattle.client_plan.proofs.linking.unlinked_in.Given as goal

-- those before give no cause
abbrev pub invariant-loop-item : goal.invariant-loop-item
invariant-loop-item l = first_of (unlinked_among l.plan l.view l.base (bound_in l.base (map item_of (drop l.item-index l.items)))) ≡ first_of (unlinked_among l.plan l.view l.base (bound_in l.base (map item_of l.items)))
