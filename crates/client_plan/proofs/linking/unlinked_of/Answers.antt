use Rattle.std.proofs.Common.{◌≡◌, map, ap, ◌∙◌}
use Rattle.std.specs.Prelude.{IfOk}
use Rattle.std.specs.Option.{option_map}
use Rattle.std.proofs.Math.Path.{subst}
use Rattle.module_tree.specs.Tree.{item_of}
use Rattle.core_model.specs.Names.{first_of}
use Rattle.module_language.specs.ModuleLanguage.{bound_in}
use Rattle.page_plan.proofs.Numbering.{found}
use Rattle.client_plan.specs.UnderWay.{cause_of}
use Rattle.client_plan.specs.Unlinked.{bound_of, unlinked_among}
use Rattle.client_plan.proofs.linking.unlinked_of.Goals as goal

pub returns-in-Some : goal.returns-in-Some
returns-in-Some c =
    let name = c.args.name.now in
    subst (λ tree. IfOk c.unlinked_in.result (λ cause. option_map cause_of cause ≡ first_of (unlinked_among c.args.plan.now c.args.view.now name (bound_of name tree))))
    (c.in-Some.ensures.value ∙ found name c.args.trees.now.entries)
    (subst (λ items. IfOk c.unlinked_in.result (λ cause. option_map cause_of cause ≡ first_of (unlinked_among c.args.plan.now c.args.view.now name (bound_in name (map item_of items)))))
    c.deref.ensures.value c.unlinked_in.ensures)

pub returns-in-None : goal.returns-in-None
returns-in-None c =
    let name = c.args.name.now in
    ap (λ tree. first_of (unlinked_among c.args.plan.now c.args.view.now name (bound_of name tree))) (c.in-None.ensures.value ∙ found name c.args.trees.now.entries)
