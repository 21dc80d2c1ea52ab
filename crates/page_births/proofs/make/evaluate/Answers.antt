use Rattle.std.proofs.Common.{◌≡◌, ap, ◌∙◌, IfOk}
use Rattle.std.proofs.Math.Path.{subst}
use Rattle.const_eval.specs.Answers.{evaluated_seen}
use Rattle.module_semantics.specs.Modules.{module_run}
use Rattle.module_tree.specs.Tree.{module_of}
use Rattle.page_instances.specs.Scopes.{bound_slots}
use Rattle.retained_data.specs.Bags.{bag_of}
use Rattle.page_births.proofs.make.evaluate.Goals as goal

pub returns-clause-evaluation : goal.returns-clause-evaluation
returns-clause-evaluation g c =
    let slots : c.in_ok-imports.imports.vars ≡ bound_slots c.args.page.now.instances.items c.args.birth.now.links c.args.bindings.now = c.in_ok-imports.ensures
    ∙ ap (λ is. bound_slots is c.as_slice-links.result.now c.args.bindings.now) c.deref.ensures.value
    ∙ ap (λ ls. bound_slots c.args.page.now.instances.items ls c.args.bindings.now) c.as_slice-links.ensures in
    subst (λ vs. IfOk c.eval_module.result (λ e. evaluated_seen e ≡ module_run (module_of c.args.birth.now.tree) vs (bag_of c.args.page.now.bags c.args.birth.now.name))) slots
    (subst (λ bag. IfOk c.eval_module.result (λ e. evaluated_seen e ≡ module_run (module_of c.args.birth.now.tree) c.in_ok-imports.imports.vars bag)) c.take-bag.ensures.bag c.eval_module.ensures)
