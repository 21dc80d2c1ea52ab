use Rattle.std.proofs.Common.{[], refl, sym, ◌∙◌}
use Rattle.std.proofs.Math.Path.{subst}
use Rattle.hmr_types.specs.declared.words.PlanKind.TheVariants.{Reload}
use Rattle.core_model.specs.Page.{new_plan}
use Rattle.page_plan.specs.Plans.{IsSamePlan}
use Rattle.plan_starts.proofs.Started.{reload_becomes}
use Rattle.plan_starts.proofs.beginning.start_reload.Goals as goal

pub returns-clause-becomes : goal.returns-clause-becomes
returns-clause-becomes g c = λ r k s.
    let same : IsSamePlan (new_plan Reload []) c.new-reload.result = subst (IsSamePlan (new_plan Reload [])) (sym c.new-reload.ensures) (record { kind = refl; replaced = λ n. refl; staged = λ n. refl }) in
    reload_becomes c.args.cause c.args.path c.args.batch c.args.triggered r c.args.runtime.now c.in_ok-plan.plan _ _ k s
    (c.in_ok-plan.ensures.under_way r Reload [] (k.roots ∙ sym c.as_slice.ensures) k.view same)
    (c.in_ok-plan.ensures.planned Reload [] c.args.runtime.now.loaded same (λ e. absurd (cc)))
    c.put.ensures c.in_ok-lines.ensures
