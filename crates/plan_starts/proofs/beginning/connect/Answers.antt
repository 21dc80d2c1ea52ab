use Rattle.std.proofs.Common.{[], refl, sym}
use Rattle.std.proofs.Math.Path.{subst}
use Rattle.hmr_types.specs.declared.words.PlanKind.TheVariants.{Load}
use Rattle.core_model.specs.Page.{new_plan}
use Rattle.page_plan.specs.Plans.{IsSamePlan}
use Rattle.plan_starts.proofs.Started.{connect_becomes, numbered_run}
use Rattle.plan_starts.proofs.beginning.connect.Goals as goal

pub returns-clause-becomes : goal.returns-clause-becomes
returns-clause-becomes g c = λ r k s fresh.
    let same : IsSamePlan (new_plan Load []) c.new-load.result = subst (IsSamePlan (new_plan Load [])) (sym c.new-load.ensures) (record { kind = refl; replaced = λ n. refl; staged = λ n. refl }) in
    connect_becomes c.args.client c.args.roots _ r c.args.runtime.now c.in_ok-plan.plan _ _ k s fresh
    (c.in_ok-plan.ensures.under_way (numbered_run c.args.client c.args.roots r) Load [] (sym c.as_slice.ensures) k.view same)
    (c.in_ok-plan.ensures.planned Load [] c.args.runtime.now.loaded same (λ e. fresh))
    c.put-2.ensures c.put.ensures c.new.ensures.items
