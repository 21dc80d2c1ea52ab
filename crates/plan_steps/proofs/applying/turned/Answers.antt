use Rattle.std.proofs.Common.{◌+◌, ◌≤◌, length, ap, sym, ◌∙◌}
use Rattle.std.proofs.Math.Path.{subst}
use Rattle.std.proofs.lemmas.Option.{none-some, same_Some}
use Rattle.hmr_types.specs.declared.limits.TheConstants.{INSTANCES}
use Rattle.page_plan.specs.Plans.{IsSamePlan}
use Rattle.plan_steps.specs.Applying.{IsTurned}
use Rattle.runtime_state.specs.Standing.{count_of}
use Rattle.plan_steps.proofs.applying.turned.Goals as goal

pub find-requires : goal.find-requires
find-requires g c = subst (λ o. length c.args.page.now.instances.items + count_of o ≤ INSTANCES) c.in-Some.is c.requires

pub returns-in_ok-renew-in-Some-clause-turned : goal.returns-in_ok-renew-in-Some-clause-turned
returns-in_ok-renew-in-Some-clause-turned g c = λ u e.
    let rest = c.find.ensures.rest in
    subst (λ v. IsTurned v c.args.page.now c.args.view.now c.renew.new.view c.args.forced.now c.in_ok-found-in-Some.found) (same_Some _ _ (sym c.in-Some.is ∙ e)) (record {
      found = c.in_ok-found-in-Some.ensures.found;
      view = λ r p ready v rises is ends same. c.in_ok-renew-in-Some.ensures r p ready v rises (ap (λ x. x.next) rest ∙ is) ends (subst (IsSamePlan p) (sym (ap (λ x. x.plan) rest)) same);
    })

pub returns-in-None-clause-turned : goal.returns-in-None-clause-turned
returns-in-None-clause-turned g c = λ u e. absurd (none-some u (sym c.in-None.is ∙ e))
