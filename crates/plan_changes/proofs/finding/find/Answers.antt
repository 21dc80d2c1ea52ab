use Rattle.std.proofs.Common.{◌+◌, ◌≤◌, length, ap, sym, ◌∙◌}
use Rattle.std.proofs.Math.Path.{subst}
use Rattle.hmr_types.specs.declared.limits.TheConstants.{INSTANCES}
use Rattle.plan_changes.specs.Finding.{IsToApply}
use Rattle.client_plan.specs.Planned.{count_in}
use Rattle.client_plan.specs.declared.under_way.Ready.{Ready}
use Rattle.client_plan.proofs.Ends.{fetch_not_finish, same_finish}
use Rattle.plan_changes.proofs.finding.find.Goals as goal

pub found_of-requires : goal.found_of-requires
found_of-requires g c = subst (λ next. length c.args.page.now.instances.items + count_in next ≤ INSTANCES) c.in-Finish.is c.requires

pub returns-in-Fetch-clause-found : goal.returns-in-Fetch-clause-found
returns-in-Fetch-clause-found g c = λ r p ready s is t. fetch_not_finish _ ready (sym c.in-Fetch.is ∙ is)

pub returns-in_ok-found-in-Finish-clause-count : goal.returns-in_ok-found-in-Finish-clause-count
returns-in_ok-found-in-Finish-clause-count g c = c.in_ok-found-in-Finish.ensures.count ∙ ap count_in (sym c.in-Finish.is)

pub returns-in_ok-found-in-Finish-clause-found : goal.returns-in_ok-found-in-Finish-clause-found
returns-in_ok-found-in-Finish-clause-found g c = λ r p ready s is t.
    let u = c.args.plan.now in
    let e = same_finish c.in-Finish.ready ready (sym c.in-Finish.is ∙ is) in
    record {
      found = c.in_ok-found-in-Finish.ensures.found r p s (subst (IsToApply r p u.plan c.in-Finish.ready u.trees.entries) (sym c.deref.ensures.value) (subst (λ (x : Ready). IsToApply r p u.plan x u.trees.entries u.pairs.items) (sym e) t));
      kind = c.in_ok-found-in-Finish.ensures.kind;
      whole = c.in_ok-found-in-Finish.ensures.whole ∙ ap (λ (x : Ready). x.whole) e;
    }
