use Rattle.std.proofs.Common.{true, sym}
use Rattle.std.proofs.Math.Path.{subst}
use Rattle.core_model.specs.View.{View}
use Rattle.page_plan.specs.Walking.{IsAt}
use Rattle.client_plan.specs.UnderWay.{IsWalk}
use Rattle.client_plan.specs.Whole.{IsLoneFetched, IsWalkFetched}
use Rattle.client_plan.proofs.Readied.{gone_to}
use Rattle.client_plan.proofs.planning.next_after.Goals as goal

pub returns-in-Begun : goal.returns-in-Begun
returns-in-Begun c = λ r p roots view same trees walk.
    let at : IsAt c.args.roots.now p c.args.view.now c.in-Begun.walker = subst (IsWalkFetched c.args.roots.now p c.args.view.now c.args.name.now c.args.keeps) c.in-Begun.is walk in
    let here : IsAt r.roots p r.page.view c.in-Begun.walker = subst (λ ns. IsAt ns p r.page.view c.in-Begun.walker) (sym roots) (subst (λ (v : View). IsAt c.args.roots.now p v c.in-Begun.walker) (sym view) at) in
    gone_to r p c.next_of.result c.next_of.new.walker (c.next_of.ensures.next r p view same trees here) (c.next_of.ensures.walk r p view same here)

pub returns-then-keeps : goal.returns-then-keeps
returns-then-keeps c = λ r p roots view same trees walk.
    let lone : IsLoneFetched c.args.roots.now p c.args.view.now c.args.name.now c.args.keeps = subst (IsWalkFetched c.args.roots.now p c.args.view.now c.args.name.now c.args.keeps) c.in-Spared.is walk in (
      c.in_ok-ready-in-Spared.ensures r p view same trees (subst (λ ns. IsLoneFetched ns p r.page.view c.args.name.now true) (sym roots) (subst (λ (v : View). IsLoneFetched c.args.roots.now p v c.args.name.now true) (sym view)
          (subst (IsLoneFetched c.args.roots.now p c.args.view.now c.args.name.now) c.if-keeps.true lone))),
      tt,
    )

pub returns-in_ok-begun-in-Spared : goal.returns-in_ok-begun-in-Spared
returns-in_ok-begun-in-Spared c = λ r p roots view same trees walk.
    let on = c.in_ok-begun-in-Spared.ensures r p roots view same trees in
    (on.0, subst (IsWalk r p c.in_ok-begun-in-Spared.field-0.next) (sym c.put.ensures) on.1)
