use Rattle.std.proofs.Common.{◌≡◌, sym, ◌∙◌}
use Rattle.std.specs.Prelude.{IfNone, None}
use Rattle.std.proofs.Math.Path.{subst}
use Rattle.client_model.specs.Linking.{next_needed}
use Rattle.client_model.specs.Order.{evaluation_order}
use Rattle.page_plan.specs.Walking.{IsAt}
use Rattle.client_plan.proofs.Readied.{came_to, goes_on, needed_same, order_same}
use Rattle.client_plan.proofs.planning.next_of.Goals as goal

pub returns-in-Some-clause-walk : goal.returns-in-Some-clause-walk
returns-in-Some-clause-walk c = λ r p v same walk.
    came_to r p c.args.plan.now c.args.view.now v same c.go_on.new.self (c.in_ok-name.ensures.at r.roots (goes_on r p c.args.plan.now c.args.view.now v same c.args.walker.now walk))

pub returns-in_ok-ready-in-None-clause-walk : goal.returns-in_ok-ready-in-None-clause-walk
returns-in_ok-ready-in-None-clause-walk c = λ r p v same walk.
    came_to r p c.args.plan.now c.args.view.now v same c.go_on.new.self (c.in_ok-name.ensures.at r.roots (goes_on r p c.args.plan.now c.args.view.now v same c.args.walker.now walk))

pub returns-in-Some-clause-next : goal.returns-in-Some-clause-next
returns-in-Some-clause-next c = λ r p v same trees walk.
    needed_same r p c.args.plan.now c.args.view.now v same
    ∙ sym (c.in_ok-name.ensures.needed r.roots (goes_on r p c.args.plan.now c.args.view.now v same c.args.walker.now walk)) ∙ c.in-Some.is

pub returns-in_ok-ready-in-None-clause-next : goal.returns-in_ok-ready-in-None-clause-next
returns-in_ok-ready-in-None-clause-next c = λ r p v same trees walk.
    let plan = c.args.plan.now in
    let view = c.args.view.now in
    let on : IsAt r.roots plan view c.args.walker.now = goes_on r p plan view v same c.args.walker.now walk in
    let none : next_needed p r ≡ None = needed_same r p plan view v same ∙ sym (c.in_ok-name.ensures.needed r.roots on) ∙ c.in-None.is in
    let order : c.go_on.new.self.left ≡ evaluation_order r.roots plan view =
    subst (λ needed. IfNone needed (c.go_on.new.self.left ≡ evaluation_order r.roots plan view)) c.in-None.is (c.in_ok-name.ensures.order r.roots on) in
    c.in_ok-ready-in-None.ensures r p v same trees (c.left.ensures ∙ order ∙ sym (order_same r p plan view v same)) none
