use Rattle.std.proofs.Common.{◌≡◌, false, ap, sym, ◌∙◌, Some}
use Rattle.std.specs.Prelude.{is_none}
use Rattle.core_model.specs.Names.{has}
use Rattle.page_plan.specs.Walking.{KeptWalk}
use Rattle.page_plan.proofs.Moments.{at_pass, at_needed, at_met_kept}
use Rattle.page_plan.proofs.walker.Walker.visit.Goals as goal

pub returns-then-has-clause-at : goal.returns-then-has-clause-at
returns-then-has-clause-at c = rw (← c.self.view_is) (λ roots i. at_pass roots c.args.plan.now c.args.view.now c.args.name _ _ _ i (sym c.has.ensures ∙ c.if-has.true))

pub returns-in_ok-needed-in-None-clause-told : goal.returns-in_ok-needed-in-None-clause-told
returns-in_ok-needed-in-None-clause-told c = rw (← c.self.view_is) (λ roots i. at_needed roots c.args.plan.now c.args.view.now c.args.name _ _ _ i (sym c.has.ensures ∙ c.if-has.false) (ap is_none (sym c.in-None.ensures)) ∙ ap Some (sym c.in_ok-needed-in-None.ensures.name))

pub returns-in_ok-meet-in-Some-clause-at : goal.returns-in_ok-meet-in-Some-clause-at
returns-in_ok-meet-in-Some-clause-at c =
    let e = c.in_ok-meet-in-Some.ensures in
    let unmet : has c.args.self.now.met c.args.name ≡ false = sym (c.has.ensures ∙ ap (λ (k : KeptWalk). has k.met c.args.name) c.self.view_is) ∙ c.if-has.false in
    λ roots i. at_met_kept roots c.args.plan.now c.args.view.now c.args.name _ c.as_slice.result.now _ _ _ c.meet.new.self unmet c.in-Some.ensures c.as_slice.ensures e.tasks e.left e.met i
