use Rattle.std.proofs.Common.{sym, ◌∙◌}
use Rattle.std.specs.Prelude.{OnOk}
use Rattle.std.proofs.Math.Path.{subst}
use Rattle.std.proofs.lemmas.Option.{none-some, same_Some}
use Rattle.plan_steps.specs.Fetching.{IsStaged}
use Rattle.plan_steps.proofs.Fetched.{staged_in}
use Rattle.plan_steps.proofs.fetching.stage_for.Goals as goal

pub returns-in-Some-clause-none : goal.returns-in-Some-clause-none
returns-in-Some-clause-none c = λ e. absurd (none-some _ (sym e ∙ c.in-Some.is))

pub returns-in-Some-clause-staged : goal.returns-in-Some-clause-staged
returns-in-Some-clause-staged c = λ u e.
    subst (λ v. OnOk c.fetched.result (IsStaged v c.args.roots.now c.args.view.now c.args.name.now c.args.version c.args.text.now c.fetched.new.plan)) (same_Some _ _ (sym c.in-Some.is ∙ e))
    (staged_in c.fetched.result c.in-Some.plan c.fetched.new.plan c.args.roots.now c.args.view.now c.args.name.now c.args.version c.args.text.now c.fetched.ensures.under_way c.fetched.ensures.planned)

pub returns-in-None-clause-staged : goal.returns-in-None-clause-staged
returns-in-None-clause-staged c = λ u e. absurd (none-some u (sym c.in-None.is ∙ e))
