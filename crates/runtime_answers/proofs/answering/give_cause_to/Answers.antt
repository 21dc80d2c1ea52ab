use Rattle.std.proofs.Common.{ap, sym, ◌∙◌}
use Rattle.std.specs.Prelude.{Some}
use Rattle.std.proofs.lemmas.Option.{none-some, same_Some}
use Rattle.client_plan.specs.declared.under_way.UnderWay.{UnderWay}
use Rattle.runtime_answers.proofs.answering.give_cause_to.Goals as goal

pub returns-in-Some-clause-none : goal.returns-in-Some-clause-none
returns-in-Some-clause-none c = λ e. absurd (none-some _ (sym e ∙ c.in-Some.is))

pub returns-in-Some-clause-some : goal.returns-in-Some-clause-some
returns-in-Some-clause-some c = λ u e. ap Some (ap (λ o. record c.in-Some.plan { cause = o }) c.put.ensures ∙ ap (λ (v : UnderWay). record v { cause = Some c.args.cause }) (same_Some _ _ (sym c.in-Some.is ∙ e)))

pub returns-in_default-clause-some : goal.returns-in_default-clause-some
returns-in_default-clause-some c = λ u e. absurd (none-some u (sym c.in_default.is ∙ e))
