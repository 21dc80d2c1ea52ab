use Rattle.std.proofs.Common.{sym, ◌∙◌}
use Rattle.std.proofs.Math.Path.{subst}
use Rattle.std.proofs.lemmas.Option.{none-some, same_Some}
use Rattle.client_plan.specs.UnderWay.{IsUnderWay}
use Rattle.runtime_answers.proofs.answering.take_cause_of.Goals as goal

pub returns-in-Some-clause-none : goal.returns-in-Some-clause-none
returns-in-Some-clause-none c = λ e. absurd (none-some _ (sym e ∙ c.in-Some.is))

pub returns-in-Some-clause-some : goal.returns-in-Some-clause-some
returns-in-Some-clause-some c = λ u e r p i t. c.take_cause.ensures r p (subst (IsUnderWay r p) (sym (same_Some _ _ (sym c.in-Some.is ∙ e))) i) t

pub returns-in-None-clause-some : goal.returns-in-None-clause-some
returns-in-None-clause-some c = λ u e. absurd (none-some u (sym c.in-None.is ∙ e))
