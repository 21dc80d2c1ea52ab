use Rattle.std.proofs.Common.{◌≡◌, ◌∙◌, ap, subst}
use Rattle.turn_lock.specs.Histories.{grown}
use Rattle.hmr_hub.specs.Outcomes.{Answers}
use Rattle.hmr_hub.specs.Questions.{history_of, may_ask}
use Rattle.hmr_hub.proofs.keeping.RecordedCoreKeeps.apply.Goals as goal

pub answer-requires-clause-may : goal.answer-requires-clause-may
answer-requires-clause-may c = ap (λ q. may_ask c.args.by q) c.question.view_is ∙ c.requires

pub returns-clause-history : goal.returns-clause-history
returns-clause-history c =
    subst (λ q. history_of c.answer.new.self.entries ≡ grown (history_of c.args.self.now.entries) c.args.by q c.answer.result.1) c.question.view_is c.answer.ensures.history

pub returns-clause-answer : goal.returns-clause-answer
returns-clause-answer c = λ opening same.
    subst (λ q. Answers opening (history_of c.args.self.now.entries) c.args.by q c.answer.result.0 c.answer.result.1) c.question.view_is (c.answer.ensures.answer opening same)
