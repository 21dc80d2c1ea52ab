use Rattle.std.proofs.Common.{sym, ◌∙◌}
use Rattle.runtime_answers.proofs.Taken.{did_taken, full_taken, unexpected_taken}
use Rattle.hot_runtime.proofs.taking.take_answer.Goals as goal

pub returns-then-not-is_answer-clause-takes : goal.returns-then-not-is_answer-clause-takes
returns-then-not-is_answer-clause-takes g c = λ r k s e.
    unexpected_taken r c.args.msg c.args.runtime.now k s c.requires.running c.args.asked c.request_place.result c.answer_place.result e
    (sym c.is_answer.ensures ∙ c.if-not-is_answer.true) c.request_place.ensures c.answer_place.ensures

pub returns-then-overfills-clause-takes : goal.returns-then-overfills-clause-takes
returns-then-overfills-clause-takes g c = λ r k s e.
    full_taken r c.args.msg c.args.runtime.now k s c.requires.running c.args.asked e (sym c.is_answer.ensures ∙ c.if-not-is_answer.false)
    (sym (c.overfills.ensures.many r k e) ∙ c.if-overfills.true)

pub answer-requires-clause-fits : goal.answer-requires-clause-fits
answer-requires-clause-fits g c = sym c.is_answer.ensures ∙ c.if-not-is_answer.false

pub answer-requires-clause-room : goal.answer-requires-clause-room
answer-requires-clause-room g c = λ applied. c.overfills.ensures.room c.if-overfills.false applied

pub returns-in-Ok-clause-takes : goal.returns-in-Ok-clause-takes
returns-in-Ok-clause-takes g c = λ r k s e.
    did_taken r c.args.msg c.args.runtime.now k s c.requires.running c.args.asked c.answer.new.runtime c.in-Ok.lines e (sym c.is_answer.ensures ∙ c.if-not-is_answer.false)
    (sym (c.overfills.ensures.many r k e) ∙ c.if-overfills.false) (c.in-Ok.ensures.becomes r k s e)
