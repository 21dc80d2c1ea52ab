use Rattle.std.proofs.Common.{ap, sym, ◌∙◌}
use Rattle.std.specs.Prelude.{IfOk}
use Rattle.std.proofs.Math.Path.{subst}
use Rattle.client_model.specs.Taking.{is_applied}
use Rattle.runtime_state.specs.Becoming.{Becomes}
use Rattle.runtime_answers.proofs.Full.{told_applied}
use Rattle.answer_kinds.proofs.Notes.{done_answered, is_done_message, refused_answered}
use Rattle.runtime_answers.proofs.Rest.{on_ok}
use Rattle.hot_runtime.proofs.answering.answer.Goals as goal

pub done-requires-clause-room : goal.done-requires-clause-room
done-requires-clause-room g c = λ told.
    c.requires.room (ap (is_applied c.args.asked) (is_done_message c.args.msg (sym c.is_done.ensures ∙ c.if-is_done.true)) ∙ told_applied c.args.asked told)

pub returns-then-is_done-clause-becomes : goal.returns-then-is_done-clause-becomes
returns-then-is_done-clause-becomes g c = λ r k s e.
    subst (λ did. IfOk c.done.result (λ lines. Becomes did c.done.new.runtime lines.items))
    (sym (done_answered c.args.asked c.args.msg r (sym c.is_done.ensures ∙ c.if-is_done.true))) (c.done.ensures.becomes r k s e)

pub returns-then-is_note-clause-becomes : goal.returns-then-is_note-clause-becomes
returns-then-is_note-clause-becomes g c = λ r k s e.
    subst (λ did. IfOk c.refused.result (λ lines. Becomes did c.refused.new.runtime lines.items))
    (sym (refused_answered c.args.asked c.args.msg r (sym c.is_done.ensures ∙ c.if-is_done.false) (sym c.is_note.ensures ∙ c.if-is_note.true))) (c.refused.ensures.becomes r k s)

pub returns-then-is_note-clause-words : goal.returns-then-is_note-clause-words
returns-then-is_note-clause-words g c = on_ok c.refused.result (c.refused.ensures.words c.requires.words)

pub returns-clause-becomes : goal.returns-clause-becomes
returns-clause-becomes g c = λ r k s e. c.take_news.ensures.becomes r c.args.asked k s e c.requires.fits (sym c.is_note.ensures ∙ c.if-is_note.false)
