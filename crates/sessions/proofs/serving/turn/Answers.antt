use Rattle.std.proofs.Common.{rules, ◌≡◌, ℕ, List, [], ◌∷◌, refl, sym, ap, ◌∙◌, subst}
use Rattle.std.proofs.lemmas.Bool.{false≢true}
use Rattle.transport.specs.Told.{told_and, told_front}
use Rattle.hmr_base.specs.declared.out_fault.OutFault.TheVariants.{NoMemory}
use Rattle.message_text.specs.Values.{HasReading}
use Rattle.message_json.specs.Reading.{Fails}
use Rattle.message_json.specs.ClientReading.{client_of}
use Rattle.sessions.proofs.Courses.{closed, unreceived, refused, stopped, unsent, answered, answered_bye, reads_of}
use Rattle.sessions.proofs.serving.turn.Goals as goal

pub returns-in_err-bytes-clause-course : goal.returns-in_err-bytes-clause-course
returns-in_err-bytes-clause-course g c = unreceived _ _ _ _ _ _ _ _ c.from_residual.ensures.1 c.in_err-bytes.ensures.untaken c.recv.ensures.sent

pub returns-in_default-clause-course : goal.returns-in_default-clause-course
returns-in_default-clause-course g c = closed _ _ _ _ _ _ (c.in_ok-bytes.ensures.none c.in_default.is) c.recv.ensures.sent

pub returns-in_err-msg-clause-course : goal.returns-in_err-msg-clause-course
returns-in_err-msg-clause-course g c =
    refused c.in_err-msg.field-0.0 _ _ _ _ _ _ _ c.in-Some.bytes.items c.from_residual-in_err-msg.ensures.1 (rw c.in-Some.is at c.in_ok-bytes.ensures.some) c.recv.ensures.sent
    (λ d h. c.in_err-msg.ensures.read d (subst (λ b. HasReading b d) (sym c.deref.ensures.value) h))

pub returns-in_err-answer-clause-course : goal.returns-in_err-answer-clause-course
returns-in_err-answer-clause-course g c =
    stopped c.in_err-answer.field-0.0 _ _ _ _ _ _ _ _ c.in-Some.bytes.items c.in_ok-msg.msg c.from_residual-in_err-answer.ensures.1 (rw c.in-Some.is at c.in_ok-bytes.ensures.some) c.recv.ensures.sent
    c.in_err-answer.ensures.told (reads_of _ _ _ c.deref.ensures.value c.in_ok-msg.ensures.exact c.in_ok-msg.ensures.read)

pub encode-requires-clause-ranged : goal.encode-requires-clause-ranged
encode-requires-clause-ranged g c = c.in_ok-answer.ensures.written _ (c.format_after-format.ensures.format c.requires.format c.in_ok-msg.ensures.ranged)

pub returns-in_err-text-clause-course : goal.returns-in_err-text-clause-course
returns-in_err-text-clause-course g c =
    unsent NoMemory _ _ _ _ _ _ _ _ c.in-Some.bytes.items c.in_ok-msg.msg c.in_ok-answer.answer c.from_residual-in_err-text.ensures.1 (rw c.in-Some.is at c.in_ok-bytes.ensures.some) c.recv.ensures.sent
    c.in_ok-answer.ensures.told (reads_of _ _ _ c.deref.ensures.value c.in_ok-msg.ensures.exact c.in_ok-msg.ensures.read)

pub returns-in_err-send-clause-course : goal.returns-in_err-send-clause-course
returns-in_err-send-clause-course g c =
    unsent c.in_err-send.field-0.0 _ _ _ _ _ _ _ _ c.in-Some.bytes.items c.in_ok-msg.msg c.in_ok-answer.answer c.from_residual-in_err-send.ensures.1
    ((rw c.in-Some.is at c.in_ok-bytes.ensures.some) ∙ ap (λ x. told_front (c.in-Some.bytes.items ∷ []) x) (sym c.send.ensures.left))
    (c.in_err-send.ensures.unsent ∙ c.recv.ensures.sent)
    c.in_ok-answer.ensures.told (reads_of _ _ _ c.deref.ensures.value c.in_ok-msg.ensures.exact c.in_ok-msg.ensures.read)

pub returns-then-is_last-clause-course : goal.returns-then-is_last-clause-course
returns-then-is_last-clause-course g c =
    answered_bye _ c.format_after-format.result _ _ _ _ _ _ c.in-Some.bytes.items c.in_ok-msg.msg c.in_ok-answer.answer c.in_ok-text.text.items
    (c.is_bye-is_last.ensures.0 c.if-is_last.true) c.format_after-format.ensures.after
    ((rw c.in-Some.is at c.in_ok-bytes.ensures.some) ∙ ap (λ x. told_front (c.in-Some.bytes.items ∷ []) x) (sym c.send.ensures.left))
    c.in_ok-text.ensures.text
    (c.in_ok-send.ensures.sent ∙ (ap (λ x. told_and x (c.deref-2.result.now ∷ [])) c.recv.ensures.sent ∙ ap (λ x. told_and (g.L.Link.sent c.args.link.now) (x ∷ [])) c.deref-2.ensures.value))
    c.in_ok-answer.ensures.told (reads_of _ _ _ c.deref.ensures.value c.in_ok-msg.ensures.exact c.in_ok-msg.ensures.read)

pub returns-clause-course : goal.returns-clause-course
returns-clause-course g c =
    answered _ c.format_after-format.result _ _ _ _ _ _ c.in-Some.bytes.items c.in_ok-msg.msg c.in_ok-answer.answer c.in_ok-text.text.items
    (λ bye. false≢true (sym c.if-is_last.false ∙ c.is_bye-is_last.ensures.1 bye)) c.format_after-format.ensures.after
    ((rw c.in-Some.is at c.in_ok-bytes.ensures.some) ∙ ap (λ x. told_front (c.in-Some.bytes.items ∷ []) x) (sym c.send.ensures.left))
    c.in_ok-text.ensures.text
    (c.in_ok-send.ensures.sent ∙ (ap (λ x. told_and x (c.deref-2.result.now ∷ [])) c.recv.ensures.sent ∙ ap (λ x. told_and (g.L.Link.sent c.args.link.now) (x ∷ [])) c.deref-2.ensures.value))
    c.in_ok-answer.ensures.told (reads_of _ _ _ c.deref.ensures.value c.in_ok-msg.ensures.exact c.in_ok-msg.ensures.read)
