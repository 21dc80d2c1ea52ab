use Rattle.std.proofs.Common.{[], ◌∷◌, sym, ap, ◌∙◌, subst}
use Rattle.transport.specs.Told.{told_and}
use Rattle.message_text.specs.Values.{HasReading}
use Rattle.client_sessions.proofs.Exchanges.{if_err, no_memory, unsent, unanswered, peer_closed, refused, reads_of}
use Rattle.client_sessions.proofs.exchange.exchange.Goals as goal

pub returns-in_err-text-clause-ends : goal.returns-in_err-text-clause-ends
returns-in_err-text-clause-ends g c = if_err _ _ _ c.from_residual.ensures.1 (no_memory _ _ _ _ _)

pub returns-in_err-send-clause-ends : goal.returns-in_err-send-clause-ends
returns-in_err-send-clause-ends g c = if_err _ _ _ c.from_residual-in_err-send.ensures.1 (unsent c.in_err-send.field-0.0 _ _ _ _ _ _ c.send.ensures.left c.in_err-send.ensures.unsent)

pub returns-in_err-bytes-clause-ends : goal.returns-in_err-bytes-clause-ends
returns-in_err-bytes-clause-ends g c =
    if_err _ _ _ c.from_residual-in_err-bytes.ensures.1 (unanswered c.in_err-bytes.field-0.0 _ _ _ _ _ _ (c.in_err-bytes.ensures.untaken ∙ c.send.ensures.left)
    (c.recv.ensures.sent ∙ (c.in_ok-send.ensures.sent ∙ ap (λ x. told_and (g.L.Link.sent c.args.link.now) (x ∷ [])) (c.deref.ensures.value ∙ c.in_ok-text.ensures.text))))

pub returns-in_default-clause-ends : goal.returns-in_default-clause-ends
returns-in_default-clause-ends g c =
    peer_closed _ _ _ _ _ _ _ c.send.ensures.left (c.in_ok-bytes.ensures.none c.in_default.is)
    (c.recv.ensures.sent ∙ (c.in_ok-send.ensures.sent ∙ ap (λ x. told_and (g.L.Link.sent c.args.link.now) (x ∷ [])) (c.deref.ensures.value ∙ c.in_ok-text.ensures.text)))

pub returns-in_err-answer-clause-ends : goal.returns-in_err-answer-clause-ends
returns-in_err-answer-clause-ends g c =
    if_err _ _ _ c.from_residual-in_err-answer.ensures.1 (refused c.in_err-answer.field-0.0 _ _ _ _ _ _ c.in-Some.bytes.items
    (sym c.send.ensures.left ∙ (rw c.in-Some.is at c.in_ok-bytes.ensures.some))
    (c.recv.ensures.sent ∙ (c.in_ok-send.ensures.sent ∙ ap (λ x. told_and (g.L.Link.sent c.args.link.now) (x ∷ [])) (c.deref.ensures.value ∙ c.in_ok-text.ensures.text)))
    (λ d h. c.in_err-answer.ensures.read d (subst (λ b. HasReading b d) (sym c.deref-2.ensures.value) h)))

pub returns-clause-exchanged : goal.returns-clause-exchanged
returns-clause-exchanged g c = record {
  bytes = c.in-Some.bytes.items;
  left_is = sym c.send.ensures.left ∙ (rw c.in-Some.is at c.in_ok-bytes.ensures.some);
  sent_is = c.recv.ensures.sent ∙ (c.in_ok-send.ensures.sent ∙ ap (λ x. told_and (g.L.Link.sent c.args.link.now) (x ∷ [])) (c.deref.ensures.value ∙ c.in_ok-text.ensures.text));
  reads = reads_of _ _ _ _ c.deref-2.ensures.value c.in_ok-answer.ensures.exact c.in_ok-answer.ensures.read;
}
