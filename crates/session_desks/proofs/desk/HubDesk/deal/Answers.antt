use Rattle.std.proofs.Common.{◌≡◌, true, false, refl, ap, sym, ◌∙◌, subst}
use Rattle.std.specs.Prelude.{◌==◌, Ok}
use Rattle.std.proofs.lemmas.Bool.{false≢true}
use Rattle.core_model.specs.Exchange.{event_of}
use Rattle.core_model.specs.declared.refusal.Refusal.TheVariants.{Ignored}
use Rattle.client_exchange.specs.Messages.{is_hello}
use Rattle.client_exchange.specs.Replies.{client_after}
use Rattle.transcripts.specs.Transcripts.{HasVersion}
use Rattle.session_desks.specs.Telling.{Told}
use Rattle.session_desks.proofs.Answering.{never_none, reply_for_client, reply_writable}
use Rattle.session_desks.proofs.Dealing.{dealt_heard, dealt_refused, unrefused, version_refused}
use Rattle.session_desks.proofs.desk.HubDesk.deal.Goals as goal
use Rattle.session_desks.proofs.desk.HubDesk.deal.Goals.{else-self-ne0-via-then-self-ne0+else-is_hello, else-self-ne0-via-else-self-ne0}

pub returns-then-not-has_version-clause-dealt : goal.returns-then-not-has_version-clause-dealt
returns-then-not-has_version-clause-dealt g c =
    let unversioned : HasVersion (event_of c.args.self.now.client c.args.msg) → ⊥ = λ v. false≢true (sym c.if-not-has_version.true ∙ c.has_version.ensures.1 (subst HasVersion (sym c.event_of-event.ensures) v)) in
    dealt_refused c.args.msg c.args.self.now Ignored c.refusal_message-then-not-has_version.result (version_refused c.args.self.now.client c.args.msg unversioned) c.refusal_message-then-not-has_version.ensures

pub unreachable-requires : goal.unreachable-requires
unreachable-requires g c =
    never_none c.in_ok-reply.reply c.message_in.result
    (reply_for_client c.args.self.now.client c.args.msg _ c.in_ok-reply.reply c.args.self.now.pass c.tell.new.pass c.event_of-event.ensures c.in_ok-reply.ensures.told.called)
    c.message_in.ensures c.in_default.is

pub returns-clause-dealt : goal.returns-clause-dealt
returns-clause-dealt g c =
    let hello : is_hello c.args.msg ≡ true → (c.args.self.now.client == 0) ≡ true =
    elim c.else-self-ne0.branch as (λ _. is_hello c.args.msg ≡ true → (c.args.self.now.client == 0) ≡ true) [
      | else-self-ne0-via-then-self-ne0+else-is_hello w ↦ λ h. absurd (false≢true (sym w.if-is_hello.false ∙ (w.is_hello.ensures ∙ h)))
      | else-self-ne0-via-else-self-ne0 w ↦ λ h. ap (λ n. n == 0) w.if-self-ne0.false
    ] in
    let version : HasVersion (event_of c.args.self.now.client c.args.msg) = subst HasVersion c.event_of-event.ensures (c.has_version.ensures.0 c.if-not-has_version.false) in
    dealt_heard c.args.msg c.args.self.now _ (Ok c.in-Some.answer) (unrefused c.args.self.now.client c.args.msg hello version) (record {
      reply = Ok c.in_ok-reply.reply;
      told = subst (λ event. Told event (Ok c.in_ok-reply.reply) c.args.self.now.pass c.tell.new.pass c.args.self.now.full c.tell.new.full) c.event_of-event.ensures c.in_ok-reply.ensures.told;
      answer = sym c.message_in.ensures ∙ c.in-Some.is;
      client = c.client_after-self.ensures ∙ ap (λ bye. client_after c.args.self.now.client bye c.in-Some.answer) c.is_bye-bye.ensures;
      hub = refl;
      no_memory = refl;
    })

pub returns-clause-written : goal.returns-clause-written
returns-clause-written g c =
    reply_writable _ c.in_ok-reply.reply c.args.self.now.pass c.tell.new.pass c.in_ok-reply.ensures.told.called c.in_ok-reply.ensures.transcript c.in-Some.answer (sym c.message_in.ensures ∙ c.in-Some.is)
