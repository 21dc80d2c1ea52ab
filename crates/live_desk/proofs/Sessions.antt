-- What a desk deals with, message by message, and what its session is in the end.
use Rattle.std.proofs.Common.{◌≡◌, inl, inr, ℕ, Bool, true, false, List, [], ◌∷◌, ◌++◌, refl, ap, sym, ◌∙◌, subst, append_assoc}
use Rattle.std.specs.Prelude.{◌==◌, Option, Some, None, Result, Ok, Err}
use Rattle.std.proofs.lemmas.List.{append-nil}
use Rattle.std.proofs.lemmas.Grind.{flat_map-append}
use Rattle.update_msgs.specs.declared.desk.HubStop.{HubStop}
use Rattle.update_msgs.specs.declared.message.ClientMsg.{ClientMsg}
use Rattle.update_msgs.specs.declared.message.ClientMsg.TheVariants as told
use Rattle.update_msgs.specs.declared.message.ServerMsg.{ServerMsg}
use Rattle.update_msgs.specs.declared.message.ServerMsg.TheVariants.{Idle}
use Rattle.core_model.specs.declared.refusal.Refusal.{Refusal}
use Rattle.core_model.specs.declared.refusal.Refusal.TheVariants.{UnknownClient, TooManyClients, OutOfTurn}
use Rattle.core_model.specs.declared.refusal.Refusal.TheVariants.{Mismatch, Unfetched, Ignored, BadRoots}
use Rattle.core_model.specs.Core.{disconnect}
use Rattle.core_model.specs.Exchange.{event_of, refusal_message}
use Rattle.client_exchange.specs.Replies.{connected_or}
use Rattle.session_desks.specs.declared.desk.HubDesk.{HubDesk}
use Rattle.session_desks.specs.Desks.{Dealt, DealtBy, Left, LeftBy, SameDesk, client_with, refusal_of}
use Rattle.live_desk.specs.Calls.{Call, HasCalled}
use Rattle.live_desk.specs.Desks.{GoesOn, told_by}
use Rattle.live_desk.specs.Sessions.{AreExchanged, Exchange, HasDealt, IsDealt, IsDealtBy, IsExchanged, IsLeftBy, IsSession, Session, calls_in, calls_of, client_then, deal_of, deals_in}
use Rattle.live_desk.specs.Waiting.{Answered, Asked}
use Rattle.live_desk.specs.declared.desk.LiveDesk.{LiveDesk}
use Rattle.live_desk.proofs.Calls.{called_none, called_one, called_then}
use Rattle.live_desk.proofs.Waiting.{answered_same}

-- A refusal gives no client.

refused_connects : (client : ℕ) (refusal : Refusal) → connected_or client (refusal_message refusal) ≡ client
refused_connects client UnknownClient = refl
refused_connects client TooManyClients = refl
refused_connects client OutOfTurn = refl
refused_connects client (Mismatch n t kept) = refl
refused_connects client (Unfetched n) = refl
refused_connects client Ignored = refl
refused_connects client BadRoots = refl

refused_client : (client : ℕ) (m : ClientMsg) (refusal : Refusal) (result : Result ServerMsg HubStop)
    → refusal_of client m ≡ Some refusal → result ≡ Ok (refusal_message refusal) → client_with client m result ≡ client
refused_client client (told.Hello format roots) refusal result e a =
    subst (λ r. client_with client (told.Hello format roots) r ≡ client) (sym a) (refused_connects client refusal)
refused_client client told.Ask refusal result e a = absurd (cc)
refused_client client (told.Fetch n) refusal result e a = absurd (cc)
refused_client client (told.Applied table) refusal result e a = absurd (cc)
refused_client client (told.Aborted cause n from x) refusal result e a = absurd (cc)
refused_client client (told.Invalidate n v message) refusal result e a =
    subst (λ r. client_with client (told.Invalidate n v message) r ≡ client) (sym a) (refused_connects client refusal)
refused_client client told.Bye refusal result e a = absurd (cc)

-- Exchanges behind others.

client_more : (client : ℕ) (a b : List Exchange) → client_then client (a ++ b) ≡ client_then (client_then client a) b
client_more client [] b = refl
client_more client (x ∷ a) b = client_more (client_with client x.message x.result) a b

exchanged_more : (client : ℕ) (a b : List Exchange) → AreExchanged client a → AreExchanged (client_then client a) b → AreExchanged client (a ++ b)
exchanged_more client [] b h k = k
exchanged_more client (x ∷ a) b h k = (h.0, exchanged_more (client_with client x.message x.result) a b h.1 k)

module _ {R : Type 0} where
  pub dealt_none : (x : HubDesk R) (told : List (ClientMsg × ServerMsg)) → HasDealt x x told told
  dealt_none x told = record { exchanges = []; called = called_none x.pass; exchanged = tt; client = refl; told_are = sym (append-nil told) }

  pub dealt_then : (x y z : HubDesk R) (a b c : List (ClientMsg × ServerMsg)) → HasDealt x y a b → HasDealt y z b c → HasDealt x z a c
  dealt_then x y z a b c h k = record {
    exchanges = h.exchanges ++ k.exchanges;
    called =
        subst (λ made. HasCalled x.pass z.pass made) (sym (flat_map-append (λ (e : Exchange). e.made) h.exchanges k.exchanges))
        (called_then x.pass y.pass z.pass (calls_in h.exchanges) (calls_in k.exchanges) h.called k.called);
    exchanged = exchanged_more x.client h.exchanges k.exchanges h.exchanged (subst (λ client. AreExchanged client k.exchanges) h.client k.exchanged);
    client =
        k.client ∙ (ap (λ client. client_then client k.exchanges) h.client ∙ sym (client_more x.client h.exchanges k.exchanges));
    told_are =
        k.told_are
        ∙ (ap (λ told. told ++ deals_in k.exchanges) h.told_are
        ∙ (append_assoc a (deals_in h.exchanges) (deals_in k.exchanges)
        ∙ ap (λ told. a ++ told) (sym (flat_map-append (λ (e : Exchange). deal_of e.message e.result) h.exchanges k.exchanges))));
  }

  -- What a message that was dealt leaves.
  record DealtSo (m : ClientMsg) (x y : HubDesk R) (result : Result ServerMsg HubStop) : Type 0 where
    pub made : List Call
    pub called : HasCalled x.pass y.pass made
    pub how : IsDealt x.client m result made
    pub client : y.client ≡ client_with x.client m result

  dealt_by_so : (o : Option Refusal) (m : ClientMsg) (x y : HubDesk R) (result : Result ServerMsg HubStop)
      → refusal_of x.client m ≡ o → DealtBy o m x y result → DealtSo m x y result
  dealt_by_so (Some refusal) m x y result e d = record {
    made = [];
    called = subst (λ w. HasCalled x.pass w.pass []) (sym d.1) (called_none x.pass);
    how = subst (λ o. IsDealtBy o x.client m result []) (sym e) (refl, d.0);
    client = ap (λ w. w.client) d.1 ∙ sym (refused_client x.client m refusal result e d.0);
  }
  dealt_by_so None m x y result e d = record {
    made = (event_of x.client m, d.reply) ∷ [];
    called = called_one x.pass y.pass (event_of x.client m) d.told.same d.reply d.told.called;
    how = subst (λ o. IsDealtBy o x.client m result ((event_of x.client m, d.reply) ∷ [])) (sym e) (d.reply, refl, d.answer);
    client = d.client;
  }

  dealt_so : (m : ClientMsg) (x y : HubDesk R) (result : Result ServerMsg HubStop) → Dealt m x y result → DealtSo m x y result
  dealt_so m x y result d = dealt_by_so (refusal_of x.client m) m x y result refl d

  -- One exchange.
  exchanged_one : (m : ClientMsg) (x y : HubDesk R) (result : Result ServerMsg HubStop) (a b : List (ClientMsg × ServerMsg)) (made : List Call)
      → b ≡ a ++ deal_of m result → HasCalled x.pass y.pass made → IsExchanged x.client m result made → y.client ≡ client_with x.client m result → HasDealt x y a b
  exchanged_one m x y result a b made told called how client = record {
    exchanges = record { message = m; result = result; made = made } ∷ [];
    called = subst (λ all. HasCalled x.pass y.pass all) (sym (append-nil made)) called;
    exchanged = (how, tt);
    client = client;
    told_are = told ∙ ap (λ deals. a ++ deals) (sym (append-nil (deal_of m result)));
  }

  -- What came of a message that was answered.
  record AnsweredSo (m : ClientMsg) (x y : HubDesk R) (result : Result ServerMsg HubStop) : Type 0 where
    pub made : List Call
    pub called : HasCalled x.pass y.pass made
    pub how : IsExchanged x.client m result made
    pub client : y.client ≡ client_with x.client m result

  once_so : (m : ClientMsg) (x y : HubDesk R) (result : Result ServerMsg HubStop)
      → ((made : List Call) → IsDealt x.client m result made → IsExchanged x.client m result made) → DealtSo m x y result → AnsweredSo m x y result
  once_so m x y result once d = record { made = d.made; called = d.called; how = once d.made d.how; client = d.client }

  asked_so : (x y : HubDesk R) (result : Result ServerMsg HubStop) → Asked x y result → AnsweredSo told.Ask x y result
  asked_so x y result (inl once) =
      let d = dealt_so told.Ask x y result once.dealt in
      record { made = d.made; called = d.called; how = inl (d.how, once.busy); client = d.client }
  asked_so x y result (inr twice) =
      let first = dealt_so told.Ask x twice.middle (Ok Idle) twice.first in
      let again = dealt_so told.Ask twice.middle y result twice.again in
      let same : twice.middle.client ≡ x.client = first.client in
      record {
        made = first.made ++ again.made;
        called = called_then x.pass twice.middle.pass y.pass first.made again.made first.called again.called;
        how =
            inr (record {
              first = first.made;
              again = again.made;
              made_are = refl;
              idle = first.how;
              dealt = subst (λ client. IsDealt client told.Ask result again.made) same again.how;
            });
        client = again.client ∙ ap (λ client. client_with client told.Ask result) same;
      }

  answered_so : (m : ClientMsg) (x y : HubDesk R) (result : Result ServerMsg HubStop) → Answered m x y result → AnsweredSo m x y result
  answered_so (told.Hello format roots) x y result a = once_so (told.Hello format roots) x y result (λ made h. h) (dealt_so (told.Hello format roots) x y result a)
  answered_so told.Ask x y result a = asked_so x y result a
  answered_so (told.Fetch n) x y result a = once_so (told.Fetch n) x y result (λ made h. h) (dealt_so (told.Fetch n) x y result a)
  answered_so (told.Applied table) x y result a = once_so (told.Applied table) x y result (λ made h. h) (dealt_so (told.Applied table) x y result a)
  answered_so (told.Aborted cause n from name) x y result a =
      once_so (told.Aborted cause n from name) x y result (λ made h. h) (dealt_so (told.Aborted cause n from name) x y result a)
  answered_so (told.Invalidate n v message) x y result a =
      once_so (told.Invalidate n v message) x y result (λ made h. h) (dealt_so (told.Invalidate n v message) x y result a)
  answered_so told.Bye x y result a = once_so told.Bye x y result (λ made h. h) (dealt_so told.Bye x y result a)

  -- The end of a session.
  left_by_called : (b : Bool) (x y : HubDesk R) → LeftBy b x y → (made : List Call) × HasCalled x.pass y.pass made × IsLeftBy b x.client made
  left_by_called true x y l = ([], subst (λ w. HasCalled x.pass w.pass []) (sym l) (called_none x.pass), refl)
  left_by_called false x y l = (
    (disconnect x.client, l.reply) ∷ [],
    called_one x.pass y.pass (disconnect x.client) l.told.same l.reply l.told.called,
    (l.reply, refl),
  )

-- a message was answered, or it got no answer
on_with : {R S : Type 0} (m : ClientMsg) (x y : LiveDesk R S) (result : Result ServerMsg HubStop) → Answered m x.desk y.desk result
    → told_by y ≡ told_by x ++ deal_of m result → GoesOn x y
on_with m x y result a told =
    let same : SameDesk x.desk y.desk = answered_same m x.desk y.desk result a in
    let so = answered_so m x.desk y.desk result a in
    record {
      hub = same.hub;
      number = same.number;
      dealt = λ first before h.
          dealt_then first x.desk y.desk before (told_by x) (told_by y) h
          (exchanged_one m x.desk y.desk result (told_by x) (told_by y) so.made told so.called so.how so.client);
    }

pub answered_on : {R S : Type 0} (m : ClientMsg) (x y : LiveDesk R S) (answer : ServerMsg) → Answered m x.desk y.desk (Ok answer)
    → told_by y ≡ told_by x ++ (m, answer) ∷ [] → GoesOn x y
answered_on m x y answer a told = on_with m x y (Ok answer) a told

pub unanswered_on : {R S : Type 0} (m : ClientMsg) (x y : LiveDesk R S) (stop : HubStop) → Answered m x.desk y.desk (Err stop) → told_by y ≡ told_by x → GoesOn x y
unanswered_on m x y stop a told = on_with m x y (Err stop) a (told ∙ sym (append-nil (told_by x)))

-- A desk that began without a client dealt with messages, and was left.
pub session_held : {R : Type 0} (x y z : HubDesk R) (told : List (ClientMsg × ServerMsg)) → x.client ≡ 0 → HasDealt x y [] told → Left y z
    → (s : Session) × IsSession s × (deals_in s.exchanges ≡ told) × HasCalled x.pass z.pass (calls_of s)
session_held x y z told zero dealt left =
    let leaving = left_by_called (y.client == 0) y z left in
    let s : Session = record { exchanges = dealt.exchanges; leaving = leaving.0 } in
    let last : y.client ≡ client_then 0 dealt.exchanges = dealt.client ∙ ap (λ client. client_then client dealt.exchanges) zero in (
      s,
      record {
        exchanged = subst (λ client. AreExchanged client dealt.exchanges) zero dealt.exchanged;
        left = subst (λ client. IsLeftBy (client == 0) client leaving.0) last leaving.2;
      },
      sym dealt.told_are,
      called_then x.pass y.pass z.pass (calls_in dealt.exchanges) leaving.0 dealt.called leaving.1,
    )
