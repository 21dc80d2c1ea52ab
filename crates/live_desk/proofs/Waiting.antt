-- What each answer keeps of a desk, where asks wait.
use Rattle.std.proofs.Common.{◌≡◌, ◌≢◌, inl, inr, Bool, true, false, refl, sym, subst, ◌∙◌, ap}
use Rattle.std.specs.Prelude.{◌||◌, ◌==◌, Option, Some, None, Result, Ok, Err}
use Rattle.update_msgs.specs.Desk.{is_full}
use Rattle.update_msgs.specs.declared.desk.HubStop.{HubStop}
use Rattle.update_msgs.specs.declared.desk.HubStop.TheVariants.{TranscriptFull, NoMemory}
use Rattle.update_msgs.specs.declared.message.ClientMsg.{ClientMsg}
use Rattle.update_msgs.specs.declared.message.ClientMsg.TheVariants as told
use Rattle.update_msgs.specs.declared.message.ServerMsg.{ServerMsg}
use Rattle.update_msgs.specs.declared.message.ServerMsg.TheVariants.{Idle}
use Rattle.core_model.specs.declared.refusal.Refusal.{Refusal}
use Rattle.events_and_replies.specs.declared.event.Reply.{Reply}
use Rattle.transform_pool.specs.Boards.{full_after}
use Rattle.session_desks.specs.declared.desk.HubDesk.{HubDesk}
use Rattle.session_desks.specs.Desks.{Dealt, DealtBy, IsAnswer, Left, LeftBy, SameDesk, refusal_of}
use Rattle.live_desk.specs.Waiting.{Answered, Asked}

or_none : (b : Bool) → b ≡ (b || false)
or_none true = refl
or_none false = refl

stop_full : (full : Bool) (stop : HubStop) → full_after {T = Reply} full (Err stop) ≡ (full || is_full (Err stop))
stop_full true TranscriptFull = refl
stop_full false TranscriptFull = refl
stop_full true NoMemory = refl
stop_full false NoMemory = refl

answer_full : (full : Bool) (reply : Result Reply HubStop) (result : Result ServerMsg HubStop) → IsAnswer reply result → full_after full reply ≡ (full || is_full result)
answer_full full (Ok reply) (Ok answer) i = or_none full
answer_full full (Ok reply) (Err stop) i = absurd i
answer_full full (Err stop) result i = subst (λ a. full_after {T = Reply} full (Err stop) ≡ (full || is_full a)) (sym i) (stop_full full stop)

module _ {R : Type 0} where
  same_self : (x : HubDesk R) → SameDesk x x
  same_self x = record { hub = refl; number = refl }

  same_then : (x y z : HubDesk R) → SameDesk x y → SameDesk y z → SameDesk x z
  same_then x y z p q = record { hub = q.hub ∙ p.hub; number = q.number ∙ p.number }

  dealt_by_same : (o : Option Refusal) (m : ClientMsg) (x y : HubDesk R) (result : Result ServerMsg HubStop) → DealtBy o m x y result → SameDesk x y
  dealt_by_same (Some refusal) m x y result d = subst (λ w. SameDesk x w) (sym d.1) (same_self x)
  dealt_by_same None m x y result d = record { hub = d.hub; number = d.told.same.number }

  dealt_by_full : (o : Option Refusal) (m : ClientMsg) (x y : HubDesk R) (result : Result ServerMsg HubStop) → DealtBy o m x y result → y.full ≡ (x.full || is_full result)
  dealt_by_full (Some refusal) m x y result d = ap (λ w. w.full) d.1 ∙ subst (λ a. x.full ≡ (x.full || is_full a)) (sym d.0) (or_none x.full)
  dealt_by_full None m x y result d = d.told.full_is ∙ answer_full x.full d.reply result d.answer

  dealt_same : (m : ClientMsg) (x y : HubDesk R) (result : Result ServerMsg HubStop) → Dealt m x y result → SameDesk x y
  dealt_same m x y result d = dealt_by_same (refusal_of x.client m) m x y result d

  dealt_full : (m : ClientMsg) (x y : HubDesk R) (result : Result ServerMsg HubStop) → Dealt m x y result → y.full ≡ (x.full || is_full result)
  dealt_full m x y result d = dealt_by_full (refusal_of x.client m) m x y result d

  left_by_same : (b : Bool) (x y : HubDesk R) → LeftBy b x y → SameDesk x y
  left_by_same true x y l = subst (λ w. SameDesk x w) (sym l) (same_self x)
  left_by_same false x y l = record { hub = l.hub; number = l.told.same.number }

  pub left_same : (x y : HubDesk R) → Left x y → SameDesk x y
  left_same x y l = left_by_same (x.client == 0) x y l

  -- an ask
  pub asked_once : (x y : HubDesk R) (result : Result ServerMsg HubStop) → Dealt told.Ask x y result → result ≢ Ok Idle → Asked x y result
  asked_once x y result d busy = inl (record { dealt = d; busy = busy })

  pub asked_again : (x middle y : HubDesk R) (first : ServerMsg) (result : Result ServerMsg HubStop) → Dealt told.Ask x middle (Ok first) → first ≡ Idle → Dealt told.Ask middle y result → Asked x y result
  asked_again x middle y first result d idle again = inr (record { middle = middle; first = subst (λ a. Dealt told.Ask x middle (Ok a)) idle d; again = again })

  asked_same : (x y : HubDesk R) (result : Result ServerMsg HubStop) → Asked x y result → SameDesk x y
  asked_same x y result (inl once) = dealt_same told.Ask x y result once.dealt
  asked_same x y result (inr twice) = same_then x twice.middle y (dealt_same told.Ask x twice.middle (Ok Idle) twice.first) (dealt_same told.Ask twice.middle y result twice.again)

  asked_full : (x y : HubDesk R) (result : Result ServerMsg HubStop) → Asked x y result → y.full ≡ (x.full || is_full result)
  asked_full x y result (inl once) = dealt_full told.Ask x y result once.dealt
  asked_full x y result (inr twice) =
      let middle : twice.middle.full ≡ x.full = dealt_full told.Ask x twice.middle (Ok Idle) twice.first ∙ sym (or_none x.full) in
      dealt_full told.Ask twice.middle y result twice.again ∙ ap (λ full. full || is_full result) middle

  -- a message
  pub answered_ask : (m : ClientMsg) (x y : HubDesk R) (result : Result ServerMsg HubStop) → m ≡ told.Ask → Asked x y result → Answered m x y result
  answered_ask m x y result e asked = subst (λ m. Answered m x y result) (sym e) asked

  pub answered_once : (m : ClientMsg) (x y : HubDesk R) (result : Result ServerMsg HubStop) → m ≢ told.Ask → Dealt m x y result → Answered m x y result
  answered_once (told.Hello format roots) x y result other d = d
  answered_once told.Ask x y result other d = absurd (other refl)
  answered_once (told.Fetch n) x y result other d = d
  answered_once (told.Applied table) x y result other d = d
  answered_once (told.Aborted cause n from name) x y result other d = d
  answered_once (told.Invalidate n v message) x y result other d = d
  answered_once told.Bye x y result other d = d

  pub answered_same : (m : ClientMsg) (x y : HubDesk R) (result : Result ServerMsg HubStop) → Answered m x y result → SameDesk x y
  answered_same (told.Hello format roots) x y result a = dealt_same (told.Hello format roots) x y result a
  answered_same told.Ask x y result a = asked_same x y result a
  answered_same (told.Fetch n) x y result a = dealt_same (told.Fetch n) x y result a
  answered_same (told.Applied table) x y result a = dealt_same (told.Applied table) x y result a
  answered_same (told.Aborted cause n from name) x y result a = dealt_same (told.Aborted cause n from name) x y result a
  answered_same (told.Invalidate n v message) x y result a = dealt_same (told.Invalidate n v message) x y result a
  answered_same told.Bye x y result a = dealt_same told.Bye x y result a

  pub answered_full : (m : ClientMsg) (x y : HubDesk R) (result : Result ServerMsg HubStop) → Answered m x y result → y.full ≡ (x.full || is_full result)
  answered_full (told.Hello format roots) x y result a = dealt_full (told.Hello format roots) x y result a
  answered_full told.Ask x y result a = asked_full x y result a
  answered_full (told.Fetch n) x y result a = dealt_full (told.Fetch n) x y result a
  answered_full (told.Applied table) x y result a = dealt_full (told.Applied table) x y result a
  answered_full (told.Aborted cause n from name) x y result a = dealt_full (told.Aborted cause n from name) x y result a
  answered_full (told.Invalidate n v message) x y result a = dealt_full (told.Invalidate n v message) x y result a
  answered_full told.Bye x y result a = dealt_full told.Bye x y result a
