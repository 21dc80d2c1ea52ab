-- What a desk makes of a message.
use Rattle.std.proofs.Common.{◌≡◌, ◌≤◌, ℕ, Bool, true, false, refl, ap, sym, subst, arith, ⊎_elim}
use Rattle.std.specs.Prelude.{◌==◌, Some, None, Result, Ok}
use Rattle.std.proofs.lemmas.Bool.{false≢true, cases_Bool}
use Prim.{⊥}
use Rattle.hmr_types.specs.Table.{is_version}
use Rattle.update_msgs.specs.Desk.{bytes_of}
use Rattle.update_msgs.specs.declared.message.ClientMsg.{ClientMsg}
use Rattle.update_msgs.specs.declared.message.ClientMsg.TheVariants as told
use Rattle.update_msgs.specs.declared.message.ServerMsg.{ServerMsg}
use Rattle.update_msgs.specs.declared.desk.HubStop.{HubStop}
use Rattle.core_model.specs.declared.refusal.Refusal.{Refusal}
use Rattle.core_model.specs.declared.refusal.Refusal.TheVariants.{OutOfTurn, Ignored}
use Rattle.core_model.specs.Exchange.{event_of, refusal_message}
use Rattle.core_model.specs.Transcript.{event_bytes}
use Rattle.client_exchange.specs.Messages.{is_hello}
use Rattle.transcripts.specs.Transcripts.{HasVersion, may_make}
use Rattle.session_desks.specs.Desks.{Dealt, DealtBy, Heard, hello_refusal, refusal_of, version_refusal}
use Rattle.session_desks.specs.declared.desk.HubDesk.{HubDesk}

-- an event has no more names than its message
pub event_short : (i : ℕ) (m : ClientMsg) → event_bytes (event_of i m) ≤ bytes_of m
event_short i (told.Hello format roots) = omega arith
event_short i told.Ask = omega arith
event_short i (told.Fetch n) = omega arith
event_short i (told.Applied table) = omega arith
event_short i (told.Aborted cause n from x) = omega arith
event_short i (told.Invalidate n v message) = omega arith
event_short i told.Bye = omega arith

-- no message is an edit
pub may_tell : (by i : ℕ) (m : ClientMsg) → may_make by (event_of i m) ≡ true
may_tell by i (told.Hello format roots) = refl
may_tell by i told.Ask = refl
may_tell by i (told.Fetch n) = refl
may_tell by i (told.Applied table) = refl
may_tell by i (told.Aborted cause n from x) = refl
may_tell by i (told.Invalidate n v message) = refl
may_tell by i told.Bye = refl

-- a second hello is refused
pub hello_refused : (client : ℕ) (m : ClientMsg) → is_hello m ≡ true → (client == 0) ≡ false → refusal_of client m ≡ Some OutOfTurn
hello_refused client (told.Hello format roots) h e = ap hello_refusal e
hello_refused client told.Ask h e = absurd (false≢true h)
hello_refused client (told.Fetch n) h e = absurd (false≢true h)
hello_refused client (told.Applied table) h e = absurd (false≢true h)
hello_refused client (told.Aborted cause n from x) h e = absurd (false≢true h)
hello_refused client (told.Invalidate n v message) h e = absurd (false≢true h)
hello_refused client told.Bye h e = absurd (false≢true h)

-- only an invalidation has a version
pub version_refused : (client : ℕ) (m : ClientMsg) → (HasVersion (event_of client m) → ⊥) → refusal_of client m ≡ Some Ignored
version_refused client (told.Hello format roots) h = absurd (h tt)
version_refused client told.Ask h = absurd (h tt)
version_refused client (told.Fetch n) h = absurd (h tt)
version_refused client (told.Applied table) h = absurd (h tt)
version_refused client (told.Aborted cause n from x) h = absurd (h tt)
version_refused client (told.Invalidate n v message) h = ap version_refusal (⊎_elim (λ t. absurd (h t)) (λ f. f) (cases_Bool (is_version v)))
version_refused client told.Bye h = absurd (h tt)

-- every other message is an event
pub unrefused : (client : ℕ) (m : ClientMsg) → (is_hello m ≡ true → (client == 0) ≡ true) → HasVersion (event_of client m) → refusal_of client m ≡ None
unrefused client (told.Hello format roots) h v = ap hello_refusal (h refl)
unrefused client told.Ask h v = refl
unrefused client (told.Fetch n) h v = refl
unrefused client (told.Applied table) h v = refl
unrefused client (told.Aborted cause n from x) h v = refl
unrefused client (told.Invalidate n w message) h v = ap version_refusal v
unrefused client told.Bye h v = refl

-- a message that is refused changes nothing
pub dealt_refused : {R : Type 0} (m : ClientMsg) (desk : HubDesk R) (refusal : Refusal) (answer : ServerMsg)
    → refusal_of desk.client m ≡ Some refusal → answer ≡ refusal_message refusal → Dealt m desk desk (Ok answer)
dealt_refused m desk refusal answer e a = subst (λ o. DealtBy o m desk desk (Ok answer)) (sym e) (ap Ok a, refl)

-- every other is heard
pub dealt_heard : {R : Type 0} (m : ClientMsg) (desk after : HubDesk R) (result : Result ServerMsg HubStop)
    → refusal_of desk.client m ≡ None → Heard m desk after result → Dealt m desk after result
dealt_heard m desk after result e heard = subst (λ o. DealtBy o m desk after result) (sym e) heard
