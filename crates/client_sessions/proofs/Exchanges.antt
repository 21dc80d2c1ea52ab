-- One request and its answer: how the session ends at each way out.
use Rattle.std.proofs.Common.{◌≡◌, inl, inr, ℕ, List, [], ◌∷◌, Option, refl, sym, ◌∙◌, subst}
use Rattle.std.specs.Prelude.{Result, Ok, Err, IfErr, IsErrAnd}
use Rattle.serde_json.specs.Data.{Data}
use Rattle.hmr_base.specs.declared.out_fault.OutFault.{OutFault}
use Rattle.hmr_base.specs.declared.out_fault.OutFault.TheVariants.{Failed, NoMemory as OutOfMemory}
use Rattle.transport.specs.Told.{told_and, told_front, IsNoneLeft}
use Rattle.update_msgs.specs.declared.message.ClientMsg.{ClientMsg}
use Rattle.update_msgs.specs.declared.message.ServerMsg.{ServerMsg}
use Rattle.message_text.specs.Values.{HasReading}
use Rattle.message_text.specs.ClientText.{client_text}
use Rattle.message_text.specs.ServerText.{tell}
use Rattle.message_json.specs.declared.fault.MsgFault.{MsgFault}
use Rattle.message_json.specs.declared.fault.MsgFault.TheVariants as faults
use Rattle.message_json.specs.Reading.{Gives, Fails}
use Rattle.message_json.specs.ServerReading.{server_of}
use Rattle.sessions.specs.Endings.{ended_at, ended_by}
use Rattle.sessions.specs.declared.ended.Ended.{Ended}
use Rattle.sessions.specs.declared.ended.Ended.TheVariants.{Closed, LinkFault, BadMessage, Stopped, NoMemory, Unexpected, InstancesFull}
use Rattle.sessions.proofs.Told.{front_none, and_none}
use Rattle.client_sessions.specs.Exchange.{Exchanged, Ends, EndsBy, ReadsIn, takes_none, takes_bye}

abbrev Words : Type 0
Words = Option (List (List ℕ))

-- what holds of the error that is known holds of the result
pub if_err : {T : Type 0} (P : Ended → Type 0) (x : Ended) (r : Result T Ended) → IsErrAnd r (λ e. e ≡ x) → P x → IfErr r P
if_err P x (Ok v) e h = absurd e
if_err P x (Err y) e h = subst P (sym e) h

-- Nothing was sent.

pub no_memory : (format : ℕ) (asked : ClientMsg) (Takes : ServerMsg → Ended → Type 0) (l s : Words) → Ends format asked Takes l l s s NoMemory
no_memory format asked Takes l s = record { takes = []; sends = []; left_is = front_none l; sent_is = and_none s; ends = (inr (client_text asked, refl), inl refl) }

ends_unsent : (fault : OutFault) (format : ℕ) (asked : ClientMsg) (left : Words) → EndsBy takes_none format (client_text asked ∷ []) (ended_at fault) [] [] left
ends_unsent Failed format asked left = (inr (client_text asked, refl), refl)
ends_unsent OutOfMemory format asked left = (inr (client_text asked, refl), inl refl)

pub unsent : (fault : OutFault) (format : ℕ) (asked : ClientMsg) (l l' s s' : Words) → l' ≡ l → s' ≡ s → Ends format asked takes_none l l' s s' (ended_at fault)
unsent fault format asked l l' s s' hl hs = record { takes = []; sends = []; left_is = sym hl ∙ front_none l'; sent_is = hs ∙ and_none s; ends = ends_unsent fault format asked l' }

-- The request was sent, and nothing was taken.

ends_unanswered : (fault : OutFault) (format : ℕ) (asked : ClientMsg) (left : Words) → EndsBy takes_none format (client_text asked ∷ []) (ended_at fault) [] (client_text asked ∷ []) left
ends_unanswered Failed format asked left = (inl refl, refl)
ends_unanswered OutOfMemory format asked left = (inl refl, inl refl)

pub unanswered : (fault : OutFault) (format : ℕ) (asked : ClientMsg) (l l' s s' : Words) → l' ≡ l → s' ≡ told_and s (client_text asked ∷ []) → Ends format asked takes_none l l' s s' (ended_at fault)
unanswered fault format asked l l' s s' hl hs = record { takes = []; sends = client_text asked ∷ []; left_is = sym hl ∙ front_none l'; sent_is = hs; ends = ends_unanswered fault format asked l' }

pub peer_closed : (format : ℕ) (asked : ClientMsg) (l m l' s s' : Words) → m ≡ l → IsNoneLeft m × (l' ≡ m) → s' ≡ told_and s (client_text asked ∷ []) → Ends format asked takes_none l l' s s' Closed
peer_closed format asked l m l' s s' hm (none, hl) hs = record { takes = []; sends = client_text asked ∷ []; left_is = sym (hl ∙ hm) ∙ front_none l'; sent_is = hs; ends = (refl, inl (refl, subst IsNoneLeft (sym hl) none)) }

-- The request was sent, and one message was taken.

ends_refused : (fault : MsgFault) (format : ℕ) (asked : ClientMsg) (left : Words) (b : List ℕ) → ((d : Data) → HasReading b d → Fails fault (server_of format d)) → EndsBy takes_none format (client_text asked ∷ []) (ended_by fault) (b ∷ []) (client_text asked ∷ []) left
ends_refused faults.NotJson format asked left b h = (refl, (b, refl, record { fails = h; known = λ e. cc }))
ends_refused faults.NoType format asked left b h = (refl, (b, refl, record { fails = h; known = λ e. cc }))
ends_refused (faults.BadField key) format asked left b h = (refl, (b, refl, record { fails = h; known = λ e. cc }))
ends_refused (faults.ExtraField key) format asked left b h = (refl, (b, refl, record { fails = h; known = λ e. cc }))
ends_refused faults.NoMemory format asked left b h = (inl refl, inr (b, refl, tt))

pub refused : (fault : MsgFault) (format : ℕ) (asked : ClientMsg) (l l' s s' : Words) (b : List ℕ) → l ≡ told_front (b ∷ []) l' → s' ≡ told_and s (client_text asked ∷ []) → ((d : Data) → HasReading b d → Fails fault (server_of format d)) → Ends format asked takes_none l l' s s' (ended_by fault)
refused fault format asked l l' s s' b hl hs h = record { takes = b ∷ []; sends = client_text asked ∷ []; left_is = hl; sent_is = hs; ends = ends_refused fault format asked l' b h }

-- the bytes that were decoded are those that were taken
pub reads_of : (format : ℕ) (b c : List ℕ) (m : ServerMsg) → b ≡ c → HasReading b (tell format m) → ((d : Data) → HasReading b d → Gives (Ok m) (server_of format d)) → ReadsIn format c m
reads_of format b c m e h k = subst (λ x. ReadsIn format x m) e (record { reading = h; message = k (tell format m) h })

-- the answer was read, and the session ends all the same
pub ended_after : (Takes : ServerMsg → Ended → Type 0) (format : ℕ) (asked : ClientMsg) (l l' s s' : Words) (answer : ServerMsg) (e : Ended) → (k : Exchanged format asked l l' s s' answer) → EndsBy Takes format (client_text asked ∷ []) e (k.bytes ∷ []) (client_text asked ∷ []) l' → Ends format asked Takes l l' s s' e
ended_after Takes format asked l l' s s' answer e k h = record { takes = k.bytes ∷ []; sends = client_text asked ∷ []; left_is = k.left_is; sent_is = k.sent_is; ends = h }

-- bye was answered
pub bye_answered : (format : ℕ) (asked : ClientMsg) (l l' s s' : Words) (answer : ServerMsg) → Exchanged format asked l l' s s' answer → Ends format asked takes_bye l l' s s' Closed
bye_answered format asked l l' s s' answer k = ended_after takes_bye format asked l l' s s' answer Closed k (refl, inr (k.bytes, refl, (answer, k.reads, refl)))

-- Where no answer ended the session, none does by any test.

wider : (Takes : ServerMsg → Ended → Type 0) (e : Ended) (format : ℕ) (asked taken sent : List (List ℕ)) (left : Words) → EndsBy takes_none format asked e taken sent left → EndsBy Takes format asked e taken sent left
wider Takes Closed format asked taken sent left (h, inl k) = (h, inl k)
wider Takes Closed format asked taken sent left (h, inr (b, e, (m, r, none))) = absurd none
wider Takes LinkFault format asked taken sent left h = h
wider Takes (BadMessage fault) format asked taken sent left h = h
wider Takes Stopped format asked taken sent left (h, (b, e, (m, r, none))) = absurd none
wider Takes NoMemory format asked taken sent left h = h
wider Takes (Unexpected wanted got) format asked taken sent left (h, (b, e, (m, r, none))) = absurd none
wider Takes InstancesFull format asked taken sent left (h, (b, e, (m, r, none))) = absurd none

pub widened : (Takes : ServerMsg → Ended → Type 0) (e : Ended) (format : ℕ) (asked : ClientMsg) (l l' s s' : Words) → Ends format asked takes_none l l' s s' e → Ends format asked Takes l l' s s' e
widened Takes e format asked l l' s s' h = record { takes = h.takes; sends = h.sends; left_is = h.left_is; sent_is = h.sent_is; ends = wider Takes e format (client_text asked ∷ []) h.takes h.sends l' h.ends }
