-- The reply to an event of a client is a message to it, which can be written in both formats.
use Rattle.std.proofs.Common.{◌≡◌, ℕ, Bool, true, false, List, [], ◌∷◌, ◌++◌, refl, ap, sym, ◌∙◌, subst, arith, reverse}
use Rattle.std.specs.Prelude.{All, Option, Some, None, Ok, IfSome, is_some}
use Prim.{⊥}
use Rattle.std.proofs.lemmas.Bool.{false≢true}
use Rattle.std.proofs.lemmas.List.Sorted.{All-permutation, IsPermutation-reverse}
use Rattle.update_msgs.specs.Writable.{IsFormat, IsWritable}
use Rattle.update_msgs.specs.declared.message.ClientMsg.{ClientMsg}
use Rattle.update_msgs.specs.declared.message.ClientMsg.TheVariants as told
use Rattle.update_msgs.specs.declared.message.ServerMsg.{ServerMsg}
use Rattle.core_model.specs.Asking.{AskRow, out_of_turn, tell, load, idle, prune, reload, update, ask_row, asked}
use Rattle.core_model.specs.Client.{Client}
use Rattle.core_model.specs.Core.{Core, Event, client_at, connected, disconnected, if_room, is_full, replay, requested, step}
use Rattle.core_model.specs.Exchange.{event_of, message_of, refusal_message}
use Rattle.core_model.specs.Formed.{IsFormed}
use Rattle.core_model.specs.Names.{Name, at}
use Rattle.core_model.specs.Page.{Plan}
use Rattle.core_model.specs.Requests as requests
use Rattle.core_model.specs.Requests.{Request, ask, fetch, applied_as, aborted, invalidate, heard, ask_reply, FetchRow, text, not_yet, broken, missing, fetch_row, fetch_reply, fetched_in}
use Rattle.core_model.specs.Requests.{AppliedRow, unfetched, mismatch, done, applied_row, applied_reply, applied_in, aborted_in, is_at_version, invalidate_reply, invalidated_in}
use Rattle.core_model.specs.declared.refusal.Refusal.TheVariants.{Ignored, OutOfTurn}
use Rattle.core_model.specs.Roots.{are_bad, roots_or}
use Rattle.core_model.specs.Sources.{Sources}
use Rattle.core_model.specs.Transcript.{Recorded, events_of, reply_after}
use Rattle.core_laws.specs.Ranges.{IsWritableReply}
use Rattle.core_laws.proofs.Messaging.{after_says}
use Rattle.events_and_replies.specs.Said.{said}
use Rattle.events_and_replies.specs.declared.event.Reply.{Reply}
use Rattle.client_exchange.specs.Replies.{message_in}
use Rattle.client_exchange.proofs.Saying.{message_said}
use Rattle.hmr_hub.specs.declared.pass.Pass.{Pass}
use Rattle.hmr_hub.specs.Calls.{Called}
use Rattle.hmr_hub.specs.Passes.{HasTranscript, number_of, roots_of, seen_of}
use Rattle.transcripts.specs.Transcripts.{past_of}
use Rattle.hmr_hub.proofs.Histories.{past_more}

-- the reply is a message to a client
abbrev IsForClient : Reply → Type 0
IsForClient reply = is_some (message_in reply) ≡ true

-- as the core says it
abbrev IsSaid : requests.Reply → Type 0
IsSaid reply = IsForClient (said reply)

module _ (i : ℕ) (s : Sources) (c : Client) where
  asking_said : (after : Client) (row : AskRow) → IsSaid (ask_reply i s after row)
  asking_said after out_of_turn = refl
  asking_said after (tell n fault) = refl
  asking_said after load = refl
  asking_said after idle = refl
  asking_said after (prune ns) = refl
  asking_said after (reload path) = refl
  asking_said after (update ns ps) = refl

  fetching_said : (row : FetchRow) (n : Name) → IsSaid (fetch_reply row n)
  fetching_said (text served) n = refl
  fetching_said not_yet n = refl
  fetching_said (broken fault) n = refl
  fetching_said missing n = refl

  applying_said : (row : AppliedRow) → IsSaid (applied_reply row)
  applying_said (unfetched n) = refl
  applying_said (mismatch n v w) = refl
  applying_said done = refl

  invalidating_said : (b : Bool) → IsSaid (invalidate_reply b)
  invalidating_said true = refl
  invalidating_said false = refl

  fetched_said : (n : Name) (plan : Option Plan) → IsSaid (fetched_in plan s n c).1
  fetched_said n None = refl
  fetched_said n (Some p) = fetching_said (fetch_row s n) n

  applied_said : (table : List (Name × ℕ)) (plan : Option Plan) → IsSaid (applied_in plan table c).1
  applied_said table None = refl
  applied_said table (Some p) = applying_said (applied_row c.roots p c.page.view table)

  aborted_said : (plan : Option Plan) → IsSaid (aborted_in plan c).1
  aborted_said None = refl
  aborted_said (Some p) = refl

  invalidated_said : (n : Name) (v : ℕ) (plan : Option Plan) → IsSaid (invalidated_in plan n v c).1
  invalidated_said n v None = invalidating_said (is_at_version (at c.page.view n) v)
  invalidated_said n v (Some p) = refl

  heard_said : (r : Request) → IsSaid (heard i s c r).1
  heard_said ask = asking_said (asked (ask_row s c) s c) (ask_row s c)
  heard_said (fetch n) = fetched_said n c.page.plan
  heard_said (applied_as table) = applied_said table c.page.plan
  heard_said aborted = aborted_said c.page.plan
  heard_said (invalidate n v) = invalidated_said n v c.page.plan

module _ (core : Core) where
  room_said : (full : Bool) (roots : List Name) → IsSaid (if_room full roots core).1
  room_said true roots = refl
  room_said false roots = refl

  connected_said : (bad : Bool) (roots : List Name) → IsSaid (connected bad roots core).1
  connected_said true roots = refl
  connected_said false roots = room_said (is_full core) roots

  requested_said : (client : Option Client) (i : ℕ) (r : Request) → IsSaid (requested client i core r).1
  requested_said None i r = refl
  requested_said (Some c) i r = heard_said i core.sources c r

  disconnected_said : (client : Option Client) (i : ℕ) → IsSaid (disconnected client i core).1
  disconnected_said None i = refl
  disconnected_said (Some c) i = refl

  pub step_said : (roots : List Name) (i : ℕ) (m : ClientMsg) → IsSaid (step roots core (event_of i m)).1
  step_said roots i (told.Hello format names) = connected_said (are_bad names) (roots_or names roots)
  step_said roots i told.Ask = requested_said (client_at core.clients i) i ask
  step_said roots i (told.Fetch n) = requested_said (client_at core.clients i) i (fetch n)
  step_said roots i (told.Applied table) = requested_said (client_at core.clients i) i (applied_as table)
  step_said roots i (told.Aborted cause n from x) = requested_said (client_at core.clients i) i aborted
  step_said roots i (told.Invalidate n v message) = requested_said (client_at core.clients i) i (invalidate n v)
  step_said roots i told.Bye = disconnected_said (client_at core.clients i) i

module _ (event : Event) (reply : Reply) (p q : Pass) (called : Called event (Ok reply) p q) where
  -- the events before it and the event are well formed
  formed_all : HasTranscript q → All IsFormed (event ∷ past_of called.before)
  formed_all t =
      let seen : All IsFormed (events_of (called.before ++ (number_of p, event) ∷ [])) = subst (λ entries. All IsFormed (events_of entries)) called.seen t.legal.formed in
      let events = events_of (called.before ++ (number_of p, event) ∷ []) in
      subst (λ past. All IsFormed past) (past_more called.before (number_of p) event)
      (All-permutation IsFormed events (reverse events) (IsPermutation-reverse events) seen)

  pub reply_writable : HasTranscript q → (m : ServerMsg) → message_in reply ≡ Some m → (format : ℕ) → IsFormat format → IsWritable format m
  reply_writable t m e format is_format =
      let says : IsWritableReply (reply_after (roots_of p) called.before event) = after_says (roots_of p) (past_of called.before) event (formed_all t) in
      let told : message_of (reply_after (roots_of p) called.before event) ≡ Some m = sym (message_said (reply_after (roots_of p) called.before event)) ∙ (ap message_in called.reply ∙ e) in
      subst (λ (o : Option ServerMsg). IfSome o (λ m. (format : ℕ) → IsWritable format m)) told says format

-- the reply to a client's event is one to a client
pub reply_for_client : (i : ℕ) (m : ClientMsg) (event : Event) (reply : Reply) (p q : Pass) → event ≡ event_of i m → Called event (Ok reply) p q → IsForClient reply
reply_for_client i m event reply p q e called =
    let told : IsForClient (said (reply_after (roots_of p) called.before event)) = subst (λ event. IsForClient (said (reply_after (roots_of p) called.before event))) (sym e)
    (step_said (replay (roots_of p) (events_of called.before)) (roots_of p) i m) in
    subst IsForClient called.reply told

-- so there is one
pub never_none : (reply : Reply) (message : Option ServerMsg) → IsForClient reply → message ≡ message_in reply → message ≡ None → ⊥
never_none reply message told is none = false≢true (sym (ap is_some (sym is ∙ none)) ∙ told)

-- two refusals that the desk makes itself
pub out_of_turn_writable : (format : ℕ) → IsWritable format (refusal_message OutOfTurn)
out_of_turn_writable format = record { coded = record { least = omega arith; most = omega arith }; named = refl; telling = refl; keeping = refl; told_most = tt; kept_most = tt }

pub ignored_writable : (format : ℕ) → IsWritable format (refusal_message Ignored)
ignored_writable format = record { coded = record { least = omega arith; most = omega arith }; named = refl; telling = refl; keeping = refl; told_most = tt; kept_most = tt }
