-- The message that a reply is can be written.
use Rattle.std.proofs.Common.{◌≡◌, ◌≤◌, ℕ, Bool, true, false, List, refl, sym, ap, ◌∙◌, arith}
use Rattle.std.specs.Prelude.{◌==◌, ◌||◌, not, Option, Some, None, option_map}
use Rattle.std.specs.Prelude.{is_some, if◌then◌else◌}
use Prim.{⊥}
use Rattle.std.proofs.Math.Path.{subst}
use Rattle.std.proofs.lemmas.Bool.{false≢true}
use Rattle.update_msgs.specs.declared.message.ClientMsg.{ClientMsg}
use Rattle.update_msgs.specs.declared.message.ClientMsg.TheVariants as told
use Rattle.update_msgs.specs.declared.message.ServerMsg.{ServerMsg}
use Rattle.update_msgs.specs.declared.message.ServerMsg.TheVariants as msg
use Rattle.update_msgs.specs.Writable.{IsFormat, IsBatch, FitsBatch, IsRefusal, IsWritable}
use Rattle.core_model.specs.Names.{Name}
use Rattle.core_model.specs.declared.refusal.Refusal.{Refusal}
use Rattle.core_model.specs.declared.refusal.Refusal.TheVariants.{UnknownClient, TooManyClients, OutOfTurn, Mismatch, Unfetched, Ignored, BadRoots}
use Rattle.core_model.specs.Requests as requests
use Rattle.core_model.specs.Exchange.{batch_in, names_in, read_in, refusal_message, message_for}
use Rattle.client_model.specs.Expecting.{is_answer}
use Rattle.client_model.specs.Requesting.{request}
use Rattle.client_model.specs.Runtime.{Runtime}
use Rattle.client_model.specs.Taking.{Taking, take, unchanged_by, is_stopped, unexpected}
use Rattle.module_language.specs.ModuleLanguage.{module_language}
use Rattle.events_and_replies.specs.declared.event.Reply.{Reply}
use Rattle.events_and_replies.specs.Said.{said, IsWritten}
use Rattle.client_exchange.specs.Replies.{message_in}
use Rattle.client_exchange.proofs.Saying.{message_said}
use Rattle.world_model.specs.Ties.{IsUnderstood}
use Rattle.world_model.specs.Turning.{take_some}

not_four : (loaded : Bool) (asked : ClientMsg) (n : Option Name) (t k : Option ℕ)
    → is_answer loaded asked (msg.Refused 4 n t k) ≡ false
not_four loaded (told.Hello format roots) n t k = refl
not_four loaded told.Ask n t k = refl
not_four loaded (told.Fetch m) n t k = refl
not_four loaded (told.Applied table) n t k = refl
not_four loaded (told.Aborted cause m from x) n t k = refl
not_four loaded (told.Invalidate m v why) n t k = refl
not_four loaded told.Bye n t k = refl

-- what a message brings, where the runtime is stopped, the message is no answer, or it is taken
abbrev taking_if : Bool → Bool → Runtime → ℕ → ℕ → Taking → Taking
taking_if stopped answers r wanted got rest =
    if stopped then unchanged_by is_stopped r
    else (if not answers then unchanged_by (unexpected wanted got) r else rest)

not_taken : (stopped answers : Bool) (r : Runtime) (wanted got : ℕ) (rest : Taking) → answers ≡ false
    → IsUnderstood (taking_if stopped answers r wanted got rest).answer → ⊥
not_taken true answers r wanted got rest e h = h
not_taken false true r wanted got rest e h = absurd (false≢true (sym e))
not_taken false false r wanted got rest e h = h

unlike_four : (r : Runtime) (n : Option Name) (t k : Option ℕ)
    → IsUnderstood (take module_language r (msg.Refused 4 n t k)).answer → ⊥
unlike_four r n t k h =
    let asked = request module_language r in
    not_taken r.stopped (is_answer r.page.loaded asked (msg.Refused 4 n t k)) r _ _ _
    (not_four r.page.loaded asked n t k) h

fits_in : (format batch : ℕ) (names : List Name) → FitsBatch format batch names
    → FitsBatch format (batch_in format batch) (names_in format names)
fits_in format batch names h two =
    subst (λ f. IsBatch (batch_in f batch) (names_in f names)) (sym two) (h two)

read_writable : (format : ℕ) (m : ServerMsg) → IsWritable format m → IsWritable format (read_in format m)
read_writable format (msg.Connected client roots) h = h
read_writable format (msg.Update replaced updates batch triggered) h =
    record { timed = h.timed; fits = fits_in format batch triggered h.fits }
read_writable format (msg.Prune paths) h = h
read_writable format (msg.FullReload cause path batch triggered) h =
    record { some = h.some; fits = fits_in format batch triggered h.fits }
read_writable format (msg.Error n row column word) h = h
read_writable format (msg.Broken n row column word) h = h
read_writable format msg.Idle h = h
read_writable format msg.Done h = h
read_writable format (msg.Text n v t) h = h
read_writable format (msg.Missing n) h = h
read_writable format (msg.NotYet n) h = h
read_writable format (msg.Refused code n told kept) h = h

fits_back : (format batch : ℕ) (names : List Name)
    → FitsBatch format (batch_in format batch) (names_in format names) → FitsBatch format batch names
fits_back format batch names h two = subst (λ f. IsBatch (batch_in f batch) (names_in f names)) two (h two)

-- a message can be written where it can as it is read
pub read_back_writable : (format : ℕ) (m : ServerMsg) → IsWritable format (read_in format m) → IsWritable format m
read_back_writable format (msg.Connected client roots) h = h
read_back_writable format (msg.Update replaced updates batch triggered) h =
    record { timed = h.timed; fits = fits_back format batch triggered h.fits }
read_back_writable format (msg.Prune paths) h = h
read_back_writable format (msg.FullReload cause path batch triggered) h =
    record { some = h.some; fits = fits_back format batch triggered h.fits }
read_back_writable format (msg.Error n row column word) h = h
read_back_writable format (msg.Broken n row column word) h = h
read_back_writable format msg.Idle h = h
read_back_writable format msg.Done h = h
read_back_writable format (msg.Text n v t) h = h
read_back_writable format (msg.Missing n) h = h
read_back_writable format (msg.NotYet n) h = h
read_back_writable format (msg.Refused code n told kept) h = h

-- a refusal that tells no versions can be written
plain : (code : ℕ) (n : Option Name) → 1 ≤ code → code ≤ 7 → is_some n ≡ (code == 4 || code == 5)
    → false ≡ (code == 4) → IsRefusal code n None None
plain code n least most named telling = record {
  coded = record { least = least; most = most };
  named = named;
  telling = telling;
  keeping = telling;
  told_most = tt;
  kept_most = tt;
}

refusal_writable : (format : ℕ) (r : Runtime) (refusal : Refusal)
    → IsUnderstood (take module_language r (read_in format (refusal_message refusal))).answer
    → IsWritable format (read_in format (refusal_message refusal))
refusal_writable format r UnknownClient h = plain 1 None (omega arith) (omega arith) refl refl
refusal_writable format r TooManyClients h = plain 2 None (omega arith) (omega arith) refl refl
refusal_writable format r OutOfTurn h = plain 3 None (omega arith) (omega arith) refl refl
refusal_writable format r (Mismatch n told kept) h = absurd (unlike_four r (Some n) (Some told) (Some kept) h)
refusal_writable format r (Unfetched n) h = plain 5 (Some n) (omega arith) (omega arith) refl refl
refusal_writable format r Ignored h = plain 6 None (omega arith) (omega arith) refl refl
refusal_writable format r BadRoots h = plain 7 None (omega arith) (omega arith) refl refl

-- a message that is there can be written, and the client understands it
CanBeTaken : ℕ → Runtime → Option ServerMsg → Type 0
CanBeTaken format r None = Unit {0}
CanBeTaken format r (Some m) = IsWritable format m × IsUnderstood (take module_language r m).answer

reply_taken : (format : ℕ) (r : Runtime) (reply : requests.Reply) → IsFormat format → IsWritten (said reply)
    → IsUnderstood (take_some module_language r (message_for format reply)).answer
    → CanBeTaken format r (message_for format reply)
unfolding CanBeTaken
reply_taken format r (requests.edited answer) f w h = tt
reply_taken format r (requests.settled answer) f w h = tt
reply_taken format r (requests.to_client m) f w h = (read_writable format m (w format f), h)
reply_taken format r (requests.refused refusal) f w h = (refusal_writable format r refusal h, h)
reply_taken format r requests.gone f w h = (tt, h)

pub can_be_taken : (format : ℕ) (r : Runtime) (reply : requests.Reply) (m : ServerMsg) → IsFormat format
    → IsWritten (said reply) → IsUnderstood (take_some module_language r (message_for format reply)).answer
    → message_for format reply ≡ Some m
    → IsWritable format m × IsUnderstood (take module_language r m).answer
unfolding CanBeTaken
can_be_taken format r reply m f w h e = subst (CanBeTaken format r) e (reply_taken format r reply f w h)

-- what is read of the message that the code has is the message of the definitions
pub message_is : (format : ℕ) (reply : requests.Reply) (said_reply : Reply) → said reply ≡ said_reply
    → option_map (read_in format) (message_in said_reply) ≡ message_for format reply
message_is format reply said_reply e =
    ap (λ x. option_map (read_in format) (message_in x)) (sym e)
    ∙ ap (option_map (read_in format)) (message_said reply)
