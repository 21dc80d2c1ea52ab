-- A pass that goes on by calls, one after another.
use Rattle.std.proofs.Common.{◌≡◌, ℕ, true, List, [], ◌∷◌, ◌++◌, refl, ap, sym, ◌∙◌, subst, append_assoc}
use Rattle.std.specs.Prelude.{Result, Ok, Err}
use Rattle.std.proofs.lemmas.List.{append-nil, append_cancel_right}
use Rattle.std.proofs.lemmas.Grind.{flat_map-append}
use Rattle.core_model.specs.Names.{Name}
use Rattle.core_model.specs.Core.{Event}
use Rattle.core_model.specs.Transcript.{Recorded, reply_after}
use Rattle.update_msgs.specs.declared.desk.HubStop.{HubStop}
use Rattle.update_msgs.specs.declared.desk.HubStop.TheVariants.{TranscriptFull, NoMemory}
use Rattle.events_and_replies.specs.declared.event.Reply.{Reply}
use Rattle.events_and_replies.specs.Said.{said}
use Rattle.turn_lock.specs.Histories.{calls, has}
use Rattle.turn_lock.proofs.Histories.{calls_append, has_it}
use Rattle.hmr_hub.specs.declared.pass.Pass.{Pass}
use Rattle.hmr_hub.specs.Calls.{Called, SameKnower}
use Rattle.hmr_hub.specs.Passes.{number_of, roots_of, seen_of}
use Rattle.transcripts.specs.Transcripts.{recorded}
use Rattle.hmr_hub.specs.Moves.{Moved, own_of}
use Rattle.hmr_hub.proofs.Moves.{moved_called, moved_none, moved_then}
use Rattle.live_desk.specs.Calls.{AreCallsAt, Call, HadNoPlace, HasCalled, IsCallAt, IsRepliedAt, entries_of, entry_of}

-- What is so of a transcript is so of a longer one.

replied_longer : (roots : List Name) (entries more : List Recorded) (by : ℕ) (own : List Recorded) (event : Event) (reply : Reply)
    → IsRepliedAt roots entries by own event reply → IsRepliedAt roots (entries ++ more) by own event reply
replied_longer roots entries more by own event reply h = record {
  before = h.before;
  after = h.after ++ more;
  whole = ap (λ es. es ++ more) h.whole ∙ append_assoc h.before ((by, event) ∷ h.after) more;
  own_are = h.own_are;
  reply_is = h.reply_is;
}

no_place_longer : (entries more : List Recorded) (by : ℕ) (own : List Recorded) (event : Event) → HadNoPlace entries by own event → HadNoPlace (entries ++ more) by own event
no_place_longer entries more by own event h = record {
  before = h.before;
  after = h.after ++ more;
  whole = ap (λ es. es ++ more) h.whole ∙ append_assoc h.before h.after more;
  own_are = h.own_are;
  full = h.full;
}

call_longer : (roots : List Name) (entries more : List Recorded) (by : ℕ) (own : List Recorded) (event : Event) (result : Result Reply HubStop)
    → IsCallAt roots entries by own event result → IsCallAt roots (entries ++ more) by own event result
call_longer roots entries more by own event (Ok reply) h = replied_longer roots entries more by own event reply h
call_longer roots entries more by own event (Err TranscriptFull) h = no_place_longer entries more by own event h
call_longer roots entries more by own event (Err NoMemory) h = tt

pub calls_longer : (roots : List Name) (entries more : List Recorded) (by : ℕ) (own : List Recorded) (made : List Call)
    → AreCallsAt roots entries by own made → AreCallsAt roots (entries ++ more) by own made
calls_longer roots entries more by own [] h = tt
calls_longer roots entries more by own (call ∷ made) h =
    (call_longer roots entries more by own call.0 call.1 h.0, calls_longer roots entries more by (own ++ entry_of by call) made h.1)

calls_moved : (p q : Pass) (mine own : List Recorded) (made : List Call) → Moved p q mine
    → AreCallsAt (roots_of p) (seen_of p) (number_of p) own made → AreCallsAt (roots_of q) (seen_of q) (number_of q) own made
calls_moved p q mine own made m h =
    subst (λ roots. AreCallsAt roots (seen_of q) (number_of q) own made) (sym m.roots)
    (subst (λ by. AreCallsAt (roots_of p) (seen_of q) by own made) (sym m.number)
    (subst (λ entries. AreCallsAt (roots_of p) entries (number_of p) own made) (sym m.longer) (calls_longer (roots_of p) (seen_of p) m.more (number_of p) own made h)))

-- Calls behind others.

calls_more : (roots : List Name) (entries : List Recorded) (by : ℕ) (own : List Recorded) (a b : List Call)
    → AreCallsAt roots entries by own a → AreCallsAt roots entries by (own ++ entries_of by a) b → AreCallsAt roots entries by own (a ++ b)
calls_more roots entries by own [] b h k = subst (λ es. AreCallsAt roots entries by es b) (append-nil own) k
calls_more roots entries by own (call ∷ a) b h k = (
  h.0,
  calls_more roots entries by (own ++ entry_of by call) a b h.1
      (subst (λ es. AreCallsAt roots entries by es b) (sym (append_assoc own (entry_of by call) (entries_of by a))) k),
)

pub called_none : (p : Pass) → HasCalled p p []
called_none p = record { moved = moved_none p; each = tt }

pub called_then : (p q r : Pass) (a b : List Call) → HasCalled p q a → HasCalled q r b → HasCalled p r (a ++ b)
called_then p q r a b h k =
    let next : Moved q r (entries_of (number_of p) b) = subst (λ by. Moved q r (entries_of by b)) h.moved.number k.moved in
    let own : own_of q ≡ own_of p ++ entries_of (number_of r) a = h.moved.own ∙ ap (λ by. own_of p ++ entries_of by a) (sym (k.moved.number ∙ h.moved.number)) in
    record {
      moved =
          subst (λ mine. Moved p r mine) (sym (flat_map-append (entry_of (number_of p)) a b))
          (moved_then p q r (entries_of (number_of p) a) (entries_of (number_of p) b) h.moved next);
      each =
          calls_more (roots_of r) (seen_of r) (number_of r) (own_of p) a b
          (calls_moved q r (entries_of (number_of q) b) (own_of p) a k.moved h.each)
          (subst (λ es. AreCallsAt (roots_of r) (seen_of r) (number_of r) es b) own k.each);
    }

-- One call.

one_under : {X : Type 0} (ks : List ℕ) (by : ℕ) (x : X) → has by ks ≡ true → calls ks ((by, x) ∷ []) ≡ (by, x) ∷ []
one_under ks by x h = rw h refl

recorded_under : (by : ℕ) (event : Event) (result : Result Reply HubStop) → calls (by ∷ []) (recorded by event result) ≡ recorded by event result
recorded_under by event (Ok reply) = one_under (by ∷ []) by event (has_it by [])
recorded_under by event (Err stop) = refl

module _ (p q : Pass) (event : Event) (same : SameKnower p q) where
  -- under the number there was nothing else since
  own_before : (result : Result Reply HubStop) (c : Called event result p q) → calls (number_of q ∷ []) c.before ≡ own_of p
  own_before result c =
      let by = number_of p in
      ap (λ n. calls (n ∷ []) c.before) same.number
      ∙ append_cancel_right (calls (by ∷ []) c.before) (own_of p) (recorded by event result)
      (ap (λ es. calls (by ∷ []) c.before ++ es) (sym (recorded_under by event result))
      ∙ (sym (calls_append (by ∷ []) c.before (recorded by event result)) ∙ (ap (λ es. calls (by ∷ []) es) (sym c.seen) ∙ c.own)))

  call_at : (result : Result Reply HubStop) → Called event result p q → IsCallAt (roots_of q) (seen_of q) (number_of q) (own_of p) event result
  call_at (Ok reply) c = record {
    before = c.before;
    after = [];
    whole = c.seen ∙ ap (λ n. c.before ++ (n, event) ∷ []) (sym same.number);
    own_are = own_before (Ok reply) c;
    reply_is = ap (λ roots. said (reply_after roots c.before event)) same.roots ∙ c.reply;
  }
  call_at (Err TranscriptFull) c = record {
    before = c.before;
    after = [];
    whole = c.seen;
    own_are = own_before (Err TranscriptFull) c;
    full = c.full.0 refl;
  }
  call_at (Err NoMemory) c = tt

  pub called_one : (result : Result Reply HubStop) → Called event result p q → HasCalled p q ((event, result) ∷ [])
  called_one result c = record {
    moved = subst (λ mine. Moved p q mine) (sym (append-nil (recorded (number_of p) event result))) (moved_called p q event result same c);
    each = (call_at result c, tt);
  }
