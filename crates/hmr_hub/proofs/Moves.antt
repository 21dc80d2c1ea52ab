-- The calls of a hub, told of a pass that goes on.
use Rattle.std.proofs.Common.{◌≡◌, ℕ, true, List, [], ◌∷◌, ◌++◌, refl, ap, sym, ◌∙◌, subst, append_assoc}
use Rattle.std.specs.Prelude.{Result, Ok, Err}
use Rattle.std.proofs.lemmas.Bool.{or_left}
use Rattle.std.proofs.lemmas.List.{append-nil}
use Rattle.update_msgs.specs.declared.desk.HubStop.{HubStop}
use Rattle.core_model.specs.Core.{Event}
use Rattle.core_model.specs.Transcript.{Recorded}
use Rattle.events_and_replies.specs.declared.event.Reply.{Reply}
use Rattle.turn_lock.specs.Histories.{Past, calls, has}
use Rattle.turn_lock.proofs.Histories.{calls_still, has_append, has_it, quiet_less}
use Rattle.hmr_hub.specs.declared.pass.Pass.{Pass}
use Rattle.hmr_hub.specs.Calls.{Called, IsFirst, IsHalf, Joined, Looked, SameKnower, SameSeen}
use Rattle.hmr_hub.specs.Passes.{known_of, mark_of, number_of, roots_of, seen_of}
use Rattle.transcripts.specs.Transcripts.{recorded}
use Rattle.hmr_hub.specs.Moves.{KnowsOwn, Moved, own_of}

pub moved_none : (p : Pass) → Moved p p []
moved_none p = record {
  mark = refl;
  number = refl;
  roots = refl;
  knows = λ k h. h;
  more = [];
  longer = sym (append-nil (seen_of p));
  own = sym (append-nil (own_of p));
}

-- the entries under the own number, of which the first pass is asked
own_as : (p q : Pass) → number_of q ≡ number_of p → own_of q ≡ calls (number_of p ∷ []) (seen_of q)
own_as p q e = ap (λ k. calls (k ∷ []) (seen_of q)) e

pub moved_then : (p q r : Pass) (a b : List Recorded) → Moved p q a → Moved q r b → Moved p r (a ++ b)
moved_then p q r a b h k = record {
  mark = k.mark ∙ h.mark;
  number = k.number ∙ h.number;
  roots = k.roots ∙ h.roots;
  knows = λ n t. k.knows n (h.knows n t);
  more = h.more ++ k.more;
  longer = k.longer ∙ (ap (λ xs. xs ++ k.more) h.longer ∙ append_assoc (seen_of p) h.more k.more);
  own = k.own ∙ (ap (λ xs. xs ++ b) h.own ∙ append_assoc (own_of p) a b);
}

pub moved_no_more : (p q r : Pass) (a : List Recorded) → Moved p q a → Moved q r [] → Moved p r a
moved_no_more p q r a h k = subst (λ xs. Moved p r xs) (append-nil a) (moved_then p q r a [] h k)

pub knows_moved : (p q : Pass) (mine : List Recorded) → Moved p q mine → KnowsOwn p → KnowsOwn q
knows_moved p q mine h k = ap (λ n. has n (known_of q)) h.number ∙ h.knows (number_of p) k

pub knows_first : (roots : List (List ℕ)) (p : Pass) → IsFirst roots p → KnowsOwn p
knows_first roots p f = ap (λ n. has n (known_of p)) f.number ∙ ap (λ ks. has 0 ks) f.known

pub knows_half : (p half : Pass) → IsHalf p half → KnowsOwn half
knows_half p half h = ap (λ ks. has (number_of half) ks) h.known ∙ has_it (number_of half) []

-- an event was told, or not
pub moved_called : (p q : Pass) (event : Event) (result : Result Reply HubStop) → SameKnower p q → Called event result p q → Moved p q (recorded (number_of p) event result)
moved_called p q event result same c = record {
  mark = same.mark;
  number = same.number;
  roots = same.roots;
  knows = λ k t. ap (λ ks. has k ks) same.known ∙ t;
  more = c.past.rest ++ recorded (number_of p) event result;
  longer = c.seen ∙ (ap (λ xs. xs ++ recorded (number_of p) event result) c.past.whole ∙ append_assoc (seen_of p) c.past.rest (recorded (number_of p) event result));
  own = own_as p q same.number ∙ c.own;
}

pub moved_told : (p q : Pass) (event : Event) (reply : Reply) → SameKnower p q → Called event (Ok reply) p q → Moved p q ((number_of p, event) ∷ [])
moved_told p q event reply same c = moved_called p q event (Ok reply) same c

pub moved_refused : (p q : Pass) (event : Event) (stop : HubStop) → SameKnower p q → Called event (Err stop) p q → Moved p q []
moved_refused p q event stop same c = moved_called p q event (Err stop) same c

-- nothing under the numbers that it knows came
moved_past : (p q : Pass) → mark_of q ≡ mark_of p → number_of q ≡ number_of p → roots_of q ≡ roots_of p → ((k : ℕ) → has k (known_of p) ≡ true → has k (known_of q) ≡ true)
    → Past (seen_of q) (seen_of p) (known_of p) → KnowsOwn p → Moved p q []
moved_past p q mark number roots knows past own = record {
  mark = mark;
  number = number;
  roots = roots;
  knows = knows;
  more = past.rest;
  longer = past.whole;
  own =
      own_as p q number
      ∙ (ap (λ xs. calls (number_of p ∷ []) xs) past.whole
      ∙ (calls_still (number_of p ∷ []) (seen_of p) past.rest (quiet_less (known_of p) (number_of p) past.rest own past.quiet) ∙ sym (append-nil (own_of p))));
}

-- it looked on
pub moved_looked : (p q : Pass) → SameKnower p q → Looked p q → KnowsOwn p → Moved p q []
moved_looked p q same l own = moved_past p q same.mark same.number same.roots (λ k t. ap (λ ks. has k ks) same.known ∙ t) l.past own

-- another was split off it
pub moved_split : (p q : Pass) → SameSeen p q → Moved p q []
moved_split p q same = record {
  mark = same.mark;
  number = same.number;
  roots = same.roots;
  knows = λ k t. ap (λ ks. has k ks) same.known ∙ t;
  more = [];
  longer = same.seen ∙ sym (append-nil (seen_of p));
  own = own_as p q same.number ∙ (ap (λ xs. calls (number_of p ∷ []) xs) same.seen ∙ sym (append-nil (own_of p)));
}

-- another was joined into it
pub moved_joined : (p o q : Pass) → Joined p o q → KnowsOwn p → Moved p q []
moved_joined p o q j own = moved_past p q j.mark j.number j.roots (λ k t. ap (λ ks. has k ks) j.known ∙ (has_append k (known_of p) (known_of o) ∙ or_left (has k (known_of p)) (has k (known_of o)) t)) j.mine own
