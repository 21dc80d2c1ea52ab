-- The passes of doors: unused at first, and with the sessions that were held with them at the end.
use Rattle.std.proofs.Common.{◌≡◌, ◌≤◌, ◌+◌, ◌⊎◌, inl, inr, ℕ, List, [], ◌∷◌, ◌++◌, map, ap, sym, ◌∙◌, subst, arith}
use Rattle.std.specs.Prelude.{flat_map}
use Rattle.std.specs.List.{All}
use Rattle.std.specs.List.Sorted.{IsPermutation}
use Rattle.std.proofs.lemmas.Grind.{flat_map-append}
use Rattle.std.proofs.lemmas.List.{append-nil}
use Rattle.std.proofs.lemmas.List.Elements.{All-append, All-cons, All-head, All-nil, All-tail}
use Rattle.std.proofs.lemmas.List.Sorted.{All-permutation, IsPermutation-cons, IsPermutation-middle, IsPermutation-refl, IsPermutation-sym, IsPermutation-to_front, IsPermutation-trans}
use Rattle.core_model.specs.Names.{Name}
use Rattle.turn_lock.specs.Histories.{calls}
use Rattle.turn_lock.proofs.Histories.{calls_still}
use Rattle.hmr_hub.specs.declared.pass.Pass.{Pass}
use Rattle.hmr_hub.specs.Calls.{IsHalf}
use Rattle.hmr_hub.specs.Passes.{number_of, roots_of, seen_of}
use Rattle.hmr_hub.proofs.Moves.{knows_half, knows_moved}
use Rattle.serve_reports.specs.Within.{IsWithin}
use Rattle.live_desk.specs.Calls.{AreCallsAt, Call, HasCalled, entries_of}
use Rattle.live_desk.specs.Sessions.{Session, calls_of}
use Rattle.live_desk.proofs.Calls.{called_none, called_then, calls_longer}
use Rattle.live_crew.specs.Held.{HasDoors, HasHeld, HasSessions, Held, IsHeld, IsServed, IsUnused, TakenBack, pass_of}

-- Sessions behind others.

pub held_none : (p : Pass) → HasHeld p p []
held_none p = record { called = called_none p; each = All-nil IsServed }

pub held_then : (p q r : Pass) (a b : List Session) → HasHeld p q a → HasHeld q r b → HasHeld p r (a ++ b)
held_then p q r a b h k = record {
  called = subst (λ made. HasCalled p r made) (sym (flat_map-append calls_of a b)) (called_then p q r (flat_map calls_of a) (flat_map calls_of b) h.called k.called);
  each = All-append IsServed a b h.each k.each;
}

pub held_one : (p q : Pass) (s : Session) → IsServed s → HasCalled p q (calls_of s) → HasHeld p q (s ∷ [])
held_one p q s served called = record {
  called = subst (λ made. HasCalled p q made) (sym (append-nil (calls_of s))) called;
  each = All-cons IsServed s [] served (All-nil IsServed);
}

-- The pass of a door.

pub unused_half : (p half : Pass) → IsHalf p half → IsUnused (roots_of p) half
unused_half p half h = record { none = h.unused; knows = knows_half p half h; roots_are = h.roots }

-- all that was called with an unused pass are the sessions that were held with it
pub unused_held : (roots : List Name) (p q : Pass) (sessions : List Session) → IsUnused roots p → HasHeld p q sessions
    → IsHeld roots (record { pass = q; sessions = sessions })
unused_held roots p q sessions unused h =
    let made : List Call = flat_map calls_of sessions in
    let m = h.called.moved in
    record {
      knows = knows_moved p q (entries_of (number_of p) made) m unused.knows;
      own = m.own ∙ (ap (λ es. es ++ entries_of (number_of p) made) unused.none ∙ ap (λ by. entries_of by made) (sym m.number));
      replied =
          subst (λ rs. AreCallsAt rs (seen_of q) (number_of q) [] made) (m.roots ∙ unused.roots_are)
          (subst (λ es. AreCallsAt (roots_of q) (seen_of q) (number_of q) es made) unused.none h.called.each);
      each = h.each;
    }

-- a pass was taken back
one_more : (xs old new : List Pass) (x : Pass) → IsPermutation xs old → new ≡ old ++ x ∷ [] → IsPermutation (x ∷ xs) new
one_more xs old new x h e =
    subst (λ ys. IsPermutation (x ∷ xs) ys) (sym e)
    (IsPermutation-trans (x ∷ xs) (x ∷ old) (old ++ x ∷ []) (IsPermutation-cons x xs old h)
    (IsPermutation-sym (old ++ x ∷ []) (x ∷ old) (IsPermutation-to_front old x)))

pub no_doors : (roots : List Name) (passes : List Pass) → HasDoors roots 0 passes
no_doors roots passes = record { doors = []; others = passes; parted = IsPermutation-refl passes; many = omega arith; held = All-nil (IsHeld roots) }

pub doors_more : (roots : List Name) (count kind : ℕ) (old new : List Pass) → (kind ≡ 0) ⊎ (kind ≡ 1) → TakenBack roots kind old new
    → HasDoors roots count old → HasDoors roots (count + kind) new
doors_more roots count kind old new (inl zero) back h =
    let moved = IsPermutation-middle (map pass_of h.doors) back.pass h.others in
    record {
      doors = h.doors;
      others = back.pass ∷ h.others;
      parted =
          IsPermutation-trans (map pass_of h.doors ++ back.pass ∷ h.others) (back.pass ∷ (map pass_of h.doors ++ h.others)) new moved
          (one_more (map pass_of h.doors ++ h.others) old new back.pass h.parted back.items);
      many = omega (arith, zero, h.many);
      held = h.held;
    }
doors_more roots count kind old new (inr one) back h =
    let sessions = back.held one in
    let door : Held = record { pass = back.pass; sessions = sessions.0 } in
    record {
      doors = door ∷ h.doors;
      others = h.others;
      parted = one_more (map pass_of h.doors ++ h.others) old new back.pass h.parted back.items;
      many = omega (arith, one, h.many);
      held = All-cons (IsHeld roots) door h.doors sessions.1 h.held;
    }

pub fewer_doors : (roots : List Name) (few count : ℕ) (passes : List Pass) → few ≤ count → HasDoors roots count passes → HasDoors roots few passes
fewer_doors roots few count passes less h =
    record { doors = h.doors; others = h.others; parted = h.parted; many = omega (arith, less, h.many); held = h.held }

-- Joined into a pass, each is within what that has seen.

sessions_within : (roots : List Name) (p : Pass) (h : Held) → roots_of p ≡ roots → IsHeld roots h → IsWithin h.pass p → HasSessions p h
sessions_within roots p h same held within =
    let by : ℕ = number_of h.pass in
    let made : List Call = flat_map calls_of h.sessions in
    record {
      own =
          ap (λ es. calls (by ∷ []) es) within.whole
          ∙ (calls_still (by ∷ []) (seen_of h.pass) within.more (within.quiet held.knows) ∙ held.own);
      replied =
          subst (λ rs. AreCallsAt rs (seen_of p) by [] made) (sym same)
          (subst (λ es. AreCallsAt roots es by [] made) (sym within.whole) (calls_longer roots (seen_of h.pass) within.more by [] made held.replied));
      each = held.each;
    }

all_sessions : (roots : List Name) (p : Pass) (doors : List Held) (others : List Pass) → roots_of p ≡ roots → All (IsHeld roots) doors
    → All (λ q. IsWithin q p) (map pass_of doors ++ others) → All (HasSessions p) doors
all_sessions roots p [] others same held within = All-nil (HasSessions p)
all_sessions roots p (h ∷ doors) others same held within =
    All-cons (HasSessions p) h doors
    (sessions_within roots p h same (All-head (IsHeld roots) h doors held) (All-head (λ q. IsWithin q p) h.pass (map pass_of doors ++ others) within))
    (all_sessions roots p doors others same (All-tail (IsHeld roots) h doors held) (All-tail (λ q. IsWithin q p) h.pass (map pass_of doors ++ others) within))

pub doors_within : (roots : List Name) (count : ℕ) (passes : List Pass) (p : Pass) (h : HasDoors roots count passes) → roots_of p ≡ roots
    → All (λ q. IsWithin q p) passes → All (HasSessions p) h.doors
doors_within roots count passes p h same within =
    all_sessions roots p h.doors h.others same h.held
    (All-permutation (λ q. IsWithin q p) passes (map pass_of h.doors ++ h.others) (IsPermutation-sym (map pass_of h.doors ++ h.others) passes h.parted) within)
