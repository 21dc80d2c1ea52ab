-- The parts of one call put together, and what a split and a join leave.
use Rattle.std.proofs.Common.{◌≡◌, ◌+◌, length, ⊎_elim, inl, inr, ℕ, List, [], ◌∷◌, ◌++◌, Bool, true, false, sym, refl, ap, ◌∙◌, subst, Option, Some, None}
use Rattle.std.specs.Prelude.{All}
use Rattle.std.proofs.lemmas.List.Elements.{All-push}
use Rattle.atomic_table.specs.Table.{Me}
use Rattle.turn_lock.specs.Histories.{calls, grown, longer, Past}
use Rattle.turn_lock.specs.Calls.{SameKnower, SameSeen, Called, Joined}
use Rattle.turn_lock.specs.Rule.{Met}
use Rattle.turn_lock.specs.Steps.{IsIdle, Took, Grew, Settled}
use Rattle.turn_lock.specs.Views.{seized, counted, released, joined, old_half, numbered, filled}
use Rattle.turn_lock.specs.declared.keeps.Keeps.{Ghosts}
use Rattle.turn_lock.specs.declared.view.View.{View}
use Rattle.turn_lock.proofs.Histories.{calls_grown, calls_still, has_it, quiet_less, past_calls, calls_two, longer_is}
use Rattle.turn_lock.proofs.Steps.{value_at}

all_grown : {X : Type 0} (P : ℕ × X → Type 0) (xs : List (ℕ × X)) (by : ℕ) (x : X) (recorded : Bool) → All P xs → P (by, x) → All P (grown xs by x recorded)
all_grown P xs by x true a p = All-push P xs (by, x) a p
all_grown P xs by x false a p = a

module _ {T E P : Type 0} (K : Ghosts T E P) where
  -- A call up to the value's return: m is the seat before it, n with the turn and `value`, o while the value is in hand, and g with `after` out
  pub record Run (m n g : Me (Option T) (View T E)) (value after : T) (by : ℕ) (entry : E) (reply : P) (recorded : Bool) : Type 0 where
    pub took : Took K.history K.may K.follows m n
    pub idle : IsIdle by m
    pub found : n.1 ≡ (0, Some value) ∷ []
    pub allowed : K.may by entry ≡ true
    pub grew : K.history after ≡ grown (K.history value) by entry recorded
    pub goes : (o : T) → K.follows o value → K.follows o after
    pub answered : (o : T) → K.follows o value → K.answers o (K.history value) by entry reply recorded
    pub given : g ≡ (n.0, (0, Some after) ∷ [])

  abbrev pub run : (m n o g : Me (Option T) (View T E)) (value after : T) (by : ℕ) (entry : E) (reply : P) (recorded : Bool)
      → Took K.history K.may K.follows m n → IsIdle by m → n.1 ≡ (0, Some value) ∷ [] → o ≡ (n.0, (0, None) ∷ []) → K.may by entry ≡ true
      → K.history after ≡ grown (K.history value) by entry recorded → ((o : T) → K.follows o value → K.follows o after)
      → ((o : T) → K.follows o value → K.answers o (K.history value) by entry reply recorded) → g ≡ (o.0, (0, Some after) ∷ [])
      → Run m n g value after by entry reply recorded
  run m n o g value after by entry reply recorded took idle found out allowed grew goes answered back = record {
    took = took;
    idle = idle;
    found = found;
    allowed = allowed;
    grew = grew;
    goes = goes;
    answered = answered;
    given = back ∙ ap (λ z. (z.0, (0, Some after) ∷ [])) out;
  }

  module _ {m n g : Me (Option T) (View T E)} {value after : T} {by : ℕ} {entry : E} {reply : P} {recorded : Bool} (r : Run m n g value after by entry reply recorded) where
    same : r.took.value ≡ value
    same = ap (λ xs. value_at xs value) (sym r.took.carried ∙ r.found)

    kept : K.history value ≡ r.took.log
    kept = ap K.history (sym same) ∙ r.took.kept

    comes : K.follows r.took.opening value
    comes = subst (λ x. K.follows r.took.opening x) same r.took.comes

    -- the value with its new entry is out with the seat
    pub grows : Grew K.history K.may K.follows by recorded g
    grows =
        subst (λ z. Grew K.history K.may K.follows by recorded z) (sym r.given)
        record {
          value = after;
          entry = entry;
          carried = refl;
          holds = ap (λ v. v.holds) r.took.view;
          number = ap (λ v. v.number) r.took.view ∙ r.idle.number;
          kept = r.grew ∙ ap (λ h. grown h by entry recorded) (kept ∙ sym (ap (λ v. v.seen) r.took.view));
          allowed = r.allowed;
        }

    pub plain : g.0 ≡ counted g.0 g.0.seen
    plain = subst (λ (v : View T E). v ≡ counted v v.seen) (sym (ap (λ z. z.0) r.given ∙ r.took.view)) refl

    -- the seat after the entry was counted
    pub left : (s : Me (Option T) (View T E)) → Settled K.history K.may K.follows g s → s ≡ (counted (seized m.0 r.took.log) (K.history after), (0, Some after) ∷ [])
    left s settled = settled after (ap (λ z. z.1) r.given) ∙ ap (λ z. (counted z.0 (K.history after), z.1)) (r.given ∙ ap (λ v. (v, (0, Some after) ∷ [])) r.took.view)

    pub follows : K.follows r.took.opening after
    follows = r.goes r.took.opening comes

    -- the seat after the release
    pub ended : (s e : Me (Option T) (View T E)) → Settled K.history K.may K.follows g s → e ≡ (released s.0, []) → e.0 ≡ released (counted (seized m.0 r.took.log) (K.history after))
    ended s e settled out = ap (λ z. z.0) out ∙ ap (λ z. released z.0) (left s settled)

    pub same_knower : (s e : Me (Option T) (View T E)) → Settled K.history K.may K.follows g s → e ≡ (released s.0, []) → SameKnower m.0 e.0
    same_knower s e settled out = subst (λ z. SameKnower m.0 z) (sym (ended s e settled out)) record { opening = refl; number = refl; given = refl; known = refl; alone = refl; all_given = refl }

    pub all_may : (s e : Me (Option T) (View T E)) → Settled K.history K.may K.follows g s → e ≡ (released s.0, []) → All (λ x. K.may x.0 x.1 ≡ true) e.0.seen
    all_may s e settled out =
        subst (λ (z : View T E). All (λ x. K.may x.0 x.1 ≡ true) z.seen) (sym (ended s e settled out))
        (subst (λ h. All (λ x. K.may x.0 x.1 ≡ true) h) (sym (r.grew ∙ ap (λ h. grown h by entry recorded) kept))
        (all_grown (λ x. K.may x.0 x.1 ≡ true) r.took.log by entry recorded r.took.allowed r.allowed))

    pub called : (s e : Me (Option T) (View T E)) → Settled K.history K.may K.follows g s → e ≡ (released s.0, []) → Called K.answers by entry reply m.0 e.0
    called s e settled out =
        let p = r.took.past in
        let own = r.took.own by r.idle.number in
        let before : K.history value ≡ m.0.seen ++ p.rest = kept ∙ p.whole in
        let seen : K.history after ≡ grown (m.0.seen ++ p.rest) by entry recorded = r.grew ∙ ap (λ h. grown h by entry recorded) before in
        subst (λ z. Called K.answers by entry reply m.0 z) (sym (ended s e settled out))
        record {
          between = p.rest;
          recorded = recorded;
          seen = seen;
          quiet = p.quiet;
          own = ap (λ h. calls (by ∷ []) h) seen
              ∙ (calls_grown (by ∷ []) (m.0.seen ++ p.rest) by entry recorded (has_it by [])
              ∙ ap (λ h. grown h by entry recorded) (calls_still (by ∷ []) m.0.seen p.rest (quiet_less m.0.known by p.rest own p.quiet)));
          known = ap (λ h. calls m.0.known h) seen
              ∙ (calls_grown m.0.known (m.0.seen ++ p.rest) by entry recorded own ∙ ap (λ h. grown h by entry recorded) (calls_still m.0.known m.0.seen p.rest p.quiet));
          alone = λ h. r.grew ∙ ap (λ h. grown h by entry recorded) (kept ∙ r.took.alone h);
          start = r.took.opening;
          opening = r.took.opened;
          answered = subst (λ h. K.answers r.took.opening h by entry reply recorded) before (r.answered r.took.opening comes);
        }

module _ {T E : Type 0} where
  -- what two passes are when they have met
  pub joins_views : (v w : View T E) → Met (joined v w) → Joined v w (joined v w)
  joins_views v w m =
      let mine = past_calls (longer v.seen w.seen) v.seen v.known m.mine in
      let other = past_calls (longer v.seen w.seen) w.seen w.known m.other in
      record {
        longer = ⊎_elim
            (λ e. inl (e, subst (λ (zs : List (ℕ × E)). Past zs v.seen v.known) e m.mine))
            (λ e. inr (e, subst (λ (zs : List (ℕ × E)). Past zs w.seen w.known) e m.other))
            (longer_is v.seen w.seen);
        mine = m.mine;
        other = m.other;
        apart = m.apart;
        mine_calls = mine;
        other_calls = other;
        count = calls_two v.known w.known (longer v.seen w.seen) m.apart
            ∙ (ap (λ (a : List (ℕ × E)). length a + length (calls w.known (longer v.seen w.seen))) mine ∙ ap (λ (b : List (ℕ × E)). length (calls v.known v.seen) + length b) other);
        known = refl;
        number = refl;
        given = refl;
        opening = refl;
        alone = refl;
        all_given = refl;
      }

  -- a pass was split off, or all numbers were given
  pub split_left : (v : View T E) (n : ℕ) → SameSeen v (old_half (numbered v n))
  split_left v n = record { opening = refl; number = refl; known = refl; seen = refl; alone = refl }

  pub filled_left : (v : View T E) → SameSeen v (filled v)
  filled_left v = record { opening = refl; number = refl; known = refl; seen = refl; alone = refl }
