-- One part or another, a part under another name, and nothing.
use Rattle.std.proofs.Common.{◌≡◌, ℕ, ◌≤◌, List, [], ◌++◌, Bool, true, false, ◌&&◌, ◌⊎◌, inl, inr, Some, Ok, Err, refl, sym, ap, ◌∙◌, subst, arith, Result, ◌∷◌, cond}
use Rattle.module_semantics.specs.Token.{LineToken}
use Rattle.module_semantics.specs.Readers.{unexpected, Reader, next_in, given, ◌&◌, mapped, ◌▷◌, ◌◁◌, choice, too_deep, GrammarFault}
use Rattle.module_semantics.specs.Spelling.{Spell, ◌▸◌}
use Rattle.module_semantics.proofs.Steps.{ok_parts, bind_ok, bind_err, bound, went, if_true, if_false, next_after}
use Rattle.module_semantics.proofs.KindLists.{disjoint, subset, subset_self, next_apart, next_more, next_left, next_right, next_neither, next_in_looks}
use Rattle.module_semantics.proofs.Parts.{Free, Stable, Part, Begun, Starts, Reads, Sunk}
use Rattle.module_semantics.proofs.Sequences.{firsts_of, follow_of, seq, seq_reads, then_stable, ok_stable, same_sunk}

-- nothing
abbrev pub nothing_part : {A : Type 0} → A → Part (Unit {0}) A
nothing_part x = record { spelt = λ u ts. Some ts; value = λ u. x; depth = λ u. 0 }

pub given_reads : {A : Type 0} (n : ℕ) (x : A) → Reads [] true [] n (nothing_part x) (given x) (given x)
given_reads n x = record {
  whole = λ ts y r h. let e = ok_parts x y ts r h in (tt, ap Some e.0, e.1, omega arith);
  comp = λ d ts r few h stop. let e : ts ≡ r = cc in ap (λ k. Ok (x, k)) e;
  begun = λ ts m h. absurd cc;
  starts = λ d ts r few h. inr (cc);
  free = λ d few ts r h. ([], cc, λ s near. refl);
  some = record { by = tt; text = []; fresh = tt; spells = λ s fresh. refl };
  stable = ok_stable x;
  self = ok_stable x;
  sunk = λ ts m h. absurd cc;
}

-- one or the other
abbrev pub either_spelt : {D E : Type 0} → (D → Spell) → (E → Spell) → D ⊎ E → Spell
either_spelt f g (inl d) = f d
either_spelt f g (inr e) = g e

abbrev pub either_of : {D E A : Type 0} → (D → A) → (E → A) → D ⊎ E → A
either_of f g (inl d) = f d
either_of f g (inr e) = g e

abbrev pub alt : {D E A : Type 0} → Part D A → Part E A → Part (D ⊎ E) A
alt P Q = record { spelt = either_spelt P.spelt Q.spelt; value = either_of P.value Q.value; depth = either_of P.depth Q.depth }

-- the tokens at which a choice goes on: where its second part may be nothing, those of the first part too
abbrev pub follow_alt : Bool → List ℕ → List ℕ → List ℕ → List ℕ
follow_alt true ks ks' hs = ks ++ (ks' ++ hs)
follow_alt false ks ks' hs = ks ++ ks'

pub stable_if : {A : Type 0} (hs : List ℕ) (f f' g g' : Reader A) → Stable f f' → Stable g g' → Stable (choice hs f g) (choice hs f' g')
stable_if hs f f' g g' ff gg = record {
  reads = λ ts y r h. elim (went (next_in hs ts) (f ts) (g ts) (Ok (y, r)) h) [
    | inl w ↦
        let a = ff.reads ts y r w.1 in
        (a.0, a.1, λ s same. if_true (next_in hs (a.0 ++ s)) _ _ _ (next_in_looks hs (a.0 ++ s) (a.0 ++ r) (next_after a.0 r s same) ∙ sym (ap (next_in hs) a.1) ∙ w.0) (a.2 s same))
    | inr w ↦
        let a = gg.reads ts y r w.1 in
        (a.0, a.1, λ s same. if_false (next_in hs (a.0 ++ s)) _ _ _ (next_in_looks hs (a.0 ++ s) (a.0 ++ r) (next_after a.0 r s same) ∙ sym (ap (next_in hs) a.1) ∙ w.0) (a.2 s same))
  ];
  faults = λ ts n h. elim (went (next_in hs ts) (f ts) (g ts) (Err (unexpected n)) h) [
    | inl w ↦
        let a = ff.faults ts n w.1 in
        (a.0, a.1, a.2, a.3, λ s same. if_true (next_in hs (a.0 ++ s)) _ _ _ (next_in_looks hs (a.0 ++ s) (a.0 ++ a.1) (next_after a.0 a.1 s same) ∙ sym (ap (next_in hs) a.2) ∙ w.0) (a.4 s same))
    | inr w ↦
        let a = gg.faults ts n w.1 in
        (a.0, a.1, a.2, a.3, λ s same. if_false (next_in hs (a.0 ++ s)) _ _ _ (next_in_looks hs (a.0 ++ s) (a.0 ++ a.1) (next_after a.0 a.1 s same) ∙ sym (ap (next_in hs) a.2) ∙ w.0) (a.4 s same))
  ];
}

alt_whole : {D E A : Type 0} (fs ks fs' ks' hs : List ℕ) (null' : Bool) (n : ℕ) (P : Part D A) (Q : Part E A) (f f' g g' : Reader A) → Reads fs false ks n P f f' → Reads fs' null' ks' n Q g g'
    → (ts : List LineToken) (x : A) (r : List LineToken) → choice hs f g ts ≡ Ok (x, r) → (d : D ⊎ E) × ((alt P Q).spelt d ts ≡ Some r) × ((alt P Q).value d ≡ x) × ((alt P Q).depth d ≤ n)
alt_whole fs ks fs' ks' hs null' n P Q f f' g g' a b ts x r h = elim (went (next_in hs ts) (f ts) (g ts) (Ok (x, r)) h) [
  | inl w ↦ let d = a.whole ts x r w.1 in (inl d.0, d.1, d.2, d.3)
  | inr w ↦ let d = b.whole ts x r w.1 in (inr d.0, d.1, d.2, d.3)
]

-- the second part, where the first can't begin
not_first : (null' : Bool) (fs' ks ks' hs : List ℕ) (ts r : List LineToken) → disjoint fs' hs ≡ true → Starts fs' null' ts r → next_in (follow_alt null' ks ks' hs) r ≡ false → (next_in hs ts ≡ false) × (next_in ks' r ≡ false)
not_first false fs' ks ks' hs ts r apart starts stop = (next_apart fs' hs ts apart starts, (next_neither ks ks' r stop).1)
not_first true fs' ks ks' hs ts r apart (inl starts) stop = (next_apart fs' hs ts apart starts, (next_neither ks' hs r (next_neither ks (ks' ++ hs) r stop).1).0)
not_first true fs' ks ks' hs ts r apart (inr same) stop =
    let w = next_neither ks' hs r (next_neither ks (ks' ++ hs) r stop).1 in
    (ap (next_in hs) same ∙ w.1, w.0)

first_stops : (null' : Bool) (ks ks' hs : List ℕ) (r : List LineToken) → next_in (follow_alt null' ks ks' hs) r ≡ false → next_in ks r ≡ false
first_stops false ks ks' hs r stop = (next_neither ks ks' r stop).0
first_stops true ks ks' hs r stop = (next_neither ks (ks' ++ hs) r stop).0

alt_comp : {D E A : Type 0} (fs ks fs' ks' hs : List ℕ) (null' : Bool) (n : ℕ) (P : Part D A) (Q : Part E A) (f f' g g' : Reader A) → subset fs hs ≡ true → disjoint fs' hs ≡ true → Reads fs false ks n P f f' → Reads fs' null' ks' n Q g g'
    → (d : D ⊎ E) (ts r : List LineToken) → (alt P Q).depth d ≤ n → (alt P Q).spelt d ts ≡ Some r → next_in (follow_alt null' ks ks' hs) r ≡ false → choice hs f g ts ≡ Ok ((alt P Q).value d, r)
alt_comp fs ks fs' ks' hs null' n P Q f f' g g' within apart a b (inl d) ts r few h stop = if_true (next_in hs ts) _ _ _ (next_more fs hs ts within (a.starts d ts r few h)) (a.comp d ts r few h (first_stops null' ks ks' hs r stop))
alt_comp fs ks fs' ks' hs null' n P Q f f' g g' within apart a b (inr e) ts r few h stop =
    let w = not_first null' fs' ks ks' hs ts r apart (b.starts e ts r few h) stop in
    if_false (next_in hs ts) _ _ _ w.0 (b.comp e ts r few h w.1)

alt_begun : {D E A : Type 0} (fs ks fs' ks' hs : List ℕ) (null' : Bool) (n : ℕ) (P : Part D A) (Q : Part E A) (f f' g g' : Reader A) → Reads fs false ks n P f f' → Reads fs' null' ks' n Q g g'
    → (ts : List LineToken) (m : ℕ) → choice hs f g ts ≡ Err (unexpected m) → Begun (alt P Q) ts m
alt_begun fs ks fs' ks' hs null' n P Q f f' g g' a b ts m h = elim (went (next_in hs ts) (f ts) (g ts) (Err (unexpected m)) h) [
  | inl w ↦ let d = a.begun ts m w.1 in record { before = d.before; rest = d.rest; more = d.more; by = inl d.by; split = d.split; left = d.left; fresh = d.fresh; spells = d.spells }
  | inr w ↦ let d = b.begun ts m w.1 in record { before = d.before; rest = d.rest; more = d.more; by = inr d.by; split = d.split; left = d.left; fresh = d.fresh; spells = d.spells }
]

pub test_stays : (hs : List ℕ) (ts b : List LineToken) (t : LineToken) (r s : List LineToken) (v : Bool) → ts ≡ b ++ (t ∷ r) → next_in hs ts ≡ v → next_in hs (b ++ (t ∷ s)) ≡ v
test_stays hs ts b t r s v split h = next_in_looks hs (b ++ (t ∷ s)) (b ++ (t ∷ r)) (next_after b (t ∷ r) (t ∷ s) refl) ∙ sym (ap (next_in hs) split) ∙ h

pub first_way : {A : Type 0} (b : Bool) (x y z : Result (A × List LineToken) GrammarFault) → b ≡ true → cond b x y ≡ z → x ≡ z
first_way true x y z h g = g
first_way false x y z h g = absurd cc

pub second_way : {A : Type 0} (b : Bool) (x y z : Result (A × List LineToken) GrammarFault) → b ≡ false → cond b x y ≡ z → y ≡ z
second_way true x y z h g = absurd cc
second_way false x y z h g = g

alt_sunk : {D E A : Type 0} (fs ks fs' ks' hs : List ℕ) (null' : Bool) (n : ℕ) (P : Part D A) (Q : Part E A) (f f' g g' : Reader A) → Reads fs false ks n P f f' → Reads fs' null' ks' n Q g g'
    → (ts : List LineToken) (m : ℕ) → choice hs f g ts ≡ Err (too_deep m) → Sunk (alt P Q) (choice hs f g) ts m
alt_sunk fs ks fs' ks' hs null' n P Q f f' g g' a b ts m h = elim (went (next_in hs ts) (f ts) (g ts) (Err (too_deep m)) h) [
  | inl w ↦
      let d = a.sunk ts m w.1 in
      record { before = d.before; at = d.at; rest = d.rest; more = d.more; by = inl d.by; split = d.split; left = d.left; fresh = d.fresh; spells = d.spells; never = λ s x q is. d.never s x q (first_way (next_in hs (d.before ++ (d.at ∷ s))) _ _ _ (test_stays hs ts d.before d.at d.rest s true d.split w.0) is) }
  | inr w ↦
      let d = b.sunk ts m w.1 in
      record { before = d.before; at = d.at; rest = d.rest; more = d.more; by = inr d.by; split = d.split; left = d.left; fresh = d.fresh; spells = d.spells; never = λ s x q is. d.never s x q (second_way (next_in hs (d.before ++ (d.at ∷ s))) _ _ _ (test_stays hs ts d.before d.at d.rest s false d.split w.0) is) }
]

alt_starts : (null' : Bool) (fs fs' : List ℕ) (ts r : List LineToken) → (next_in fs ts ≡ true) ⊎ Starts fs' null' ts r → Starts (fs ++ fs') null' ts r
alt_starts false fs fs' ts r (inl h) = next_left fs fs' ts h
alt_starts false fs fs' ts r (inr h) = next_right fs fs' ts h
alt_starts true fs fs' ts r (inl h) = inl (next_left fs fs' ts h)
alt_starts true fs fs' ts r (inr (inl h)) = inl (next_right fs fs' ts h)
alt_starts true fs fs' ts r (inr (inr h)) = inr h

alt_begins : {D E A : Type 0} (fs ks fs' ks' : List ℕ) (null' : Bool) (n : ℕ) (P : Part D A) (Q : Part E A) (f f' g g' : Reader A) → Reads fs false ks n P f f' → Reads fs' null' ks' n Q g g'
    → (d : D ⊎ E) (ts r : List LineToken) → (alt P Q).depth d ≤ n → (alt P Q).spelt d ts ≡ Some r → Starts (fs ++ fs') null' ts r
alt_begins fs ks fs' ks' null' n P Q f f' g g' a b (inl d) ts r few h = alt_starts null' fs fs' ts r (inl (a.starts d ts r few h))
alt_begins fs ks fs' ks' null' n P Q f f' g g' a b (inr e) ts r few h = alt_starts null' fs fs' ts r (inr (b.starts e ts r few h))

alt_free : {D E A : Type 0} (fs ks fs' ks' : List ℕ) (null' : Bool) (n : ℕ) (P : Part D A) (Q : Part E A) (f f' g g' : Reader A) → Reads fs false ks n P f f' → Reads fs' null' ks' n Q g g' → (d : D ⊎ E) → (alt P Q).depth d ≤ n → Free ((alt P Q).spelt d)
alt_free fs ks fs' ks' null' n P Q f f' g g' a b (inl d) few = a.free d few
alt_free fs ks fs' ks' null' n P Q f f' g g' a b (inr e) few = b.free e few

pub choice_reads : {D E A : Type 0} (hs fs ks fs' ks' : List ℕ) (null' : Bool) (n : ℕ) (P : Part D A) (Q : Part E A) (f f' g g' : Reader A) → subset fs hs ≡ true → disjoint fs' hs ≡ true
    → Reads fs false ks n P f f' → Reads fs' null' ks' n Q g g' → Reads (fs ++ fs') null' (follow_alt null' ks ks' hs) n (alt P Q) (choice hs f g) (choice hs f' g')
choice_reads hs fs ks fs' ks' null' n P Q f f' g g' within apart a b = record {
  whole = alt_whole fs ks fs' ks' hs null' n P Q f f' g g' a b;
  comp = alt_comp fs ks fs' ks' hs null' n P Q f f' g g' within apart a b;
  begun = alt_begun fs ks fs' ks' hs null' n P Q f f' g g' a b;
  starts = alt_begins fs ks fs' ks' null' n P Q f f' g g' a b;
  free = alt_free fs ks fs' ks' null' n P Q f f' g g' a b;
  some = record { by = inl a.some.by; text = a.some.text; fresh = a.some.fresh; spells = a.some.spells };
  stable = stable_if hs f f' g g' a.stable b.stable;
  self = stable_if hs f f g g a.self b.self;
  sunk = alt_sunk fs ks fs' ks' hs null' n P Q f f' g g' a b;
}

-- what is said, seen by h
abbrev pub seen : {D A B : Type 0} → (A → B) → Part D A → Part D B
seen h P = record { spelt = P.spelt; value = λ d. h (P.value d); depth = P.depth }

pub mapped_reads : {D A B : Type 0} (fs ks : List ℕ) (null : Bool) (n : ℕ) (P : Part D A) (f g : Reader A) (h : A → B) → Reads fs null ks n P f g → Reads fs null ks n (seen h P) (mapped h f) (mapped h g)
mapped_reads fs ks null n P f g h a = record {
  whole = λ ts x r is.
      let one = bind_ok (f ts) (λ x. Ok (h x.0, x.1)) (x, r) is in
      let same = ok_parts (h one.0.0) x one.0.1 r one.2 in
      let d = a.whole ts one.0.0 one.0.1 one.1 in
      (d.0, d.1 ∙ ap Some same.0, ap h d.2 ∙ same.1, d.3);
  comp = λ d ts r few is stop. bound (f ts) (λ x. Ok (h x.0, x.1)) (P.value d, r) _ (a.comp d ts r few is stop) refl;
  begun = λ ts m is. elim (bind_err (f ts) (λ x. Ok (h x.0, x.1)) (unexpected m) is) [
    | inl w ↦ let d = a.begun ts m w in record { before = d.before; rest = d.rest; more = d.more; by = d.by; split = d.split; left = d.left; fresh = d.fresh; spells = d.spells }
    | inr w ↦ absurd cc
  ];
  starts = a.starts;
  free = a.free;
  some = a.some;
  stable = then_stable f g (λ x ts. Ok (h x, ts)) (λ x ts. Ok (h x, ts)) a.stable (λ x. ok_stable (h x));
  self = then_stable f f (λ x ts. Ok (h x, ts)) (λ x ts. Ok (h x, ts)) a.self (λ x. ok_stable (h x));
  sunk = λ ts m is. elim (bind_err (f ts) (λ x. Ok (h x.0, x.1)) (too_deep m) is) [
    | inl w ↦ same_sunk P (seen h P) f (mapped h f) ts m (λ d. d) (λ d k r g. g) (λ k y q g. let v = bind_ok (f k) (λ x. Ok (h x.0, x.1)) (y, q) g in (v.0.0, v.0.1, v.1)) (a.sunk ts m w)
    | inr w ↦ absurd cc
  ];
}

-- the derivations of P are those of Q under other names, at a depth n of the one and m of the other
pub record As {D E A : Type 0} (P : Part D A) (Q : Part E A) (n m : ℕ) : Type 0 where
  pub to : D → E
  pub spells : (d : D) (ts r : List LineToken) → P.spelt d ts ≡ Some r → Q.spelt (to d) ts ≡ Some r
  pub from : (e : E) (ts r : List LineToken) → Q.spelt e ts ≡ Some r → (d : D) × (to d ≡ e) × (P.spelt d ts ≡ Some r)
  pub value : (d : D) → Q.value (to d) ≡ P.value d
  pub deeper : (d : D) → P.depth d ≤ n → Q.depth (to d) ≤ m
  pub lower : (d : D) → Q.depth (to d) ≤ m → P.depth d ≤ n

next_less : (xs ys : List ℕ) (s : List LineToken) (b : Bool) → next_in xs s ≡ b → subset xs ys ≡ true → next_in ys s ≡ false → next_in xs s ≡ false
next_less xs ys s false is sub h = is
next_less xs ys s true is sub h = let w = next_more xs ys s sub is in absurd cc

more_starts : (null : Bool) (fs gs : List ℕ) (ts r : List LineToken) → subset fs gs ≡ true → Starts fs null ts r → Starts gs null ts r
more_starts false fs gs ts r sub h = next_more fs gs ts sub h
more_starts true fs gs ts r sub (inl h) = inl (next_more fs gs ts sub h)
more_starts true fs gs ts r sub (inr h) = inr h

pub as_reads : {D E A : Type 0} (fs ks gs js : List ℕ) (null : Bool) (n m : ℕ) (P : Part D A) (Q : Part E A) (f g : Reader A) → subset fs gs ≡ true → subset ks js ≡ true → As P Q n m → Reads fs null ks n P f g → Reads gs null js m Q f g
as_reads fs ks gs js null n m P Q f g firsts follow as_ a = record {
  whole = λ ts x r h. let d = a.whole ts x r h in (as_.to d.0, as_.spells d.0 ts r d.1, as_.value d.0 ∙ d.2, as_.deeper d.0 d.3);
  comp = λ e ts r few h stop.
      let d = as_.from e ts r h in
      a.comp d.0 ts r (as_.lower d.0 (subst (λ k. Q.depth k ≤ m) (sym d.1) few)) d.2 (next_less ks js r (next_in ks r) refl follow stop) ∙ ap (λ z. Ok (z, r)) (sym (as_.value d.0) ∙ ap Q.value d.1);
  begun = λ ts k h. let d = a.begun ts k h in record { before = d.before; rest = d.rest; more = d.more; by = as_.to d.by; split = d.split; left = d.left; fresh = d.fresh; spells = λ s fresh. as_.spells d.by (d.before ++ (d.more ++ s)) s (d.spells s fresh) };
  starts = λ e ts r few h.
      let d = as_.from e ts r h in
      more_starts null fs gs ts r firsts (a.starts d.0 ts r (as_.lower d.0 (subst (λ k. Q.depth k ≤ m) (sym d.1) few)) d.2);
  free = λ e few ts r h.
      let d = as_.from e ts r h in
      let w = a.free d.0 (as_.lower d.0 (subst (λ k. Q.depth k ≤ m) (sym d.1) few)) ts r d.2 in
      (w.0, w.1, λ s near. subst (λ k. Q.spelt k (w.0 ++ s) ≡ Some s) d.1 (as_.spells d.0 (w.0 ++ s) s (w.2 s near)));
  some = record { by = as_.to a.some.by; text = a.some.text; fresh = a.some.fresh; spells = λ s fresh. as_.spells a.some.by (a.some.text ++ s) s (a.some.spells s fresh) };
  stable = a.stable;
  self = a.self;
  sunk = λ ts k h. same_sunk P Q f f ts k as_.to as_.spells (λ u y q g. (y, q, g)) (a.sunk ts k h);
}

-- a part that says nothing, before or after another
abbrev pub after : {E B : Type 0} → Part (Unit {0}) (Unit {0}) → Part E B → Part E B
after P Q = record { spelt = λ e. P.spelt tt ▸ Q.spelt e; value = Q.value; depth = Q.depth }

abbrev pub before : {D A : Type 0} → Part D A → Part (Unit {0}) (Unit {0}) → Part D A
before P Q = record { spelt = λ d. P.spelt d ▸ Q.spelt tt; value = P.value; depth = P.depth }

pub after_reads : {E B : Type 0} (fs ks fs' ks' : List ℕ) (null null' : Bool) (n : ℕ) (P : Part (Unit {0}) (Unit {0})) (Q : Part E B) (f f' : Reader (Unit {0})) (g g' : Reader B) → P.depth tt ≡ 0 → disjoint fs' ks ≡ true
    → Reads fs null ks n P f f' → Reads fs' null' ks' n Q g g' → Reads (firsts_of null fs fs') (null && null') (follow_of null' ks ks') n (after P Q) (f ▷ g) (f' ▷ g')
after_reads fs ks fs' ks' null null' n P Q f f' g g' none apart a b =
    as_reads _ _ _ _ _ n n (seen (λ v. v.1) (seq P Q)) (after P Q) _ _ (subset_self _) (subset_self _)
    (record { to = λ d. d.1; spells = λ d ts r h. h; from = λ e ts r h. ((tt, e), refl, h); value = λ d. refl; deeper = λ d h. omega (arith, h); lower = λ d h. omega (arith, h, none) })
    (mapped_reads _ _ _ n (seq P Q) (f & g) (f' & g') (λ v. v.1) (seq_reads fs ks fs' ks' null null' n P Q f f' g g' apart a b))

pub before_reads : {D A : Type 0} (fs ks fs' ks' : List ℕ) (null null' : Bool) (n : ℕ) (P : Part D A) (Q : Part (Unit {0}) (Unit {0})) (f f' : Reader A) (g g' : Reader (Unit {0})) → Q.depth tt ≡ 0 → disjoint fs' ks ≡ true
    → Reads fs null ks n P f f' → Reads fs' null' ks' n Q g g' → Reads (firsts_of null fs fs') (null && null') (follow_of null' ks ks') n (before P Q) (f ◁ g) (f' ◁ g')
before_reads fs ks fs' ks' null null' n P Q f f' g g' none apart a b =
    as_reads _ _ _ _ _ n n (seen (λ v. v.0) (seq P Q)) (before P Q) _ _ (subset_self _) (subset_self _)
    (record { to = λ d. d.0; spells = λ d ts r h. h; from = λ e ts r h. ((e, tt), refl, h); value = λ d. refl; deeper = λ d h. omega (arith, h); lower = λ d h. omega (arith, h, none) })
    (mapped_reads _ _ _ n (seq P Q) (f & g) (f' & g') (λ v. v.0) (seq_reads fs ks fs' ks' null null' n P Q f f' g g' apart a b))
