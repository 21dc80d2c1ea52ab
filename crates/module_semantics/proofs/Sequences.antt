-- One part after another.
use Rattle.std.proofs.Common.{◌≡◌, ℕ, ◌≤◌, max, List, [], ◌++◌, length, Bool, true, false, ◌&&◌, inl, inr, Some, Ok, Err, refl, sym, ap, ◌∙◌, subst, arith, Result, ◌∷◌}
use Rattle.std.proofs.lemmas.List.{append_assoc}
use Rattle.module_semantics.specs.Steps.{◌>>=◌}
use Rattle.module_semantics.specs.Token.{LineToken}
use Rattle.module_semantics.specs.Readers.{unexpected, Reader, next_in, ◌&◌, too_deep, GrammarFault}
use Rattle.module_semantics.specs.Spelling.{Spell, ◌>>◌, ◌▸◌}
use Rattle.module_semantics.proofs.Steps.{ok_parts, bind_ok, bind_err, bound, bound_err, bind_some, bound_some, next, next_after, same_split}
use Rattle.module_semantics.proofs.KindLists.{disjoint, next_apart, next_left, next_right, next_neither}
use Rattle.module_semantics.proofs.Parts.{Near, near_after, fresh_more, Free, Stable, Part, Begun, Default, Starts, Reads, Sunk}

abbrev pub firsts_of : Bool → List ℕ → List ℕ → List ℕ
firsts_of true a b = a ++ b
firsts_of false a b = a

abbrev pub follow_of : Bool → List ℕ → List ℕ → List ℕ
follow_of true a b = a ++ b
follow_of false a b = b

abbrev pub seq : {D E A B : Type 0} → Part D A → Part E B → Part (D × E) (A × B)
seq P Q = record { spelt = λ d. P.spelt d.0 ▸ Q.spelt d.1; value = λ d. (P.value d.0, Q.value d.1); depth = λ d. max (P.depth d.0) (Q.depth d.1) }

pub then_free : (f g : Spell) → Free f → Free g → Free (f ▸ g)
then_free f g a b ts r h =
    let m = bind_some (f ts) g r h in
    let x = a ts m.0 m.1 in
    let y = b m.0 r m.2 in (
      x.0 ++ y.0,
      x.1 ∙ ap (λ k. x.0 ++ k) y.1 ∙ sym (append_assoc x.0 y.0 r),
      λ s near. subst (λ k. (f k >> g) ≡ Some s) (sym (append_assoc x.0 y.0 s))
          (bound_some (f (x.0 ++ (y.0 ++ s))) g (y.0 ++ s) (Some s) (x.2 (y.0 ++ s) (subst (λ k. Near (y.0 ++ s) k) (sym y.1) (near_after y.0 r s near))) (y.2 s near)),
    )

pub then_stable : {A B : Type 0} (f g : Reader A) (p q : A → Reader B) → Stable f g → ((x : A) → Stable (p x) (q x)) → Stable (λ ts. f ts >>= λ x. p x.0 x.1) (λ ts. g ts >>= λ x. q x.0 x.1)
then_stable f g p q fg pq = record {
  reads = λ ts y r h.
      let one = bind_ok (f ts) (λ x. p x.0 x.1) (y, r) h in
      let a = fg.reads ts one.0.0 one.0.1 one.1 in
      let b = (pq one.0.0).reads one.0.1 y r one.2 in (
        a.0 ++ b.0,
        a.1 ∙ ap (λ k. a.0 ++ k) b.1 ∙ sym (append_assoc a.0 b.0 r),
        λ s same. subst (λ k. (g k >>= λ x. q x.0 x.1) ≡ Ok (y, s)) (sym (append_assoc a.0 b.0 s))
            (bound (g (a.0 ++ (b.0 ++ s))) (λ x. q x.0 x.1) (one.0.0, b.0 ++ s) (Ok (y, s)) (a.2 (b.0 ++ s) (next_after b.0 r s same ∙ sym (ap next b.1))) (b.2 s same)),
      );
  faults = λ ts n h. elim (bind_err (f ts) (λ x. p x.0 x.1) (unexpected n) h) [
    | inl w ↦
        let a = fg.faults ts n w in
        (a.0, a.1, a.2, a.3, λ s same. bound_err (g (a.0 ++ s)) (λ x. q x.0 x.1) (unexpected (length s)) (a.4 s same))
    | inr one ↦
        let a = fg.reads ts one.0.0 one.0.1 one.1 in
        let b = (pq one.0.0).faults one.0.1 n one.2 in (
          a.0 ++ b.0,
          b.1,
          a.1 ∙ ap (λ k. a.0 ++ k) b.2 ∙ sym (append_assoc a.0 b.0 b.1),
          b.3,
          λ s same. subst (λ k. (g k >>= λ x. q x.0 x.1) ≡ Err (unexpected (length s))) (sym (append_assoc a.0 b.0 s))
              (bound (g (a.0 ++ (b.0 ++ s))) (λ x. q x.0 x.1) (one.0.0, b.0 ++ s) (Err (unexpected (length s))) (a.2 (b.0 ++ s) (next_after b.0 b.1 s same ∙ sym (ap next b.2))) (b.4 s same)),
        )
  ];
}

pub ok_stable : {A : Type 0} (x : A) → Stable (λ ts. Ok (x, ts)) (λ ts. Ok (x, ts))
ok_stable x = record {
  reads = λ ts y r h. let e = ok_parts x y ts r h in ([], e.0, λ s same. ap (λ z. Ok (z, s)) e.1);
  faults = λ ts n h. absurd cc;
}

default_both : {D E : Type 0} (f : D → Spell) (g : E → Spell) → Default f → Default g → Default (λ (d : D × E). f d.0 ▸ g d.1)
default_both f g a b = record {
  by = (a.by, b.by);
  text = a.text ++ b.text;
  fresh = fresh_more a.text b.text a.fresh b.fresh;
  spells = λ s fresh. subst (λ k. (f a.by k >> g b.by) ≡ Some s) (sym (append_assoc a.text b.text s))
      (bound_some (f a.by (a.text ++ (b.text ++ s))) (g b.by) (b.text ++ s) (Some s) (a.spells (b.text ++ s) (fresh_more b.text s b.fresh fresh)) (b.spells s fresh));
}

-- what follows the first part is none of the tokens at which it goes on
link : (null : Bool) (fs ks js : List ℕ) (m r : List LineToken) → disjoint fs ks ≡ true → Starts fs null m r → next_in (follow_of null ks js) r ≡ false → (next_in ks m ≡ false) × (next_in js r ≡ false)
link false fs ks js m r apart starts stop = (next_apart fs ks m apart starts, stop)
link true fs ks js m r apart (inl starts) stop = (next_apart fs ks m apart starts, (next_neither ks js r stop).1)
link true fs ks js m r apart (inr same) stop = let w = next_neither ks js r stop in (ap (next_in ks) same ∙ w.0, w.1)

seq_starts : (null null' : Bool) (fs fs' : List ℕ) (ts m r : List LineToken) → Starts fs null ts m → Starts fs' null' m r → Starts (firsts_of null fs fs') (null && null') ts r
seq_starts false null' fs fs' ts m r a b = a
seq_starts true false fs fs' ts m r (inl a) b = next_left fs fs' ts a
seq_starts true false fs fs' ts m r (inr a) b = next_right fs fs' ts (ap (next_in fs') a ∙ b)
seq_starts true true fs fs' ts m r (inl a) b = inl (next_left fs fs' ts a)
seq_starts true true fs fs' ts m r (inr a) (inl b) = inl (next_right fs fs' ts (ap (next_in fs') a ∙ b))
seq_starts true true fs fs' ts m r (inr a) (inr b) = inr (a ∙ b)

-- what follows a text of some spelling, before what follows it
pub later_begun : {E B : Type 0} (p : Spell) (Q : Part E B) (ts m : List LineToken) (n : ℕ) → (b : List LineToken) → ts ≡ b ++ m → ((s : List LineToken) → Near s m → p (b ++ s) ≡ Some s) → Begun Q m n
    → Begun (record { spelt = λ e. p ▸ Q.spelt e; value = Q.value; depth = Q.depth }) ts n
later_begun p Q ts m n b split spells e = record {
  before = b ++ e.before;
  rest = e.rest;
  more = e.more;
  by = e.by;
  split = split ∙ ap (λ k. b ++ k) e.split ∙ sym (append_assoc b e.before e.rest);
  left = e.left;
  fresh = e.fresh;
  spells = λ s fresh. subst (λ k. (p k >> Q.spelt e.by) ≡ Some s) (sym (append_assoc b e.before (e.more ++ s)))
      (bound_some (p (b ++ (e.before ++ (e.more ++ s)))) (Q.spelt e.by) (e.before ++ (e.more ++ s)) (Some s)
      (spells (e.before ++ (e.more ++ s)) (subst (λ k. Near (e.before ++ (e.more ++ s)) k) (sym e.split) (near_after e.before e.rest (e.more ++ s) (inr (fresh_more e.more s e.fresh fresh)))))
      (e.spells s fresh));
}

-- what is begun, and then a default
pub first_begun : {D E A : Type 0} (P : Part D A) (q : E → Spell) (ts : List LineToken) (n : ℕ) → Begun P ts n → Default q → Begun {D = D × E} (record { spelt = λ d. P.spelt d.0 ▸ q d.1; value = λ d. P.value d.0; depth = λ d. P.depth d.0 }) ts n
first_begun P q ts n d c = record {
  before = d.before;
  rest = d.rest;
  more = d.more ++ c.text;
  by = (d.by, c.by);
  split = d.split;
  left = d.left;
  fresh = fresh_more d.more c.text d.fresh c.fresh;
  spells = λ s fresh. subst (λ k. (P.spelt d.by (d.before ++ k) >> q c.by) ≡ Some s) (sym (append_assoc d.more c.text s))
      (bound_some (P.spelt d.by (d.before ++ (d.more ++ (c.text ++ s)))) (q c.by) (c.text ++ s) (Some s) (d.spells (c.text ++ s) (fresh_more c.text s c.fresh fresh)) (c.spells s fresh));
}

-- the same text begun by another derivation
pub same_begun : {D E A B : Type 0} (P : Part D A) (Q : Part E B) (ts : List LineToken) (n : ℕ) (to : D → E) → ((d : D) (k r : List LineToken) → P.spelt d k ≡ Some r → Q.spelt (to d) k ≡ Some r) → Begun P ts n → Begun Q ts n
same_begun P Q ts n to spells d = record {
  before = d.before;
  rest = d.rest;
  more = d.more;
  by = to d.by;
  split = d.split;
  left = d.left;
  fresh = d.fresh;
  spells = λ s fresh. spells d.by (d.before ++ (d.more ++ s)) s (d.spells s fresh);
}

-- a part that sinks, and then a default
sunk_first : {D E A B : Type 0} (P : Part D A) (q : E → Spell) (g : Reader B) (f : Reader A) (v : D × E → A × B) (n : D × E → ℕ) (ts : List LineToken) (m : ℕ) → Sunk P f ts m → Default q
    → Sunk (record { spelt = λ d. P.spelt d.0 ▸ q d.1; value = v; depth = n }) (f & g) ts m
sunk_first P q g f v n ts m d c = record {
  before = d.before;
  at = d.at;
  rest = d.rest;
  more = d.more ++ c.text;
  by = (d.by, c.by);
  split = d.split;
  left = d.left;
  fresh = fresh_more d.more c.text d.fresh c.fresh;
  spells = λ s fresh. subst (λ k. (P.spelt d.by (d.before ++ (d.at ∷ k)) >> q c.by) ≡ Some s) (sym (append_assoc d.more c.text s))
      (bound_some (P.spelt d.by (d.before ++ (d.at ∷ (d.more ++ (c.text ++ s))))) (q c.by) (c.text ++ s) (Some s) (d.spells (c.text ++ s) (fresh_more c.text s c.fresh fresh)) (c.spells s fresh));
  never = λ s x r h. let w = bind_ok (f (d.before ++ (d.at ∷ s))) (λ x. g x.1 >>= λ y. Ok ((x.0, y.0), y.1)) (x, r) h in d.never s w.0.0 w.0.1 w.1;
}

-- what stands alike at a place, whatever follows it
pub alike : (b : List LineToken) (t : LineToken) (r s : List LineToken) → next (b ++ (t ∷ s)) ≡ next (b ++ (t ∷ r))
alike [] t r s = refl
alike (u ∷ b) t r s = refl

-- what follows a text of some spelling, which sinks
pub sunk_later : {E A B : Type 0} (p : Spell) (Q : Part E B) (f : Reader A) (g : Reader B) (x : A) (ts m : List LineToken) (n : ℕ) → (b : List LineToken) → ts ≡ b ++ m → ((s : List LineToken) → Near s m → p (b ++ s) ≡ Some s) → ((s : List LineToken) → next s ≡ next m → f (b ++ s) ≡ Ok (x, s)) → Sunk Q g m n
    → Sunk (record { spelt = λ e. p ▸ Q.spelt e; value = λ e. (x, Q.value e); depth = Q.depth }) (f & g) ts n
sunk_later {E} {A} {B} p Q f g x ts m n b split spells reads e = record {
  before = b ++ e.before;
  at = e.at;
  rest = e.rest;
  more = e.more;
  by = e.by;
  split = split ∙ ap (λ k. b ++ k) e.split ∙ sym (append_assoc b e.before (e.at ∷ e.rest));
  left = e.left;
  fresh = e.fresh;
  spells = λ s fresh. subst (λ k. (p k >> Q.spelt e.by) ≡ Some s) (sym (append_assoc b e.before (e.at ∷ (e.more ++ s))))
      (bound_some (p (b ++ (e.before ++ (e.at ∷ (e.more ++ s))))) (Q.spelt e.by) (e.before ++ (e.at ∷ (e.more ++ s))) (Some s)
      (spells (e.before ++ (e.at ∷ (e.more ++ s))) (inl (alike e.before e.at e.rest (e.more ++ s) ∙ sym (ap next e.split))))
      (e.spells s fresh));
  never = λ s y q is.
      let tail : List LineToken = e.before ++ (e.at ∷ s) in
      let go : (f & g) (b ++ tail) ≡ Ok (y, q) = subst (λ k. (f & g) k ≡ Ok (y, q)) (append_assoc b e.before (e.at ∷ s)) is in
      let w = bind_ok (f (b ++ tail)) (λ x. g x.1 >>= λ y. Ok ((x.0, y.0), y.1)) (y, q) go in
      let read : f (b ++ tail) ≡ Ok (x, tail) = reads tail (alike e.before e.at e.rest s ∙ sym (ap next e.split)) in
      let same : ◌≡◌ {A = Result (A × List LineToken) GrammarFault} (Ok w.0) (Ok (x, tail)) = sym w.1 ∙ read in
      let parts = ok_parts w.0.0 x w.0.1 tail same in
      let v = bind_ok (g w.0.1) (λ y. Ok ((w.0.0, y.0), y.1)) (y, q) w.2 in
      e.never s v.0.0 v.0.1 (subst (λ k. g k ≡ Ok v.0) parts.0 v.1);
}

-- the same text sunk by another derivation and another reader
pub same_sunk : {D E A B : Type 0} (P : Part D A) (Q : Part E B) (f : Reader A) (g : Reader B) (ts : List LineToken) (n : ℕ) (to : D → E) → ((d : D) (k r : List LineToken) → P.spelt d k ≡ Some r → Q.spelt (to d) k ≡ Some r) → ((k : List LineToken) (y : B) (q : List LineToken) → g k ≡ Ok (y, q) → (x : A) × (r : List LineToken) × (f k ≡ Ok (x, r))) → Sunk P f ts n → Sunk Q g ts n
same_sunk P Q f g ts n to spells back d = record {
  before = d.before;
  at = d.at;
  rest = d.rest;
  more = d.more;
  by = to d.by;
  split = d.split;
  left = d.left;
  fresh = d.fresh;
  spells = λ s fresh. spells d.by (d.before ++ (d.at ∷ (d.more ++ s))) s (d.spells s fresh);
  never = λ s y q h. let w = back (d.before ++ (d.at ∷ s)) y q h in d.never s w.0 w.1 w.2;
}

-- the place of what was read, by its spelling and by its reader
pub one_cut : {D A : Type 0} (fs ks : List ℕ) (null : Bool) (n : ℕ) (P : Part D A) (f g : Reader A) → Reads fs null ks n P f g → (ts : List LineToken) (x : A) (r : List LineToken) → f ts ≡ Ok (x, r)
    → (d : D) × (b : List LineToken) × (ts ≡ b ++ r) × ((s : List LineToken) → Near s r → P.spelt d (b ++ s) ≡ Some s) × ((s : List LineToken) → next s ≡ next r → f (b ++ s) ≡ Ok (x, s))
one_cut fs ks null n P f g a ts x r h =
    let d = a.whole ts x r h in
    let v = a.free d.0 d.3 ts r d.1 in
    let k = a.self.reads ts x r h in
    let same = same_split k.0 r v.0 r (sym k.1 ∙ v.1) refl in
    (d.0, v.0, v.1, v.2, λ s near. subst (λ b. f (b ++ s) ≡ Ok (x, s)) same.0 (k.2 s near))

seq_sunk : {D E A B : Type 0} (fs ks fs' ks' : List ℕ) (null null' : Bool) (n : ℕ) (P : Part D A) (Q : Part E B) (f f' : Reader A) (g g' : Reader B)
    → Reads fs null ks n P f f' → Reads fs' null' ks' n Q g g' → (ts : List LineToken) (m : ℕ) → (f & g) ts ≡ Err (too_deep m) → Sunk (seq P Q) (f & g) ts m
seq_sunk fs ks fs' ks' null null' n P Q f f' g g' a b ts m h = elim (bind_err (f ts) (λ x. g x.1 >>= λ y. Ok ((x.0, y.0), y.1)) (too_deep m) h) [
  | inl w ↦ sunk_first P Q.spelt g f (seq P Q).value (seq P Q).depth ts m (a.sunk ts m w) b.some
  | inr one ↦ elim (bind_err (g one.0.1) (λ y. Ok ((one.0.0, y.0), y.1)) (too_deep m) one.2) [
    | inl w ↦
        let c = one_cut fs ks null n P f f' a ts one.0.0 one.0.1 one.1 in
        same_sunk _ (seq P Q) (f & g) (f & g) ts m (λ e. (c.0, e)) (λ e k r h. h) (λ k y q h. (y, q, h)) (sunk_later (P.spelt c.0) Q f g one.0.0 ts one.0.1 m c.1 c.2 c.3 c.4 (b.sunk one.0.1 m w))
    | inr w ↦ absurd cc
  ]
]

seq_begun : {D E A B : Type 0} (fs ks fs' ks' : List ℕ) (null null' : Bool) (n : ℕ) (P : Part D A) (Q : Part E B) (f f' : Reader A) (g g' : Reader B)
    → Reads fs null ks n P f f' → Reads fs' null' ks' n Q g g' → (ts : List LineToken) (m : ℕ) → (f & g) ts ≡ Err (unexpected m) → Begun (seq P Q) ts m
seq_begun fs ks fs' ks' null null' n P Q f f' g g' a b ts m h = elim (bind_err (f ts) (λ x. g x.1 >>= λ y. Ok ((x.0, y.0), y.1)) (unexpected m) h) [
  | inl w ↦ same_begun _ (seq P Q) ts m (λ d. d) (λ d k r h. h) (first_begun P Q.spelt ts m (a.begun ts m w) b.some)
  | inr one ↦ elim (bind_err (g one.0.1) (λ y. Ok ((one.0.0, y.0), y.1)) (unexpected m) one.2) [
    | inl w ↦
        let d = a.whole ts one.0.0 one.0.1 one.1 in
        let v = a.free d.0 d.3 ts one.0.1 d.1 in
        same_begun _ (seq P Q) ts m (λ e. (d.0, e)) (λ e k r h. h) (later_begun (P.spelt d.0) Q ts one.0.1 m v.0 v.1 v.2 (b.begun one.0.1 m w))
    | inr w ↦ absurd cc
  ]
]

pair_same : {A B : Type 0} (x y : A) (z w : B) → x ≡ y → z ≡ w → ◌≡◌ {A = A × B} (x, z) (y, w)
pair_same x y z w h k = rw (h, k) refl

pub seq_reads : {D E A B : Type 0} (fs ks fs' ks' : List ℕ) (null null' : Bool) (n : ℕ) (P : Part D A) (Q : Part E B) (f f' : Reader A) (g g' : Reader B) → disjoint fs' ks ≡ true
    → Reads fs null ks n P f f' → Reads fs' null' ks' n Q g g' → Reads (firsts_of null fs fs') (null && null') (follow_of null' ks ks') n (seq P Q) (f & g) (f' & g')
seq_reads fs ks fs' ks' null null' n P Q f f' g g' apart a b = record {
  whole = λ ts x r h.
      let one = bind_ok (f ts) (λ x. g x.1 >>= λ y. Ok ((x.0, y.0), y.1)) (x, r) h in
      let two = bind_ok (g one.0.1) (λ y. Ok ((one.0.0, y.0), y.1)) (x, r) one.2 in
      let d = a.whole ts one.0.0 one.0.1 one.1 in
      let e = b.whole one.0.1 two.0.0 two.0.1 two.1 in
      let same = ok_parts (one.0.0, two.0.0) x two.0.1 r two.2 in
      ((d.0, e.0), bound_some (P.spelt d.0 ts) (Q.spelt e.0) one.0.1 (Some r) d.1 (e.1 ∙ ap Some same.0), pair_same _ _ _ _ d.2 e.2 ∙ same.1, omega (arith, d.3, e.3));
  comp = λ d ts r few h stop.
      let m = bind_some (P.spelt d.0 ts) (Q.spelt d.1) r h in
      let few1 : P.depth d.0 ≤ n = omega (arith, few) in
      let few2 : Q.depth d.1 ≤ n = omega (arith, few) in
      let w = link null' fs' ks ks' m.0 r apart (b.starts d.1 m.0 r few2 m.2) stop in
      bound (f ts) (λ x. g x.1 >>= λ y. Ok ((x.0, y.0), y.1)) (P.value d.0, m.0) _ (a.comp d.0 ts m.0 few1 m.1 w.0) (bound (g m.0) (λ y. Ok ((P.value d.0, y.0), y.1)) (Q.value d.1, r) _ (b.comp d.1 m.0 r few2 m.2 w.1) refl);
  begun = seq_begun fs ks fs' ks' null null' n P Q f f' g g' a b;
  starts = λ d ts r few h.
      let m = bind_some (P.spelt d.0 ts) (Q.spelt d.1) r h in
      seq_starts null null' fs fs' ts m.0 r (a.starts d.0 ts m.0 (omega (arith, few)) m.1) (b.starts d.1 m.0 r (omega (arith, few)) m.2);
  free = λ d few. then_free (P.spelt d.0) (Q.spelt d.1) (a.free d.0 (omega (arith, few))) (b.free d.1 (omega (arith, few)));
  some = default_both P.spelt Q.spelt a.some b.some;
  self = then_stable f f (λ x ts. g ts >>= λ y. Ok ((x, y.0), y.1)) (λ x ts. g ts >>= λ y. Ok ((x, y.0), y.1)) a.self (λ x. then_stable g g (λ y ts. Ok ((x, y), ts)) (λ y ts. Ok ((x, y), ts)) b.self (λ y. ok_stable (x, y)));
  sunk = seq_sunk fs ks fs' ks' null null' n P Q f f' g g' a b;
  stable = then_stable f f' (λ x ts. g ts >>= λ y. Ok ((x, y.0), y.1)) (λ x ts. g' ts >>= λ y. Ok ((x, y.0), y.1)) a.stable (λ x. then_stable g g' (λ y ts. Ok ((x, y), ts)) (λ y ts. Ok ((x, y), ts)) b.stable (λ y. ok_stable (x, y)));
}
