-- A part as many times as it stands there.
use Rattle.module_semantics.proofs.Choices.{test_stays, first_way}
use Rattle.std.proofs.Common.{◌≡◌, ℕ, zero, suc, ◌≤◌, List, [], ◌∷◌, ◌++◌, length, map, true, false, ◌⊎◌, inl, inr, Some, Result, Ok, Err, refl, sym, ap, ◌∙◌, subst, arith}
use Rattle.std.proofs.lemmas.List.{append_assoc}
use Rattle.module_semantics.specs.Steps.{◌>>=◌}
use Rattle.module_semantics.specs.Token.{LineToken}
use Rattle.module_semantics.specs.Readers.{GrammarFault, unexpected, Reader, next_in, many_from, many, too_deep}
use Rattle.module_semantics.specs.Spelling as spell
use Rattle.module_semantics.specs.Spelling.{Spell, ◌>>◌, ◌▸◌}
use Rattle.module_semantics.specs.Grammar.{deepest}
use Rattle.module_semantics.proofs.Steps.{ok_parts, bind_ok, bind_err, bound, bound_err, went, if_true, if_false, bind_some, bound_some, next, next_after, no_tokens, grown}
use Rattle.module_semantics.proofs.KindLists.{disjoint, next_apart, next_neither, next_in_looks, none_next}
use Rattle.module_semantics.proofs.Parts.{Free, Stable, Part, Begun, Default, Reads, shorter, Sunk, Fresh, Near}
use Rattle.module_semantics.proofs.Sequences.{then_free, later_begun, first_begun, same_begun, alike, one_cut}

abbrev pub list_part : {D A : Type 0} → Part D A → Part (List D) (List A)
list_part P = record { spelt = spell.many P.spelt; value = map P.value; depth = deepest P.depth }

-- one turn, and then more
pub many_goes : {A : Type 0} (fs : List ℕ) (f : Reader A) (m : ℕ) (ts r : List LineToken) (x : A) (z : Result (List A × List LineToken) GrammarFault) → next_in fs ts ≡ true → f ts ≡ Ok (x, r) → suc (length r) ≤ length ts → length ts ≤ m
    → ((k : ℕ) → m ≡ suc k → length r ≤ k → (many_from fs f k r >>= λ y. Ok (x ∷ y.0, y.1)) ≡ z) → many_from fs f m ts ≡ z
unfolding many_from
many_goes fs f zero ts r x z go read less fits more = absurd (omega (arith, less, fits))
many_goes fs f (suc m) ts r x z go read less fits more = if_true (next_in fs ts) _ _ _ go (bound (f ts) (λ x. many_from fs f m x.1 >>= λ y. Ok (x.0 ∷ y.0, y.1)) (x, r) z read (more m refl (omega (arith, less, fits))))

pub many_stops : {A : Type 0} (fs : List ℕ) (f : Reader A) (m : ℕ) (ts : List LineToken) → next_in fs ts ≡ false → many_from fs f m ts ≡ Ok ([], ts)
unfolding many_from
many_stops fs f zero ts h = refl
many_stops fs f (suc m) ts h = if_false (next_in fs ts) _ _ _ h refl

many_fails : {A : Type 0} (fs : List ℕ) (f : Reader A) (m : ℕ) (ts : List LineToken) (e : GrammarFault) → next_in fs ts ≡ true → f ts ≡ Err e → 1 ≤ length ts → length ts ≤ m → many_from fs f m ts ≡ Err e
unfolding many_from
many_fails fs f zero ts e go h some fits = absurd (omega (arith, some, fits))
many_fails fs f (suc m) ts e go h some fits = if_true (next_in fs ts) _ _ _ go (bound_err (f ts) (λ x. many_from fs f m x.1 >>= λ y. Ok (x.0 ∷ y.0, y.1)) e h)

pub some_tokens : (fs : List ℕ) (ts : List LineToken) → next_in fs ts ≡ true → 1 ≤ length ts
some_tokens fs [] h = let w = none_next fs in absurd cc
some_tokens fs (t ∷ ts) h = omega arith

pub no_length : (ts : List LineToken) → length ts ≤ 0 → ts ≡ []
no_length [] h = refl
no_length (t ∷ ts) h = absurd (omega (arith, h))

pub cons_same : {A : Type 0} (x y : A) (xs ys : List A) → x ≡ y → xs ≡ ys → x ∷ xs ≡ y ∷ ys
cons_same x y xs ys h k = rw (h, k) refl

abbrev ManyWhole : {D A : Type 0} → ℕ → Part D A → List LineToken → List A → List LineToken → Type 0
ManyWhole {D} n P ts xs r = (ds : List D) × (spell.many P.spelt ds ts ≡ Some r) × (map P.value ds ≡ xs) × (deepest P.depth ds ≤ n)

many_none : {D A : Type 0} (n : ℕ) (P : Part D A) (ts : List LineToken) (xs : List A) (r : List LineToken) → ◌≡◌ {A = Result (List A × List LineToken) GrammarFault} (Ok ([], ts)) (Ok (xs, r)) → ManyWhole n P ts xs r
unfolding spell.many
many_none n P ts xs r h = let e = ok_parts [] xs ts r h in ([], ap Some e.0, e.1, omega arith)

many_whole : {D A : Type 0} (fs ks : List ℕ) (n : ℕ) (P : Part D A) (f g : Reader A) → Reads fs false ks n P f g → (m : ℕ) (ts : List LineToken) (xs : List A) (r : List LineToken) → many_from fs f m ts ≡ Ok (xs, r) → ManyWhole n P ts xs r
unfolding many_from spell.many
many_whole fs ks n P f g a zero ts xs r h = many_none n P ts xs r h
many_whole fs ks n P f g a (suc m) ts xs r h = elim (went (next_in fs ts) _ _ (Ok (xs, r)) h) [
  | inl w ↦
      let one = bind_ok (f ts) (λ x. many_from fs f m x.1 >>= λ y. Ok (x.0 ∷ y.0, y.1)) (xs, r) w.1 in
      let two = bind_ok (many_from fs f m one.0.1) (λ y. Ok (one.0.0 ∷ y.0, y.1)) (xs, r) one.2 in
      let d = a.whole ts one.0.0 one.0.1 one.1 in
      let ds = many_whole fs ks n P f g a m one.0.1 two.0.0 two.0.1 two.1 in
      let same = ok_parts (one.0.0 ∷ two.0.0) xs two.0.1 r two.2 in
      (d.0 ∷ ds.0, bound_some (P.spelt d.0 ts) (spell.many P.spelt ds.0) one.0.1 (Some r) d.1 (ds.1 ∙ ap Some same.0), cons_same _ _ _ _ d.2 ds.2 ∙ same.1, omega (arith, d.3, ds.3))
  | inr w ↦ many_none n P ts xs r w.1
]

many_starts : {D A : Type 0} (fs ks : List ℕ) (n : ℕ) (P : Part D A) (f g : Reader A) → Reads fs false ks n P f g → (ds : List D) (ts r : List LineToken) → deepest P.depth ds ≤ n → spell.many P.spelt ds ts ≡ Some r → (next_in fs ts ≡ true) ⊎ (ts ≡ r)
unfolding spell.many
many_starts fs ks n P f g a [] ts r few h = inr cc
many_starts fs ks n P f g a (d ∷ ds) ts r few h = let m = bind_some (P.spelt d ts) (spell.many P.spelt ds) r h in inl (a.starts d ts m.0 (omega (arith, few)) m.1)

turn_stops : (fs ks : List ℕ) (m r : List LineToken) → disjoint fs ks ≡ true → (next_in fs m ≡ true) ⊎ (m ≡ r) → next_in (fs ++ ks) r ≡ false → next_in ks m ≡ false
turn_stops fs ks m r apart (inl h) stop = next_apart fs ks m apart h
turn_stops fs ks m r apart (inr h) stop = ap (next_in ks) h ∙ (next_neither fs ks r stop).1

many_comp : {D A : Type 0} (fs ks : List ℕ) (n : ℕ) (P : Part D A) (f g : Reader A) → disjoint fs ks ≡ true → Reads fs false ks n P f g → (ds : List D) (m : ℕ) (ts r : List LineToken) → length ts ≤ m → deepest P.depth ds ≤ n → spell.many P.spelt ds ts ≡ Some r → next_in (fs ++ ks) r ≡ false
    → many_from fs f m ts ≡ Ok (map P.value ds, r)
unfolding spell.many
many_comp fs ks n P f g apart a [] m ts r fits few h stop =
    let e : ts ≡ r = cc in
    many_stops fs f m ts (ap (next_in fs) e ∙ (next_neither fs ks r stop).0) ∙ ap (λ k. Ok ([], k)) e
many_comp fs ks n P f g apart a (d ∷ ds) m ts r fits few h stop =
    let w = bind_some (P.spelt d ts) (spell.many P.spelt ds) r h in
    let few1 : P.depth d ≤ n = omega (arith, few) in
    let few2 : deepest P.depth ds ≤ n = omega (arith, few) in
    let stop1 = turn_stops fs ks w.0 r apart (many_starts fs ks n P f g a ds w.0 r few2 w.2) stop in
    many_goes fs f m ts w.0 (P.value d) (Ok (P.value d ∷ map P.value ds, r)) (a.starts d ts w.0 few1 w.1) (a.comp d ts w.0 few1 w.1 stop1) (shorter fs ks n P f g a d ts w.0 few1 w.1) fits
    (λ k is fits'. bound (many_from fs f k w.0) (λ y. Ok (P.value d ∷ y.0, y.1)) (map P.value ds, r) _ (many_comp fs ks n P f g apart a ds k w.0 r fits' few2 w.2 stop) refl)

many_default : {D : Type 0} (f : D → Spell) → Default (spell.many f)
unfolding spell.many
many_default f = record { by = []; text = []; fresh = tt; spells = λ s fresh. refl }

pair_spells : {D : Type 0} (f : D → Spell) (d : D) (ds : List D) (ts r : List LineToken) → (f d ts >> spell.many f ds) ≡ Some r → spell.many f (d ∷ ds) ts ≡ Some r
unfolding spell.many
pair_spells f d ds ts r h = h

many_begun : {D A : Type 0} (fs ks : List ℕ) (n : ℕ) (P : Part D A) (f g : Reader A) → Reads fs false ks n P f g → (m : ℕ) (ts : List LineToken) (j : ℕ) → many_from fs f m ts ≡ Err (unexpected j) → Begun (list_part P) ts j
unfolding many_from
many_begun fs ks n P f g a zero ts j h = absurd cc
many_begun fs ks n P f g a (suc m) ts j h = elim (went (next_in fs ts) _ _ (Err (unexpected j)) h) [
  | inl w ↦ elim (bind_err (f ts) (λ x. many_from fs f m x.1 >>= λ y. Ok (x.0 ∷ y.0, y.1)) (unexpected j) w.1) [
    | inl v ↦ same_begun _ (list_part P) ts j (λ d. d.0 ∷ d.1) (λ d k r h. pair_spells P.spelt d.0 d.1 k r h) (first_begun P (spell.many P.spelt) ts j (a.begun ts j v) (many_default P.spelt))
    | inr one ↦ elim (bind_err (many_from fs f m one.0.1) (λ y. Ok (one.0.0 ∷ y.0, y.1)) (unexpected j) one.2) [
      | inl v ↦
          let d = a.whole ts one.0.0 one.0.1 one.1 in
          let u = a.free d.0 d.3 ts one.0.1 d.1 in
          same_begun _ (list_part P) ts j (λ ds. d.0 ∷ ds) (λ ds k r h. pair_spells P.spelt d.0 ds k r h) (later_begun (P.spelt d.0) (list_part P) ts one.0.1 j u.0 u.1 u.2 (many_begun fs ks n P f g a m one.0.1 j v))
      | inr v ↦ absurd cc
    ]
  ]
  | inr w ↦ absurd cc
]

-- a turn takes a token
pub turn_takes : {D A : Type 0} (fs ks : List ℕ) (n : ℕ) (P : Part D A) (f g : Reader A) → Reads fs false ks n P f g → (ts : List LineToken) (x : A) (r : List LineToken) → f ts ≡ Ok (x, r) → suc (length r) ≤ length ts
turn_takes fs ks n P f g a ts x r h = let d = a.whole ts x r h in shorter fs ks n P f g a d.0 ts r d.3 d.1

-- the same of a loop, whatever turns are allowed
record ManySunk {D A : Type 0} (fs : List ℕ) (P : Part D A) (f : Reader A) (ts : List LineToken) (n : ℕ) : Type 0 where
  before : List LineToken
  at : LineToken
  rest : List LineToken
  more : List LineToken
  by : List D
  split : ts ≡ before ++ (at ∷ rest)
  left : suc (length rest) ≡ n
  fresh : Fresh more
  spells : (s : List LineToken) → Fresh s → spell.many P.spelt by (before ++ (at ∷ (more ++ s))) ≡ Some s
  never : (s : List LineToken) (k : ℕ) → length (before ++ (at ∷ s)) ≤ k → (xs : List A) (q : List LineToken) → many_from fs f k (before ++ (at ∷ s)) ≡ Ok (xs, q) → ⊥

-- a turn of a loop that ends well
abbrev TurnOk : {A : Type 0} → List ℕ → Reader A → ℕ → List LineToken → List LineToken → Type 0
TurnOk {A} fs f k ts q = (x : A) × (r : List LineToken) × (j : ℕ) × (ys : List A) × (f ts ≡ Ok (x, r)) × (k ≡ suc j) × (many_from fs f j r ≡ Ok (ys, q))

turn_ok : {A : Type 0} (fs : List ℕ) (f : Reader A) (k : ℕ) (ts : List LineToken) (xs : List A) (q : List LineToken) → next_in fs ts ≡ true → 1 ≤ length ts → length ts ≤ k → many_from fs f k ts ≡ Ok (xs, q) → TurnOk fs f k ts q
unfolding many_from
turn_ok fs f zero ts xs q go some fits h = absurd (omega (arith, some, fits))
turn_ok fs f (suc k) ts xs q go some fits h =
    let w = first_way (next_in fs ts) (f ts >>= λ x. many_from fs f k x.1 >>= λ y. Ok (x.0 ∷ y.0, y.1)) (Ok ([], ts)) (Ok (xs, q)) go h in
    let one = bind_ok (f ts) (λ x. many_from fs f k x.1 >>= λ y. Ok (x.0 ∷ y.0, y.1)) (xs, q) w in
    let two = bind_ok (many_from fs f k one.0.1) (λ y. Ok (one.0.0 ∷ y.0, y.1)) (xs, q) one.2 in
    let same = ok_parts (one.0.0 ∷ two.0.0) xs two.0.1 q two.2 in
    (one.0.0, one.0.1, k, two.0.0, one.1, refl, two.1 ∙ ap (λ u. Ok (two.0.0, u)) same.0)

none_spells : {D : Type 0} (f : D → Spell) (s : List LineToken) → spell.many f [] s ≡ Some s
unfolding spell.many
none_spells f s = refl

later_sunk : {D A : Type 0} (fs ks : List ℕ) (n : ℕ) (P : Part D A) (f g : Reader A) → Reads fs false ks n P f g → (ts m : List LineToken) (x : A) (j : ℕ) (d : D) (b : List LineToken) → ts ≡ b ++ m → ((s : List LineToken) → Near s m → P.spelt d (b ++ s) ≡ Some s) → ((s : List LineToken) → next s ≡ next m → f (b ++ s) ≡ Ok (x, s)) → next_in fs ts ≡ true → ManySunk fs P f m j → ManySunk fs P f ts j
later_sunk {D} {A} fs ks n P f g a ts m x j d b split spells reads go e = record {
  before = b ++ e.before;
  at = e.at;
  rest = e.rest;
  more = e.more;
  by = d ∷ e.by;
  split = split ∙ ap (λ k. b ++ k) e.split ∙ sym (append_assoc b e.before (e.at ∷ e.rest));
  left = e.left;
  fresh = e.fresh;
  spells = λ s fresh.
      let tail : List LineToken = e.before ++ (e.at ∷ (e.more ++ s)) in
      subst (λ k. spell.many P.spelt (d ∷ e.by) k ≡ Some s) (sym (append_assoc b e.before (e.at ∷ (e.more ++ s))))
      (pair_spells P.spelt d e.by (b ++ tail) s (bound_some (P.spelt d (b ++ tail)) (spell.many P.spelt e.by) tail (Some s) (spells tail (inl (alike e.before e.at e.rest (e.more ++ s) ∙ sym (ap next e.split)))) (e.spells s fresh)));
  never = λ s k fits xs q is.
      let tail : List LineToken = e.before ++ (e.at ∷ s) in
      let whole : (b ++ e.before) ++ (e.at ∷ s) ≡ b ++ tail = append_assoc b e.before (e.at ∷ s) in
      let near : next tail ≡ next m = alike e.before e.at e.rest s ∙ sym (ap next e.split) in
      let fits' : length (b ++ tail) ≤ k = subst (λ u. length u ≤ k) whole fits in
      let is' : many_from fs f k (b ++ tail) ≡ Ok (xs, q) = subst (λ u. many_from fs f k u ≡ Ok (xs, q)) whole is in
      let go' : next_in fs (b ++ tail) ≡ true = next_in_looks fs (b ++ tail) (b ++ m) (next_after b m tail near) ∙ sym (ap (next_in fs) split) ∙ go in
      let t = turn_ok fs f k (b ++ tail) xs q go' (some_tokens fs (b ++ tail) go') fits' is' in
      let read : f (b ++ tail) ≡ Ok (x, tail) = reads tail near in
      let same : ◌≡◌ {A = Result (A × List LineToken) GrammarFault} (Ok (t.0, t.1)) (Ok (x, tail)) = sym t.4 ∙ read in
      let parts = ok_parts t.0 x t.1 tail same in
      let less = turn_takes fs ks n P f g a (b ++ tail) x tail read in
      e.never s t.2 (omega (arith, less, fits', t.5)) t.3 q (subst (λ u. many_from fs f t.2 u ≡ Ok (t.3, q)) parts.0 t.6);
}

many_sunk : {D A : Type 0} (fs ks : List ℕ) (n : ℕ) (P : Part D A) (f g : Reader A) → Reads fs false ks n P f g → (m : ℕ) (ts : List LineToken) (j : ℕ) → many_from fs f m ts ≡ Err (too_deep j) → ManySunk fs P f ts j
unfolding many_from
many_sunk fs ks n P f g a zero ts j h = absurd cc
many_sunk fs ks n P f g a (suc m) ts j h = elim (went (next_in fs ts) _ _ (Err (too_deep j)) h) [
  | inl w ↦ elim (bind_err (f ts) (λ x. many_from fs f m x.1 >>= λ y. Ok (x.0 ∷ y.0, y.1)) (too_deep j) w.1) [
    | inl v ↦
        let d = a.sunk ts j v in
        record {
          before = d.before;
          at = d.at;
          rest = d.rest;
          more = d.more;
          by = d.by ∷ [];
          split = d.split;
          left = d.left;
          fresh = d.fresh;
          spells = λ s fresh. pair_spells P.spelt d.by [] (d.before ++ (d.at ∷ (d.more ++ s))) s (bound_some (P.spelt d.by (d.before ++ (d.at ∷ (d.more ++ s)))) (spell.many P.spelt []) s (Some s) (d.spells s fresh) (none_spells P.spelt s));
          never = λ s k fits xs q is.
              let go = test_stays fs ts d.before d.at d.rest s true d.split w.0 in
              let t = turn_ok fs f k (d.before ++ (d.at ∷ s)) xs q go (some_tokens fs (d.before ++ (d.at ∷ s)) go) fits is in
              d.never s t.0 t.1 t.4;
        }
    | inr one ↦ elim (bind_err (many_from fs f m one.0.1) (λ y. Ok (one.0.0 ∷ y.0, y.1)) (too_deep j) one.2) [
      | inl v ↦
          let c = one_cut fs ks false n P f g a ts one.0.0 one.0.1 one.1 in
          let e = many_sunk fs ks n P f g a m one.0.1 j v in
          later_sunk fs ks n P f g a ts one.0.1 one.0.0 j c.0 c.1 c.2 c.3 c.4 w.0 e
      | inr v ↦ absurd cc
    ]
  ]
  | inr w ↦ absurd cc
]

many_sinks : {D A : Type 0} (fs : List ℕ) (P : Part D A) (f : Reader A) (ts : List LineToken) (n : ℕ) → ManySunk fs P f ts n → Sunk (list_part P) (many fs f) ts n
many_sinks fs P f ts n e = record { before = e.before; at = e.at; rest = e.rest; more = e.more; by = e.by; split = e.split; left = e.left; fresh = e.fresh; spells = e.spells; never = λ s xs q h. e.never s (length (e.before ++ (e.at ∷ s))) (omega arith) xs q h }

many_free : {D A : Type 0} (fs ks : List ℕ) (n : ℕ) (P : Part D A) (f g : Reader A) → Reads fs false ks n P f g → (ds : List D) → deepest P.depth ds ≤ n → Free (spell.many P.spelt ds)
unfolding spell.many
many_free fs ks n P f g a [] few ts r h = ([], cc, λ s near. refl)
many_free fs ks n P f g a (d ∷ ds) few ts r h = then_free (P.spelt d) (spell.many P.spelt ds) (a.free d (omega (arith, few))) (many_free fs ks n P f g a ds (omega (arith, few))) ts r h

abbrev pub Takes : {A : Type 0} → Reader A → Type 0
Takes {A} f = (ts : List LineToken) (x : A) (r : List LineToken) → f ts ≡ Ok (x, r) → suc (length r) ≤ length ts

many_reads_on : {A : Type 0} (fs : List ℕ) (f g : Reader A) → Takes f → Stable f g → (m : ℕ) (ts : List LineToken) (xs : List A) (r : List LineToken) → length ts ≤ m → many_from fs f m ts ≡ Ok (xs, r)
    → (b : List LineToken) × (ts ≡ b ++ r) × ((s : List LineToken) (k : ℕ) → next s ≡ next r → length (b ++ s) ≤ k → many_from fs g k (b ++ s) ≡ Ok (xs, s))
unfolding many_from
many_reads_on fs f g takes st zero ts xs r fits h =
    let e = ok_parts [] xs ts r h in
    ([], e.0, λ s k same fits'. many_stops fs g k s (ap (next_in fs) (no_tokens s (same ∙ ap next (sym e.0 ∙ no_length ts fits))) ∙ none_next fs) ∙ ap (λ z. Ok (z, s)) e.1)
many_reads_on fs f g takes st (suc m) ts xs r fits h = elim (went (next_in fs ts) _ _ (Ok (xs, r)) h) [
  | inl w ↦
      let one = bind_ok (f ts) (λ x. many_from fs f m x.1 >>= λ y. Ok (x.0 ∷ y.0, y.1)) (xs, r) w.1 in
      let two = bind_ok (many_from fs f m one.0.1) (λ y. Ok (one.0.0 ∷ y.0, y.1)) (xs, r) one.2 in
      let same_end = ok_parts (one.0.0 ∷ two.0.0) xs two.0.1 r two.2 in
      let a = st.reads ts one.0.0 one.0.1 one.1 in
      let less = takes ts one.0.0 one.0.1 one.1 in
      let b = many_reads_on fs f g takes st m one.0.1 two.0.0 r (omega (arith, less, fits)) (two.1 ∙ ap (λ k. Ok (two.0.0, k)) same_end.0) in (
        a.0 ++ b.0,
        a.1 ∙ ap (λ k. a.0 ++ k) b.1 ∙ sym (append_assoc a.0 b.0 r),
        λ s k same fits'. subst (λ u. length u ≤ k → many_from fs g k u ≡ Ok (xs, s)) (sym (append_assoc a.0 b.0 s))
            (λ fits''.
            let near : next (b.0 ++ s) ≡ next one.0.1 = next_after b.0 r s same ∙ sym (ap next b.1) in
            many_goes fs g k (a.0 ++ (b.0 ++ s)) (b.0 ++ s) one.0.0 (Ok (xs, s)) (next_in_looks fs (a.0 ++ (b.0 ++ s)) (a.0 ++ one.0.1) (next_after a.0 one.0.1 (b.0 ++ s) near) ∙ sym (ap (next_in fs) a.1) ∙ w.0) (a.2 (b.0 ++ s) near)
            (grown a.0 one.0.1 (b.0 ++ s) (subst (λ u. suc (length one.0.1) ≤ length u) a.1 less)) fits''
            (λ j is fits3. bound (many_from fs g j (b.0 ++ s)) (λ y. Ok (one.0.0 ∷ y.0, y.1)) (two.0.0, s) _ (b.2 s j same fits3) (ap (λ z. Ok (z, s)) same_end.1)))
            fits',
      )
  | inr w ↦
      let e = ok_parts [] xs ts r w.1 in
      ([], e.0, λ s k same fits'. many_stops fs g k s (next_in_looks fs s ts (same ∙ ap next (sym e.0)) ∙ w.0) ∙ ap (λ z. Ok (z, s)) e.1)
]

many_faults_on : {A : Type 0} (fs : List ℕ) (f g : Reader A) → Takes f → Stable f g → (m : ℕ) (ts : List LineToken) (j : ℕ) → length ts ≤ m → many_from fs f m ts ≡ Err (unexpected j)
    → (b : List LineToken) × (r : List LineToken) × (ts ≡ b ++ r) × (length r ≡ j) × ((s : List LineToken) (k : ℕ) → next s ≡ next r → length (b ++ s) ≤ k → many_from fs g k (b ++ s) ≡ Err (unexpected (length s)))
unfolding many_from
many_faults_on fs f g takes st zero ts j fits h = absurd cc
many_faults_on fs f g takes st (suc m) ts j fits h = elim (went (next_in fs ts) _ _ (Err (unexpected j)) h) [
  | inl w ↦ elim (bind_err (f ts) (λ x. many_from fs f m x.1 >>= λ y. Ok (x.0 ∷ y.0, y.1)) (unexpected j) w.1) [
    | inl v ↦
        let a = st.faults ts j v in (
          a.0,
          a.1,
          a.2,
          a.3,
          λ s k same fits'.
              let go : next_in fs (a.0 ++ s) ≡ true = next_in_looks fs (a.0 ++ s) (a.0 ++ a.1) (next_after a.0 a.1 s same) ∙ sym (ap (next_in fs) a.2) ∙ w.0 in
              many_fails fs g k (a.0 ++ s) (unexpected (length s)) go (a.4 s same) (some_tokens fs (a.0 ++ s) go) fits',
        )
    | inr one ↦ elim (bind_err (many_from fs f m one.0.1) (λ y. Ok (one.0.0 ∷ y.0, y.1)) (unexpected j) one.2) [
      | inl v ↦
          let a = st.reads ts one.0.0 one.0.1 one.1 in
          let less = takes ts one.0.0 one.0.1 one.1 in
          let b = many_faults_on fs f g takes st m one.0.1 j (omega (arith, less, fits)) v in (
            a.0 ++ b.0,
            b.1,
            a.1 ∙ ap (λ k. a.0 ++ k) b.2 ∙ sym (append_assoc a.0 b.0 b.1),
            b.3,
            λ s k same fits'. subst (λ u. length u ≤ k → many_from fs g k u ≡ Err (unexpected (length s))) (sym (append_assoc a.0 b.0 s))
                (λ fits''.
                let near : next (b.0 ++ s) ≡ next one.0.1 = next_after b.0 b.1 s same ∙ sym (ap next b.2) in
                many_goes fs g k (a.0 ++ (b.0 ++ s)) (b.0 ++ s) one.0.0 (Err (unexpected (length s))) (next_in_looks fs (a.0 ++ (b.0 ++ s)) (a.0 ++ one.0.1) (next_after a.0 one.0.1 (b.0 ++ s) near) ∙ sym (ap (next_in fs) a.1) ∙ w.0) (a.2 (b.0 ++ s) near)
                (grown a.0 one.0.1 (b.0 ++ s) (subst (λ u. suc (length one.0.1) ≤ length u) a.1 less)) fits''
                (λ i is fits3. bound_err (many_from fs g i (b.0 ++ s)) (λ y. Ok (one.0.0 ∷ y.0, y.1)) (unexpected (length s)) (b.4 s i same fits3)))
                fits',
          )
      | inr v ↦ absurd cc
    ]
  ]
  | inr w ↦ absurd cc
]

many_stable : {A : Type 0} (fs : List ℕ) (f g : Reader A) → Takes f → Stable f g → Stable (many fs f) (many fs g)
many_stable fs f g takes st = record {
  reads = λ ts xs r h.
      let a = many_reads_on fs f g takes st (length ts) ts xs r (omega arith) h in
      (a.0, a.1, λ s same. a.2 s (length (a.0 ++ s)) same (omega arith));
  faults = λ ts j h.
      let a = many_faults_on fs f g takes st (length ts) ts j (omega arith) h in
      (a.0, a.1, a.2, a.3, λ s same. a.4 s (length (a.0 ++ s)) same (omega arith));
}

pub many_reads : {D A : Type 0} (fs ks : List ℕ) (n : ℕ) (P : Part D A) (f g : Reader A) → disjoint fs ks ≡ true → Reads fs false ks n P f g → Reads fs true (fs ++ ks) n (list_part P) (many fs f) (many fs g)
many_reads fs ks n P f g apart a = record {
  whole = λ ts xs r h. many_whole fs ks n P f g a (length ts) ts xs r h;
  comp = λ ds ts r few h stop. many_comp fs ks n P f g apart a ds (length ts) ts r (omega arith) few h stop;
  begun = λ ts j h. many_begun fs ks n P f g a (length ts) ts j h;
  starts = many_starts fs ks n P f g a;
  free = many_free fs ks n P f g a;
  some = many_default P.spelt;
  stable = many_stable fs f g (turn_takes fs ks n P f g a) a.stable;
  self = many_stable fs f f (turn_takes fs ks n P f g a) a.self;
  sunk = λ ts j h. many_sinks fs P f ts j (many_sunk fs ks n P f g a (length ts) ts j h);
}
