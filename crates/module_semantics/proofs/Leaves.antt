-- A token of some kinds, and nothing.
use Rattle.std.proofs.Common.{◌≡◌, ℕ, List, [], ◌∷◌, length, Bool, true, false, cond, ◌&&◌, inl, inr, Some, None, Ok, Err, refl, sym, ap, ◌∙◌, subst, arith}
use Rattle.module_semantics.specs.Token.{LineToken}
use Rattle.module_semantics.specs.Kinds.{kind, within, SEMICOLON, ERROR}
use Rattle.module_semantics.specs.Readers.{unexpected, next_in, taken, too_deep}
use Rattle.module_semantics.specs.Spelling.{one}
use Rattle.module_semantics.proofs.PiecesLex.{both}
use Rattle.module_semantics.proofs.Steps.{ok_parts, went, unexpected_at}
use Rattle.module_semantics.proofs.KindLists.{next_in_looks}
use Rattle.module_semantics.proofs.Parts.{Free, Stable, Default, Reads, leaf}

-- the test says which values are the same
pub record Same {A : Type 0} (same : A → A → Bool) : Type 0 where
  pub is : (a b : A) → same a b ≡ true → a ≡ b
  pub again : (a : A) → same a a ≡ true

some_if : (b : Bool) (ts r : List LineToken) → cond b (Some ts) None ≡ Some r → (b ≡ true) × (ts ≡ r)
some_if true ts r h = (refl, cc)
some_if false ts r h = cc

pub one_ok : (ks : List ℕ) (test : LineToken → Bool) (ts r : List LineToken) → one ks test ts ≡ Some r → (t : LineToken) × (ts ≡ t ∷ r) × (within ks (kind t.token) ≡ true) × (test t ≡ true)
unfolding one
one_ok ks test [] r h = absurd cc
one_ok ks test (t ∷ ts) r h =
    let w = some_if (within ks (kind t.token) && test t) ts r h in
    let v = both (within ks (kind t.token)) (test t) w.0 in
    (t, ap (λ k. t ∷ k) w.1, v.0, v.1)

pub one_is : (ks : List ℕ) (test : LineToken → Bool) (t : LineToken) (r : List LineToken) → within ks (kind t.token) ≡ true → test t ≡ true → one ks test (t ∷ r) ≡ Some r
unfolding one
one_is ks test t r h k = rw (h, k) refl

pub taken_ok : {A : Type 0} (ks : List ℕ) (v : LineToken → A) (ts : List LineToken) (x : A) (r : List LineToken) → taken ks v ts ≡ Ok (x, r) → (t : LineToken) × (ts ≡ t ∷ r) × (within ks (kind t.token) ≡ true) × (v t ≡ x)
unfolding taken
taken_ok ks v [] x r h = absurd cc
taken_ok ks v (t ∷ ts) x r h = elim (went (within ks (kind t.token)) _ _ (Ok (x, r)) h) [
  | inl w ↦ let e = ok_parts (v t) x ts r w.1 in (t, ap (λ k. t ∷ k) e.0, w.0, e.1)
  | inr w ↦ absurd cc
]

pub taken_is : {A : Type 0} (ks : List ℕ) (v : LineToken → A) (t : LineToken) (r : List LineToken) → within ks (kind t.token) ≡ true → taken ks v (t ∷ r) ≡ Ok (v t, r)
unfolding taken
taken_is ks v t r h = rw h refl

pub taken_not : {A : Type 0} (ks : List ℕ) (v : LineToken → A) (ts : List LineToken) → next_in ks ts ≡ false → taken ks v ts ≡ Err (unexpected (length ts))
unfolding taken next_in
taken_not ks v [] h = refl
taken_not ks v (t ∷ ts) h = rw h refl

pub taken_err : {A : Type 0} (ks : List ℕ) (v : LineToken → A) (ts : List LineToken) (m : ℕ) → taken ks v ts ≡ Err (unexpected m) → (next_in ks ts ≡ false) × (length ts ≡ m)
unfolding taken next_in
taken_err ks v [] m h = (refl, unexpected_at cc)
taken_err ks v (t ∷ ts) m h = elim (went (within ks (kind t.token)) _ _ (Err (unexpected m)) h) [
  | inl w ↦ absurd cc
  | inr w ↦ (w.0, unexpected_at cc)
]

pub next_is : (ks : List ℕ) (t : LineToken) (r ts : List LineToken) → ts ≡ t ∷ r → within ks (kind t.token) ≡ true → next_in ks ts ≡ true
unfolding next_in
next_is ks t r ts e h = rw e h

pub one_free : (ks : List ℕ) (test : LineToken → Bool) → Free (one ks test)
one_free ks test ts r h = let w = one_ok ks test ts r h in (w.0 ∷ [], w.1, λ s near. one_is ks test w.0 s w.2 w.3)

pub one_next : (ks : List ℕ) (test : LineToken → Bool) (ts r : List LineToken) → one ks test ts ≡ Some r → next_in ks ts ≡ true
one_next ks test ts r h = let w = one_ok ks test ts r h in next_is ks w.0 r ts w.1 w.2

pub taken_stable : {A : Type 0} (ks : List ℕ) (v : LineToken → A) → Stable (taken ks v) (taken ks v)
taken_stable ks v = record {
  reads = λ ts x r h. let w = taken_ok ks v ts x r h in (w.0 ∷ [], w.1, λ s same. taken_is ks v w.0 s w.2 ∙ ap (λ z. Ok (z, s)) w.3);
  faults = λ ts n h. let w = taken_err ks v ts n h in ([], ts, refl, w.1, λ s same. taken_not ks v s (next_in_looks ks s ts same ∙ w.0));
}

pub taken_shallow : {A : Type 0} (ks : List ℕ) (v : LineToken → A) (ts : List LineToken) (m : ℕ) → taken ks v ts ≡ Err (too_deep m) → ⊥
unfolding taken
taken_shallow ks v [] m h = absurd cc
taken_shallow ks v (t ∷ ts) m h = elim (went (within ks (kind t.token)) _ _ (Err (too_deep m)) h) [ inl w ↦ absurd cc | inr w ↦ absurd cc ]

pub leaf_reads : {A : Type 0} (ks : List ℕ) (v : LineToken → A) (same : A → A → Bool) (n : ℕ) → Same same → (t : LineToken) → within ks (kind t.token) ≡ true → t.later ≡ true → within (SEMICOLON ∷ ERROR ∷ []) (kind t.token) ≡ false
    → Reads ks false [] n (leaf ks v same) (taken ks v) (taken ks v)
leaf_reads ks v same n S t is later plain =
    let some : Default (leaf ks v same).spelt = record { by = v t; text = t ∷ []; fresh = (later, plain); spells = λ s fresh. one_is ks (λ u. same (v t) (v u)) t s is (S.again (v t)) } in
    record {
      whole = λ ts x r h.
          let w = taken_ok ks v ts x r h in
          (x, subst (λ k. one ks (λ u. same x (v u)) k ≡ Some r) (sym w.1) (one_is ks (λ u. same x (v u)) w.0 r w.2 (ap (same x) w.3 ∙ S.again x)), refl, omega arith);
      comp = λ d ts r few h stop.
          let w = one_ok ks (λ u. same d (v u)) ts r h in
          ap (taken ks v) w.1 ∙ taken_is ks v w.0 r w.2 ∙ ap (λ z. Ok (z, r)) (sym (S.is d (v w.0) w.3));
      begun = λ ts m h. let w = taken_err ks v ts m h in record { before = []; rest = ts; more = some.text; by = some.by; split = refl; left = w.1; fresh = some.fresh; spells = some.spells };
      starts = λ d ts r few h. one_next ks (λ u. same d (v u)) ts r h;
      free = λ d few. one_free ks (λ u. same d (v u));
      some = some;
      stable = taken_stable ks v;
      self = taken_stable ks v;
      sunk = λ ts m h. absurd (taken_shallow ks v ts m h);
    }
