-- Lists of kinds of tokens.
use Rattle.std.proofs.Common.{◌≡◌, ℕ, List, [], ◌∷◌, ◌++◌, Bool, true, false, not, ◌&&◌, ◌||◌, ◌==◌, ◌⊎◌, inl, inr, refl, ap, ◌∙◌, arith}
use Rattle.std.proofs.lemmas.Bool.{eqb-true}
use Rattle.module_semantics.specs.Token.{LineToken}
use Rattle.module_semantics.specs.Kinds.{kind, within}
use Rattle.module_semantics.specs.Readers.{next_in}
use Rattle.module_semantics.proofs.PiecesLex.{both, either, nots}
use Rattle.module_semantics.proofs.LexedPieces.{and_yes}
use Rattle.module_semantics.proofs.Steps.{next}

-- no kind stands in both
unfoldable pub disjoint : List ℕ → List ℕ → Bool
disjoint [] ys = true
disjoint (x ∷ xs) ys = not (within ys x) && disjoint xs ys

-- each of the first stands in the second
unfoldable pub subset : List ℕ → List ℕ → Bool
subset [] ys = true
subset (x ∷ xs) ys = within ys x && subset xs ys

pub within_apart : (xs ys : List ℕ) (k : ℕ) → disjoint xs ys ≡ true → within xs k ≡ true → within ys k ≡ false
unfolding disjoint within
within_apart [] ys k h w = absurd cc
within_apart (x ∷ xs) ys k h w =
    let t = both (not (within ys x)) (disjoint xs ys) h in
    elim (either (k == x) (within xs k) w) [
      | inl v ↦ ap (within ys) (eqb-true k x v) ∙ nots (within ys x) t.0
      | inr v ↦ within_apart xs ys k t.1 v
    ]

pub within_more : (xs ys : List ℕ) (k : ℕ) → subset xs ys ≡ true → within xs k ≡ true → within ys k ≡ true
unfolding subset within
within_more [] ys k h w = absurd cc
within_more (x ∷ xs) ys k h w =
    let t = both (within ys x) (subset xs ys) h in
    elim (either (k == x) (within xs k) w) [
      | inl v ↦ ap (within ys) (eqb-true k x v) ∙ t.0
      | inr v ↦ within_more xs ys k t.1 v
    ]

or_left : (a b : Bool) → a ≡ true → (a || b) ≡ true
or_left a b h = rw h refl

or_right : (a b : Bool) → b ≡ true → (a || b) ≡ true
or_right true b h = refl
or_right false b h = h

pub same_kind : (n : ℕ) → (n == n) ≡ true
same_kind n = search arith

subset_when : (xs ys : List ℕ) → ((k : ℕ) → within xs k ≡ true → within ys k ≡ true) → subset xs ys ≡ true
unfolding subset within
subset_when [] ys h = refl
subset_when (x ∷ xs) ys h = and_yes _ _ (h x (or_left (x == x) (within xs x) (same_kind x))) (subset_when xs ys (λ k w. h k (or_right (k == x) (within xs k) w)))

pub subset_self : (xs : List ℕ) → subset xs xs ≡ true
subset_self xs = subset_when xs xs (λ k w. w)

or_false : (a b : Bool) → (a || b) ≡ false → (a ≡ false) × (b ≡ false)
or_false true b h = absurd cc
or_false false b h = (refl, h)

no_or : (a b : Bool) → a ≡ false → b ≡ false → (a || b) ≡ false
no_or a b h k = rw (h, k) refl

within_left : (xs ys : List ℕ) (k : ℕ) → within xs k ≡ true → within (xs ++ ys) k ≡ true
unfolding within
within_left [] ys k h = absurd cc
within_left (x ∷ xs) ys k h = elim (either (k == x) (within xs k) h) [
  | inl v ↦ or_left (k == x) (within (xs ++ ys) k) v
  | inr v ↦ or_right (k == x) (within (xs ++ ys) k) (within_left xs ys k v)
]

within_right : (xs ys : List ℕ) (k : ℕ) → within ys k ≡ true → within (xs ++ ys) k ≡ true
unfolding within
within_right [] ys k h = h
within_right (x ∷ xs) ys k h = or_right (k == x) (within (xs ++ ys) k) (within_right xs ys k h)

pub within_either : (xs ys : List ℕ) (k : ℕ) → within (xs ++ ys) k ≡ true → (within xs k ≡ true) ⊎ (within ys k ≡ true)
unfolding within
within_either [] ys k h = inr h
within_either (x ∷ xs) ys k h = elim (either (k == x) (within (xs ++ ys) k) h) [
  | inl v ↦ inl (or_left (k == x) (within xs k) v)
  | inr v ↦ elim (within_either xs ys k v) [
    | inl w ↦ inl (or_right (k == x) (within xs k) w)
    | inr w ↦ inr w
  ]
]

pub within_neither : (xs ys : List ℕ) (k : ℕ) → within (xs ++ ys) k ≡ false → (within xs k ≡ false) × (within ys k ≡ false)
unfolding within
within_neither [] ys k h = (refl, h)
within_neither (x ∷ xs) ys k h =
    let t = or_false (k == x) (within (xs ++ ys) k) h in
    let w = within_neither xs ys k t.1 in
    (no_or (k == x) (within xs k) t.0 w.0, w.1)

pub disjoint_none : (xs : List ℕ) → disjoint xs [] ≡ true
unfolding disjoint within
disjoint_none [] = refl
disjoint_none (x ∷ xs) = disjoint_none xs

-- the same of the next token
pub next_apart : (xs ys : List ℕ) (s : List LineToken) → disjoint xs ys ≡ true → next_in xs s ≡ true → next_in ys s ≡ false
unfolding next_in
next_apart xs ys [] h w = absurd cc
next_apart xs ys (t ∷ s) h w = within_apart xs ys (kind t.token) h w

pub next_more : (xs ys : List ℕ) (s : List LineToken) → subset xs ys ≡ true → next_in xs s ≡ true → next_in ys s ≡ true
unfolding next_in
next_more xs ys [] h w = absurd cc
next_more xs ys (t ∷ s) h w = within_more xs ys (kind t.token) h w

pub next_left : (xs ys : List ℕ) (s : List LineToken) → next_in xs s ≡ true → next_in (xs ++ ys) s ≡ true
unfolding next_in
next_left xs ys [] h = absurd cc
next_left xs ys (t ∷ s) h = within_left xs ys (kind t.token) h

pub next_right : (xs ys : List ℕ) (s : List LineToken) → next_in ys s ≡ true → next_in (xs ++ ys) s ≡ true
unfolding next_in
next_right xs ys [] h = absurd cc
next_right xs ys (t ∷ s) h = within_right xs ys (kind t.token) h

pub next_either : (xs ys : List ℕ) (s : List LineToken) → next_in (xs ++ ys) s ≡ true → (next_in xs s ≡ true) ⊎ (next_in ys s ≡ true)
unfolding next_in
next_either xs ys [] h = absurd cc
next_either xs ys (t ∷ s) h = within_either xs ys (kind t.token) h

pub next_neither : (xs ys : List ℕ) (s : List LineToken) → next_in (xs ++ ys) s ≡ false → (next_in xs s ≡ false) × (next_in ys s ≡ false)
unfolding next_in
next_neither xs ys [] h = (refl, refl)
next_neither xs ys (t ∷ s) h = within_neither xs ys (kind t.token) h

pub next_in_looks : (ks : List ℕ) (s r : List LineToken) → next s ≡ next r → next_in ks s ≡ next_in ks r
unfolding next_in
next_in_looks ks [] [] h = refl
next_in_looks ks [] (u ∷ r) h = absurd cc
next_in_looks ks (t ∷ s) [] h = absurd cc
next_in_looks ks (t ∷ s) (u ∷ r) h = let e : t ≡ u = cc in ap (λ v. within ks (kind v.token)) e

pub none_next : (ks : List ℕ) → next_in ks [] ≡ false
unfolding next_in
none_next ks = refl
