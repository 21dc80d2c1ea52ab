-- A list whose first elements were changed one after the other.
use Rattle.std.proofs.Common.{◌≡◌, ℕ, suc, ◌+◌, ◌<◌, ◌≤◌, arith, List, [], ◌∷◌, length, get_or, refl, sym}
use Rattle.std.specs.Prelude.{⊤, slice_set}
use Prim.{⊥}
use Prim.Native.Nat.{zero}
use Rattle.std.specs.List.{AllZip}
use Rattle.std.proofs.Math.Path.{subst}

module _ {X : Type 0} (R : X → X → Type 0) where
  -- the first elements have become others, and the rest is as it was
  abbrev pub Upto : ℕ → List X → List X → Type 0
  Upto i [] [] = ⊤
  Upto i [] (y ∷ ys) = ⊥
  Upto i (x ∷ xs) [] = ⊥
  Upto zero (x ∷ xs) (y ∷ ys) = (y ≡ x) × Upto zero xs ys
  Upto (suc i) (x ∷ xs) (y ∷ ys) = R x y × Upto i xs ys

  pub none_yet : (xs : List X) → Upto 0 xs xs
  none_yet [] = tt
  none_yet (x ∷ xs) = (refl, none_yet xs)

  next : (i : ℕ) (xs ys : List X) (y d : X) → Upto i xs ys → i < length ys → R (get_or ys i d) y → Upto (suc i) xs (slice_set ys i y)
  next i [] [] y d h l r = absurd (omega arith)
  next i [] (z ∷ ys) y d h l r = absurd h
  next i (x ∷ xs) [] y d h l r = absurd (omega arith)
  next zero (x ∷ xs) (z ∷ ys) y d h l r = (subst (λ w. R w y) h.0 r, h.1)
  next (suc i) (x ∷ xs) (z ∷ ys) y d h l r = (h.0, next i xs ys y d h.1 (omega arith) r)

  -- one more has become another
  pub one_further : (i : ℕ) (xs ys : List X) (y d : X) → Upto i xs ys → i < length ys → R (get_or ys i d) y → Upto (i + 1) xs (slice_set ys i y)
  one_further i xs ys y d h l r = let e : i + 1 ≡ suc i = omega arith in subst (λ k. Upto k xs (slice_set ys i y)) (sym e) (next i xs ys y d h l r)

  -- all have become others
  pub all_done : (i : ℕ) (xs ys : List X) → Upto i xs ys → length ys ≤ i → AllZip R xs ys
  all_done i [] [] h l = tt
  all_done i [] (y ∷ ys) h l = absurd h
  all_done i (x ∷ xs) [] h l = absurd h
  all_done zero (x ∷ xs) (y ∷ ys) h l = absurd (omega arith)
  all_done (suc i) (x ∷ xs) (y ∷ ys) h l = (h.0, all_done i xs ys h.1 (omega arith))
