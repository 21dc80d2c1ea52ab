-- The name of a parameter's place.
use Rattle.std.proofs.Common.{◌≡◌, ℕ, zero, suc, ◌<◌, ◌≤◌, List, [], ◌∷◌, length, get_or, refl, arith}
use Rattle.module_semantics.specs.Canon.{nth}

pub nth_past : (ns : List (List ℕ)) (i : ℕ) → length ns ≤ i → nth ns i ≡ []
nth_past [] i h = refl
nth_past (n ∷ ns) zero h = absurd (omega arith)
nth_past (n ∷ ns) (suc i) h = nth_past ns i (omega arith)

pub nth_at : (ns : List (List ℕ)) (i : ℕ) (d : List ℕ) → i < length ns → nth ns i ≡ get_or ns i d
nth_at [] i d h = absurd (omega arith)
nth_at (n ∷ ns) zero d h = refl
nth_at (n ∷ ns) (suc i) d h = nth_at ns i d (omega arith)
