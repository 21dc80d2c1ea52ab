-- The last of a list, and those before it.
use Rattle.std.proofs.Common.{◌≡◌, ℕ, ◌+◌, List, [], ◌∷◌, ◌++◌, sum_by, refl, ap, sym, subst, ◌∙◌, arith}
use Rattle.std.specs.List.{All}
use Rattle.std.proofs.lemmas.List.Elements.{All-append, All-cons, All-nil, All-rest}
use Rattle.std.proofs.lemmas.List.Sums.{sum_by-append, sum_by-cons}

pub all_front : {X : Type 0} (P : X → Type 0) (xs ys : List X) (x : X) → ys ≡ xs ++ x ∷ [] → All P ys → All P xs
all_front P [] ys x e h = All-nil P
all_front P (z ∷ xs) ys x e h =
    let all : All P (z ∷ xs ++ x ∷ []) = subst (λ zs. All P zs) e h in
    All-cons P z xs (all 0 z (omega arith)) (all_front P xs (xs ++ x ∷ []) x refl (All-rest P z (xs ++ x ∷ []) (z ∷ xs ++ x ∷ []) refl all))

pub all_last : {X : Type 0} (P : X → Type 0) (xs ys : List X) (x : X) → ys ≡ xs ++ x ∷ [] → All P ys → P x
all_last P [] ys x e h = let all : All P (x ∷ []) = subst (λ zs. All P zs) e h in all 0 x (omega arith)
all_last P (z ∷ xs) ys x e h =
    let all : All P (z ∷ xs ++ x ∷ []) = subst (λ zs. All P zs) e h in
    all_last P xs (xs ++ x ∷ []) x refl (All-rest P z (xs ++ x ∷ []) (z ∷ xs ++ x ∷ []) refl all)

-- one more of which it holds
pub all_more : {X : Type 0} (P : X → Type 0) (xs ys : List X) (x : X) → ys ≡ xs ++ x ∷ [] → All P xs → P x → All P ys
all_more P xs ys x e all one = subst (λ zs. All P zs) (sym e) (All-append P xs (x ∷ []) all (All-cons P x [] one (All-nil P)))

pub sum_last : {X : Type 0} (f : X → ℕ) (xs ys : List X) (x : X) → ys ≡ xs ++ x ∷ [] → sum_by f ys ≡ sum_by f xs + f x
sum_last f xs ys x e = ap (λ zs. sum_by f zs) e ∙ omega (arith, sum_by-append f xs (x ∷ []), sum_by-cons f x [])
