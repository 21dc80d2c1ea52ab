-- Elements of lists.
use Rattle.std.proofs.Common.{◌≡◌, ◌⊎◌, inl, inr, ℕ, zero, suc, ◌<◌, Bool, true, false, List, [], ◌∷◌, length, get_or, refl, ap, sym, ◌∙◌, arith, Contains}
use Rattle.std.specs.Prelude.{map, filter, flat_map, cond}
use Rattle.std.proofs.Math.Path.{subst}
use Rattle.std.proofs.lemmas.Bool.{false≢true}
use Rattle.std.proofs.lemmas.List.Elements.{Contains-append_left, Contains-append_right, Contains-append_cases}
use Prim.{⊥}

module _ {X : Type 0} where
  pub head_in : (x : X) (xs : List X) → Contains (x ∷ xs) x
  head_in x xs = (0, omega arith, refl)

  pub tail_in : (y : X) (xs : List X) (x : X) → Contains xs x → Contains (y ∷ xs) x
  tail_in y xs x c = (suc c.0, omega (arith, c.1), c.2)

  cases_at : (y : X) (xs : List X) (x : X) (k : ℕ) → k < length (y ∷ xs) → get_or (y ∷ xs) k x ≡ x → (y ≡ x) ⊎ Contains xs x
  cases_at y xs x zero p e = inl e
  cases_at y xs x (suc k) p e = inr (k, omega (arith, p), e)

  pub in_cases : (y : X) (xs : List X) (x : X) → Contains (y ∷ xs) x → (y ≡ x) ⊎ Contains xs x
  in_cases y xs x c = cases_at y xs x c.0 c.1 c.2

  pub none_in : (x : X) → Contains [] x → ⊥
  none_in x c = omega (arith, c.1)

  -- Elements that pass a test.

  pub filter_in : (p : X → Bool) (xs : List X) (x : X) → Contains xs x → p x ≡ true → Contains (filter p xs) x
  filter_in p [] x c e = absurd (none_in x c)
  filter_in p (y ∷ xs) x c e = by (p y) refl (filter_in p xs x) (in_cases y xs x c)
    where
      by : (b : Bool) → p y ≡ b → (Contains xs x → p x ≡ true → Contains (filter p xs) x) → (y ≡ x) ⊎ Contains xs x → Contains (cond b (y ∷ filter p xs) (filter p xs)) x
      by true s rest (inl f) = subst (Contains (y ∷ filter p xs)) f (head_in y (filter p xs))
      by true s rest (inr t) = tail_in y (filter p xs) x (rest t e)
      by false s rest (inl f) = absurd (false≢true (sym s ∙ ap p f ∙ e))
      by false s rest (inr t) = rest t e

  pub filter_from : (p : X → Bool) (xs : List X) (x : X) → Contains (filter p xs) x → (p x ≡ true) × Contains xs x
  filter_from p [] x c = absurd (none_in x c)
  filter_from p (y ∷ xs) x c = by (p y) refl (filter_from p xs x) c
    where
      head : p y ≡ true → (Contains (filter p xs) x → (p x ≡ true) × Contains xs x) → (y ≡ x) ⊎ Contains (filter p xs) x → (p x ≡ true) × Contains (y ∷ xs) x
      head s rest (inl f) = (ap p (sym f) ∙ s, subst (Contains (y ∷ xs)) f (head_in y xs))
      head s rest (inr t) = let k = rest t in (k.0, tail_in y xs x k.1)

      by : (b : Bool) → p y ≡ b → (Contains (filter p xs) x → (p x ≡ true) × Contains xs x) → Contains (cond b (y ∷ filter p xs) (filter p xs)) x → (p x ≡ true) × Contains (y ∷ xs) x
      by true s rest c = head s rest (in_cases y (filter p xs) x c)
      by false s rest c = let k = rest c in (k.0, tail_in y xs x k.1)

-- Elements of a list under a function.

module _ {X Y : Type 0} (f : X → Y) where
  pub map_in : (xs : List X) (x : X) → Contains xs x → Contains (map f xs) (f x)
  map_in [] x c = absurd (none_in x c)
  map_in (y ∷ xs) x c = by (map_in xs x) (in_cases y xs x c)
    where
      by : (Contains xs x → Contains (map f xs) (f x)) → (y ≡ x) ⊎ Contains xs x → Contains (f y ∷ map f xs) (f x)
      by rest (inl e) = subst (λ z. Contains (f y ∷ map f xs) (f z)) e (head_in (f y) (map f xs))
      by rest (inr t) = tail_in (f y) (map f xs) (f x) (rest t)

  -- what an element is made of
  pub record MadeOf (xs : List X) (y : Y) : Type 0 where
    pub of : X
    pub there : Contains xs of
    pub makes : f of ≡ y

  pub map_from : (xs : List X) (y : Y) → Contains (map f xs) y → MadeOf xs y
  map_from [] y c = absurd (none_in y c)
  map_from (x ∷ xs) y c = by (map_from xs y) (in_cases (f x) (map f xs) y c)
    where
      by : (Contains (map f xs) y → MadeOf xs y) → (f x ≡ y) ⊎ Contains (map f xs) y → MadeOf (x ∷ xs) y
      by rest (inl e) = record { of = x; there = head_in x xs; makes = e }
      by rest (inr t) = let m : MadeOf xs y = rest t in record { of = m.of; there = tail_in x xs m.of m.there; makes = m.makes }

-- Elements of lists one after another.

module _ {X Y : Type 0} (f : X → List Y) where
  pub flat_in : (xs : List X) (x : X) (y : Y) → Contains xs x → Contains (f x) y → Contains (flat_map f xs) y
  flat_in [] x y c d = absurd (none_in x c)
  flat_in (z ∷ xs) x y c d = by (flat_in xs x y) (in_cases z xs x c)
    where
      by : (Contains xs x → Contains (f x) y → Contains (flat_map f xs) y) → (z ≡ x) ⊎ Contains xs x → Contains (flat_map f (z ∷ xs)) y
      by rest (inl e) = Contains-append_left (f z) (flat_map f xs) y (subst (λ k. Contains (f k) y) (sym e) d)
      by rest (inr t) = Contains-append_right (f z) (flat_map f xs) y (rest t d)

  -- what an element comes from
  pub record ComesOf (xs : List X) (y : Y) : Type 0 where
    pub of : X
    pub there : Contains xs of
    pub gives : Contains (f of) y

  pub flat_from : (xs : List X) (y : Y) → Contains (flat_map f xs) y → ComesOf xs y
  flat_from [] y c = absurd (none_in y c)
  flat_from (z ∷ xs) y c = by (flat_from xs y) (Contains-append_cases (f z) (flat_map f xs) y c)
    where
      by : (Contains (flat_map f xs) y → ComesOf xs y) → Contains (f z) y ⊎ Contains (flat_map f xs) y → ComesOf (z ∷ xs) y
      by rest (inl d) = record { of = z; there = head_in z xs; gives = d }
      by rest (inr t) = let k : ComesOf xs y = rest t in record { of = k.of; there = tail_in z xs k.of k.there; gives = k.gives }
