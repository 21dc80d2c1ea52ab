-- Journals in parts: where a thing of two that are joined stands, and tests of the two.
use Rattle.std.proofs.Common.{◌≡◌, ◌⊎◌, inl, inr, Bool, true, false, [], ◌∷◌, ◌++◌, refl, ap, sym, ◌∙◌}
use Rattle.std.specs.Prelude.{◌||◌}
use Rattle.std.specs.List.{list_any}
use Rattle.std.proofs.lemmas.Bool.{false≢true}
use Rattle.core_model.proofs.Naming.{or_right}
use Rattle.client_model.specs.Journal.{Happening, Journal}

pub inner_append : (a b c : Journal) (x y : Happening) → a ++ x ∷ (b ++ y ∷ c) ≡ (a ++ x ∷ b) ++ y ∷ c
inner_append [] b c x y = refl
inner_append (z ∷ a) b c x y = ap (λ xs. z ∷ xs) (inner_append a b c x y)

-- it stands in the first
pub record InFirst (a front : Journal) (h : Happening) : Type 0 where
  pub rest : Journal
  pub first_is : a ≡ front ++ h ∷ rest

-- it stands in the second
pub record InSecond (a b front : Journal) (h : Happening) (back : Journal) : Type 0 where
  pub rest : Journal
  pub front_is : front ≡ a ++ rest
  pub second_is : b ≡ rest ++ h ∷ back

abbrev head_or : Happening → Journal → Happening
head_or d [] = d
head_or d (h ∷ journal) = h

abbrev tail_of : Journal → Journal
tail_of [] = []
tail_of (h ∷ journal) = journal

pub split_append : (a b front : Journal) (h : Happening) (back : Journal) → a ++ b ≡ front ++ h ∷ back → InFirst a front h ⊎ InSecond a b front h back
split_append [] b front h back e = inr (record { rest = front; front_is = refl; second_is = e })
split_append (x ∷ a) b [] h back e = inl (record { rest = a; first_is = ap (λ y. y ∷ a) (ap (head_or x) e) })
split_append (x ∷ a) b (y ∷ front) h back e = by (split_append a b front h back (ap tail_of e))
  where
    by : InFirst a front h ⊎ InSecond a b front h back → InFirst (x ∷ a) (y ∷ front) h ⊎ InSecond (x ∷ a) b (y ∷ front) h back
    by (inl s) = inl (record { rest = s.rest; first_is = ap (λ z. z ∷ a) (ap (head_or x) e) ∙ ap (λ xs. y ∷ xs) s.first_is })
    by (inr s) = inr (record { rest = s.rest; front_is = ap (λ z. z ∷ front) (sym (ap (head_or x) e)) ∙ ap (λ xs. x ∷ xs) s.front_is; second_is = s.second_is })

module _ (q : Happening → Bool) where
  pub any_left : (a b : Journal) → list_any q a ≡ true → list_any q (a ++ b) ≡ true
  any_left [] b h = absurd (false≢true h)
  any_left (x ∷ a) b h = by (q x) h (any_left a b)
    where
      by : (c : Bool) → (c || list_any q a) ≡ true → (list_any q a ≡ true → list_any q (a ++ b) ≡ true) → (c || list_any q (a ++ b)) ≡ true
      by true h rest = refl
      by false h rest = rest h

  pub any_right : (a b : Journal) → list_any q b ≡ true → list_any q (a ++ b) ≡ true
  any_right [] b h = h
  any_right (x ∷ a) b h = or_right (q x) _ (any_right a b h)
