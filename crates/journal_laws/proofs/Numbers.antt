-- The numbers of instances: each stands under its own, and those that a plan makes rise above those of all
-- that were there.
use Rattle.std.proofs.Common.{◌≡◌, ◌⊎◌, inl, inr, ℕ, suc, ◌+◌, ◌≤◌, ◌<◌, Bool, true, false, List, [], ◌∷◌, ◌++◌, length, refl, ap, sym, ◌∙◌, arith, Contains}
use Rattle.std.specs.Prelude.{cond, ◌==◌, Option, Some, None, is_some, ⊤}
use Rattle.std.proofs.Math.Path.{subst}
use Rattle.std.proofs.lemmas.Bool.{false≢true, eqb-true, eq-eqb}
use Rattle.std.proofs.lemmas.List.{length-map}
use Rattle.std.proofs.lemmas.Option.{same_Some}
use Rattle.core_model.specs.Names.{Name, same_name, has, at}
use Rattle.core_model.specs.Sources.{Text}
use Rattle.core_model.specs.View.{Entry}
use Rattle.core_model.specs.Page.{Plan, entry_at}
use Rattle.core_model.proofs.Naming.{or_left, or_right, true_same}
use Rattle.client_model.specs.Instance.{Instance, numbered}
use Rattle.client_model.specs.Runtime.{Runtime}
use Rattle.client_model.specs.Linking.{new_names, number_after, links_after, place_of}
use Rattle.client_model.specs.Making.{Birth}
use Rattle.client_model.specs.Applying.{birth_of, births}
use Rattle.world_laws.proofs.Members.{in_cases, none_in}
use Rattle.world_laws.proofs.Frames.{frame, frames, Numbered, found_in, apart}
use Rattle.world_laws.proofs.Births.{number_new}
use Rattle.world_laws.proofs.Orders.{left_once, filter_once, CountsFrom, places_count}

pub number_found : (is : List Instance) (k : ℕ) (i : Instance) → numbered is k ≡ Some i → i.number ≡ k
number_found is k i e = eqb-true i.number k (found_in (λ j. j.number == k) is i e).1

-- no two have the same number
abbrev pub Apart : List Instance → Type 0
Apart [] = ⊤
Apart (i ∷ is) = (numbered is i.number ≡ None) × Apart is

pub none_beyond : (is : List Instance) (k : ℕ) → Numbered (frames is) → length is < k → numbered is k ≡ None
none_beyond [] k d l = refl
none_beyond (i ∷ is) k d l = ap (λ b. cond b (Some i) (numbered is k)) (apart i.number k (λ e. omega (arith, e, d.0, l, length-map is frame))) ∙ none_beyond is k d.1 (omega (arith, l))

pub apart_numbered : (is : List Instance) → Numbered (frames is) → Apart is
apart_numbered [] d = tt
apart_numbered (i ∷ is) d = (none_beyond is i.number d.1 (omega (arith, d.0, length-map is frame)), apart_numbered is d.1)

-- each stands under its number
pub there : (is : List Instance) → Apart is → (i : Instance) → Contains is i → numbered is i.number ≡ Some i
there [] a i c = absurd (none_in i c)
there (j ∷ is) a i c = by (in_cases j is i c) (there is a.1 i)
  where
    later : (b : Bool) → (j.number == i.number) ≡ b → numbered is i.number ≡ Some i → cond b (Some j) (numbered is i.number) ≡ Some i
    later true e h = absurd (false≢true (ap is_some (sym (ap (numbered is) (sym (eqb-true j.number i.number e)) ∙ a.0) ∙ h)))
    later false e h = h

    by : (j ≡ i) ⊎ Contains is i → (Contains is i → numbered is i.number ≡ Some i) → cond (j.number == i.number) (Some j) (numbered is i.number) ≡ Some i
    by (inl e) rest = ap (λ b. cond b (Some j) (numbered is i.number)) (eq-eqb j.number i.number (ap (λ (x : Instance). x.number) e)) ∙ ap Some e
    by (inr t) rest = later (j.number == i.number) refl (rest t)

-- New instances.

-- each has a number of k or more, above that of the one before
abbrev pub Rising : ℕ → List Birth → Type 0
Rising k [] = ⊤
Rising k (b ∷ bs) = (k ≤ b.number) × Rising (suc b.number) bs

pub rising_from : (j k : ℕ) (bs : List Birth) → j ≤ k → Rising k bs → Rising j bs
rising_from j k [] l h = tt
rising_from j k (b ∷ bs) l h = (omega (arith, l, h.0), h.1)

one_rises : (o : Option Entry) (t : Option Text) (number : Option ℕ) (k : ℕ) (links : List Name → List (Name × ℕ)) (n : Name) (rest : List Birth) → number ≡ Some k → Rising (suc k) rest → Rising k (birth_of o t number links n ++ rest)
one_rises None t number k links n rest e h = rising_from k (suc k) rest (omega arith) h
one_rises (Some o) None number k links n rest e h = rising_from k (suc k) rest (omega arith) h
one_rises (Some o) (Some t) None k links n rest e h = absurd (false≢true (ap is_some e))
one_rises (Some o) (Some t) (Some j) k links n rest e h = (omega (arith, same_Some j k e), subst (λ m. Rising (suc m) rest) (sym (same_Some j k e)) h)

module _ (p : Plan) (r : Runtime) where
  abbrev pub number_of : Name → ℕ
  number_of n = suc (length r.instances) + place_of (new_names p r) n

  names_rise : (names : List Name) (k : ℕ) → CountsFrom k number_of names → ((n : Name) → has names n ≡ true → has (new_names p r) n ≡ true) → Rising k (births names p r)
  names_rise [] k c h = tt
  names_rise (n ∷ names) k c h =
      one_rises (entry_at p r.page.view n) (at r.texts n) (number_after p r n) k (links_after p r) n (births names p r)
      (number_new p r n (h n (or_left (same_name n n) (has names n) (true_same n n refl))) ∙ ap Some c.0)
      (names_rise names (suc k) c.1 (λ m t. h m (or_right (same_name n m) (has names m) t)))

  pub births_rise : Rising (suc (length r.instances)) (births (new_names p r) p r)
  births_rise = names_rise (new_names p r) (suc (length r.instances)) (places_count (suc (length r.instances)) (new_names p r) (filter_once _ _ (left_once r.roots p r.page.view))) (λ n h. h)
