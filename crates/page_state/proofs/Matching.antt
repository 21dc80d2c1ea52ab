-- One instance changes: the model's of a number, and the code's of a place.
use Rattle.std.proofs.Common.{◌≡◌, ◌≢◌, ℕ, zero, suc, Bool, true, false, List, [], ◌∷◌, refl, ap, sym, ◌∙◌}
use Rattle.std.specs.Prelude.{cond, ◌==◌, Option, Some, None, option_map, if◌then◌else◌, slice_get, slice_set, bytes_eq}
use Rattle.std.proofs.Math.Path.{subst}
use Rattle.std.proofs.lemmas.Bool.{eqb-true, eq-eqb, false≢true}
use Rattle.std.proofs.Math.Dec.{eqb-suc-zero, eqb-suc-suc}
use Rattle.std.proofs.lemmas.List.{length-set, length-map}
use Rattle.std.proofs.lemmas.Option.{none-some, same_Some}
use Rattle.std.specs.Cmp.Lexicographic.{nat_list_eq_equiv}
use Rattle.core_model.specs.Names.{Name, same_name}
use Rattle.core_model.proofs.Naming.{same_true}
use Rattle.client_model.specs.Instance as model
use Rattle.client_model.specs.Instance.{numbered, live_at, with_change}
use Rattle.client_model.specs.Linking.{number_in}
use Rattle.page_instances.specs.declared.instance.Instance.{Instance}
use Rattle.page_instances.specs.Scopes.{kept_at}
use Rattle.page_instances.specs.Seeing.{Sees}
use Rattle.live_instances.specs.Orderly.{without_number}
use Rattle.page_state.specs.Live.{Numbers, number_of, LosesNumber}
use Rattle.page_state.specs.Standing.{BothOrNone, Matches}
use Rattle.live_instances.proofs.Order.{Quiet, Ends, changed_elsewhere, changed_here, quiet_number, quiet_order, ended_number, ended_order, live_numbered, live_named}

pub set_same : {X : Type 0} (xs : List X) (i : ℕ) (w x : X) → slice_get xs i ≡ Some x → slice_get (slice_set xs i w) i ≡ Some w
set_same [] i w x h = absurd (none-some x h)
set_same (y ∷ xs) zero w x h = refl
set_same (y ∷ xs) (suc i) w x h = set_same xs i w x h

pub set_other : {X : Type 0} (xs : List X) (i j : ℕ) (w : X) → i ≢ j → slice_get (slice_set xs i w) j ≡ slice_get xs j
set_other [] i j w h = refl
set_other (x ∷ xs) zero zero w h = absurd (h refl)
set_other (x ∷ xs) zero (suc j) w h = refl
set_other (x ∷ xs) (suc i) zero w h = refl
set_other (x ∷ xs) (suc i) (suc j) w h = set_other xs i j w (λ e. h (ap suc e))

pub set_twice : {X : Type 0} (xs : List X) (i : ℕ) (x y : X) → slice_set (slice_set xs i x) i y ≡ slice_set xs i y
set_twice [] i x y = refl
set_twice (z ∷ xs) zero x y = refl
set_twice (z ∷ xs) (suc i) x y = ap (λ ys. z ∷ ys) (set_twice xs i x y)

numbered_is : (is : List model.Instance) (k : ℕ) (i : model.Instance) → numbered is k ≡ Some i → i.number ≡ k
numbered_is [] k i e = absurd (none-some i e)
numbered_is (j ∷ is) k i e = by (j.number == k) refl (numbered_is is k i) e
  where
    by : (b : Bool) → (j.number == k) ≡ b → (numbered is k ≡ Some i → i.number ≡ k) → cond b (Some j) (numbered is k) ≡ Some i → i.number ≡ k
    by true same rest e = ap (λ m. m.number) (sym (same_Some j i e)) ∙ eqb-true j.number k same
    by false same rest e = rest e

-- an instance of the page, with the model's that it stands for
pub record Found {F : Type 0} (is : List model.Instance) (k : ℕ) (c : Instance F) : Type 0 where
  pub instance : model.Instance
  pub there : numbered is k ≡ Some instance
  pub number : instance.number ≡ k
  pub sees : Sees instance c

module _ {F : Type 0} where
  pub found : (is : List model.Instance) (cs : List (Instance F)) (live : Numbers) (place : ℕ) (c : Instance F) → slice_get cs place ≡ Some c → Matches is cs live → Found is (suc place) c
  found is cs live place c there s = by (numbered is (suc place)) refl (subst (BothOrNone (numbered is (suc place))) there (s.by_number (suc place)))
    where
      by : (o : Option model.Instance) → numbered is (suc place) ≡ o → BothOrNone o (Some c) → Found is (suc place) c
      by None e b = absurd b
      by (Some i) e b = record { instance = i; there = e; number = numbered_is is (suc place) i e; sees = b }

  at_each : (f : model.Instance → model.Instance) → ((i : model.Instance) → (f i).number ≡ i.number) → (place : ℕ) (is : List model.Instance) (cs : List (Instance F)) (c d : Instance F) (i : model.Instance)
      → slice_get cs place ≡ Some c → numbered is (suc place) ≡ Some i → Sees (f i) d
      → ((k : ℕ) → BothOrNone (numbered is k) (kept_at cs k))
      → (k : ℕ) → BothOrNone (numbered (with_change (suc place) f is) k) (kept_at (slice_set cs place d) k)
  at_each f same place is cs c d i there is_there sees before zero = subst (λ o. BothOrNone {F = F} o None) (sym (changed_elsewhere f same zero (suc place) (eqb-suc-zero place) is)) (before zero)
  at_each f same place is cs c d i there is_there sees before (suc j) = by (place == j) refl
    where
      by : (b : Bool) → (place == j) ≡ b → BothOrNone (numbered (with_change (suc place) f is) (suc j)) (slice_get (slice_set cs place d) j)
      by true e =
          subst (λ m. BothOrNone (numbered (with_change (suc place) f is) (suc m)) (slice_get (slice_set cs place d) m)) (eqb-true place j e)
          (subst (λ o. BothOrNone o (slice_get (slice_set cs place d) place)) (sym (changed_here f same (suc place) is ∙ ap (option_map f) is_there))
          (subst (BothOrNone (Some (f i))) (sym (set_same cs place d c there)) sees))
      by false e = subst (λ o. BothOrNone o (slice_get (slice_set cs place d) j)) (sym (changed_elsewhere f same (suc j) (suc place) (eqb-suc-suc place j ∙ e) is)) (subst (BothOrNone (numbered is (suc j))) (sym (set_other cs place j d (λ p. false≢true (sym e ∙ eq-eqb place j p)))) (before (suc j)))

  module _ (f : model.Instance → model.Instance) (place : ℕ) (is : List model.Instance) (cs : List (Instance F)) (c d : Instance F) (i : model.Instance)
      (there : slice_get cs place ≡ Some c) (is_there : numbered is (suc place) ≡ Some i) (sees : Sees (f i) d) where
    -- a change that keeps number, name and fate
    pub matches_changed : Quiet f → (live : Numbers) → Matches is cs live → Matches (with_change (suc place) f is) (slice_set cs place d) live
    matches_changed q live m = record {
      count = length-map is _ ∙ m.count ∙ sym (length-set cs place d);
      orderly = quiet_order (suc place) f q is m.orderly;
      by_number = at_each f q.number place is cs c d i there is_there sees m.by_number;
      by_name = λ n. quiet_number (suc place) f q n is ∙ m.by_name n;
    }

    -- an end, by which the name loses the number
    pub matches_ended : Ends f → (before after : Numbers) → i.name ≡ c.name → LosesNumber c.name (suc place) before after → Matches is cs before → Matches (with_change (suc place) f is) (slice_set cs place d) after
    matches_ended ends before after named loses m = record {
      count = length-map is _ ∙ m.count ∙ sym (length-set cs place d);
      orderly = ended_order (suc place) f ends is m.orderly;
      by_number = at_each f ends.number place is cs c d i there is_there sees m.by_number;
      by_name = λ n. ended_number (suc place) f ends n is (λ k. m.orderly.single n k) ∙ by n (bytes_eq n c.name) refl ∙ sym (loses n);
    }
      where
        -- no other name has the number
        has_it : (n : Name) (o : Option model.Instance) → live_at is n ≡ o → bytes_eq n c.name ≡ false → without_number (suc place) (number_in o) ≡ number_in o
        has_it n None e other = refl
        has_it n (Some j) e other = at_number (j.number == suc place) refl
          where
            at_number : (b : Bool) → (j.number == suc place) ≡ b → (if b then None else Some j.number) ≡ Some j.number
            at_number true t =
                let same : j ≡ i = same_Some _ _ (sym (live_numbered n is m.orderly.numbers j e) ∙ ap (numbered is) (eqb-true j.number (suc place) t) ∙ is_there) in
                absurd (false≢true (sym other ∙ nat_list_eq_equiv.symm n c.name ∙ ap (λ x. same_name x n) (sym named ∙ ap (λ x. x.name) (sym same)) ∙ live_named n is j e))
            at_number false t = refl

        by : (n : Name) (b : Bool) → bytes_eq n c.name ≡ b → without_number (suc place) (number_in (live_at is n)) ≡ (if b then without_number (suc place) (number_of before c.name) else number_of before n)
        by n true t = ap (λ x. without_number (suc place) (number_in (live_at is x))) (same_true n c.name t) ∙ ap (without_number (suc place)) (m.by_name c.name)
        by n false t = has_it n (live_at is n) refl t ∙ m.by_name n

pub set_self : {X : Type 0} (xs : List X) (i : ℕ) (x : X) → slice_get xs i ≡ Some x → slice_set xs i x ≡ xs
set_self [] i x h = refl
set_self (y ∷ xs) zero x h = ap (λ z. z ∷ xs) (sym (same_Some y x h))
set_self (y ∷ xs) (suc i) x h = ap (λ ys. y ∷ ys) (set_self xs i x h)
