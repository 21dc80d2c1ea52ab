-- Names in a row and their places: an exchange of two places, a name more at the end, and a name less.
use Rattle.std.proofs.Common.{◌≡◌, ◌⊎◌, inl, inr, ℕ, ◌<◌, ◌≤◌, ◌+◌, ◌-◌, Bool, true, false, List, [], ◌∷◌, ◌++◌, length, take, get_or, Option, Some, None, refl, ap, sym, ◌∙◌, arith}
use Rattle.std.specs.Prelude.{slice_get, if◌then◌else◌}
use Rattle.std.specs.BTreeMap.{IsOrdered}
use Rattle.std.specs.Cmp.Lexicographic.{slice_cmp}
use Rattle.std.specs.List.{swap}
use Rattle.std.specs.Option.{option_map}
use Rattle.std.specs.Ordering.{nat_cmp}
use Rattle.std.proofs.lemmas.Bool.{cases_eq, cases_lt, false≢true}
use Rattle.std.proofs.lemmas.Bool.Decides.{nat_tests}
use Rattle.std.proofs.lemmas.List.{get_or-take, get_or_append_left, get_or_push, length-take, length_push}
use Rattle.std.proofs.lemmas.List.Edits.{Swapped, length-swap, swapped_from_swap}
use Rattle.std.proofs.lemmas.Option.{same_Some, slice_get-get_or, slice_get_past, slice_get_read, slice_get_within}
use Prim.{⊥}
use Rattle.core_model.specs.Names.{Name, same_name, at}
use Rattle.core_model.proofs.Naming.{same_true, true_same}
use Rattle.client_queue.specs.Row.{IsRow, exchanged}
use Rattle.client_queue.specs.declared.name_row.NameRow.{NameRow}

abbrev pub Places : Type 0
Places = List (Name × ℕ)

-- where places come to

exchanged_first : (i j : ℕ) → exchanged i j i ≡ j
exchanged_first i j = grind (arith, nat_tests)

exchanged_second : (i j : ℕ) → exchanged i j j ≡ i
exchanged_second i j = grind (arith, nat_tests)

exchanged_other : (i j p : ℕ) → (p ≡ i → ⊥) → (p ≡ j → ⊥) → exchanged i j p ≡ p
exchanged_other i j p f g = grind (arith, nat_tests)

exchanged_twice : (i j p : ℕ) → exchanged i j (exchanged i j p) ≡ p
exchanged_twice i j p = grind (arith, nat_tests)

-- names at places

-- each name is found at the place that its own has come to
swapped_get : (names : List Name) (i j p : ℕ) → i < length names → j < length names → slice_get (swap names i j) (exchanged i j p) ≡ slice_get names p
swapped_get names i j p hi hj = by (cases_eq p i) (cases_eq p j)
  where
    len : length (swap names i j) ≡ length names
    len = length-swap names i j

    by_index : Swapped (λ k. get_or names k []) (λ k. get_or (swap names i j) k []) i j
    by_index = swapped_from_swap names (swap names i j) i j [] hi hj refl

    other : (p ≡ i → ⊥) → (p ≡ j → ⊥) → (p < length names) ⊎ (length names ≤ p) → slice_get (swap names i j) p ≡ slice_get names p
    other f g (inl h) = slice_get-get_or (swap names i j) p [] (omega (arith, len)) ∙ ap Some (by_index.2 p f g) ∙ sym (slice_get-get_or names p [] h)
    other f g (inr h) = slice_get_past (swap names i j) p (omega (arith, len)) ∙ sym (slice_get_past names p h)

    first : slice_get (swap names i j) (exchanged i j i) ≡ slice_get names i
    first = ap (slice_get (swap names i j)) (exchanged_first i j) ∙ slice_get-get_or (swap names i j) j [] (omega (arith, len)) ∙ ap Some by_index.1 ∙ sym (slice_get-get_or names i [] hi)

    second : slice_get (swap names i j) (exchanged i j j) ≡ slice_get names j
    second = ap (slice_get (swap names i j)) (exchanged_second i j) ∙ slice_get-get_or (swap names i j) i [] (omega (arith, len)) ∙ ap Some by_index.0 ∙ sym (slice_get-get_or names j [] hj)

    by : (p ≡ i) ⊎ (p ≡ i → ⊥) → (p ≡ j) ⊎ (p ≡ j → ⊥) → slice_get (swap names i j) (exchanged i j p) ≡ slice_get names p
    by (inl e) d = ap (λ k. slice_get (swap names i j) (exchanged i j k)) e ∙ first ∙ ap (slice_get names) (sym e)
    by (inr f) (inl e) = ap (λ k. slice_get (swap names i j) (exchanged i j k)) e ∙ second ∙ ap (slice_get names) (sym e)
    by (inr f) (inr g) = ap (slice_get (swap names i j)) (exchanged_other i j p f g) ∙ other f g (cases_lt p (length names))

push_get_last : (names : List Name) (n : Name) → slice_get (names ++ n ∷ []) (length names) ≡ Some n
push_get_last names n = slice_get-get_or (names ++ n ∷ []) (length names) n (omega (arith, length_push names n)) ∙ ap Some (get_or_push names n n (length names) refl)

push_get_front : (names : List Name) (n : Name) (p : ℕ) → p < length names → slice_get (names ++ n ∷ []) p ≡ slice_get names p
push_get_front names n p h = slice_get-get_or (names ++ n ∷ []) p n (omega (arith, length_push names n)) ∙ ap Some (get_or_append_left names (n ∷ []) n p h) ∙ sym (slice_get-get_or names p n h)

pub take_get : (names : List Name) (k p : ℕ) → p < k → slice_get (take k names) p ≡ slice_get names p
take_get names k p h = by (cases_lt p (length names))
  where
    by : (p < length names) ⊎ (length names ≤ p) → slice_get (take k names) p ≡ slice_get names p
    by (inl g) = slice_get-get_or (take k names) p [] (omega (arith, length-take k names)) ∙ ap Some (get_or-take k names p [] h) ∙ sym (slice_get-get_or names p [] g)
    by (inr g) = slice_get_past (take k names) p (omega (arith, length-take k names)) ∙ sym (slice_get_past names p g)

-- rows

module _ (row : NameRow) (r : IsRow row) where
  -- two names of one place are the same
  pub one_place : (n m : Name) (p q : ℕ) → at row.places.entries n ≡ Some p → at row.places.entries m ≡ Some q → q ≡ p → n ≡ m
  one_place n m p q e f h = same_Some n m (sym (r.stands n p e) ∙ ap (slice_get row.names.items) (sym h) ∙ r.stands m q f)

  pub apart : (n m : Name) (p q : ℕ) → at row.places.entries n ≡ Some p → at row.places.entries m ≡ Some q → same_name n m ≡ false → q ≡ p → ⊥
  apart n m p q e f s h = false≢true (sym s ∙ true_same n m (one_place n m p q e f h))

  pub place_within : (n : Name) (p : ℕ) → at row.places.entries n ≡ Some p → p < length row.names.items
  place_within n p e = slice_get_within row.names.items p n (r.stands n p e)

  module _ (i j : ℕ) (hi : i < length row.names.items) (hj : j < length row.names.items) where
    read : (moved : List Name) (k : ℕ) (b : Name) → moved ≡ swap row.names.items i j → k < length row.names.items → b ≡ get_or moved k b → Some b ≡ slice_get (swap row.names.items i j) k
    read moved k b e h g = sym (slice_get_read (swap row.names.items i j) (length row.names.items) k b (sym (length-swap row.names.items i j)) h (g ∙ ap (λ l. get_or l k b) e))

    -- what two new places in the map come to
    pub places_exchanged : (a b : Name) (moved : List Name) (mid new : Places) → moved ≡ swap row.names.items i j → b ≡ get_or moved i b → a ≡ get_or moved j a
        → ((m : Name) → at mid m ≡ (if same_name b m then Some i else at row.places.entries m)) → ((m : Name) → at new m ≡ (if same_name a m then Some j else at mid m))
        → (m : Name) → at new m ≡ option_map (exchanged i j) (at row.places.entries m)
    places_exchanged a b moved mid new names read_b read_a f g m = g m ∙ by (same_name a m) (same_name b m) refl refl (f m)
      where
        at_a : at row.places.entries a ≡ Some i
        at_a = r.told a i (sym (swapped_get row.names.items i j i hi hj) ∙ ap (slice_get (swap row.names.items i j)) (exchanged_first i j) ∙ sym (read moved j a names hj read_a))

        at_b : at row.places.entries b ≡ Some j
        at_b = r.told b j (sym (swapped_get row.names.items i j j hi hj) ∙ ap (slice_get (swap row.names.items i j)) (exchanged_second i j) ∙ sym (read moved i b names hi read_b))

        same : (o : Option ℕ) → at row.places.entries m ≡ o → same_name a m ≡ false → same_name b m ≡ false → o ≡ option_map (exchanged i j) o
        same None e s t = refl
        same (Some q) e s t = ap Some (sym (exchanged_other i j q (apart a m i q at_a e s) (apart b m j q at_b e t)))

        by : (s t : Bool) → same_name a m ≡ s → same_name b m ≡ t → at mid m ≡ (if t then Some i else at row.places.entries m) → (if s then Some j else at mid m) ≡ option_map (exchanged i j) (at row.places.entries m)
        by true t s e h = sym (ap (option_map (exchanged i j)) (ap (at row.places.entries) (sym (same_true a m s)) ∙ at_a) ∙ ap Some (exchanged_first i j))
        by false true s e h = h ∙ sym (ap (option_map (exchanged i j)) (ap (at row.places.entries) (sym (same_true b m e)) ∙ at_b) ∙ ap Some (exchanged_second i j))
        by false false s e h = h ∙ same (at row.places.entries m) refl s e

    -- the names stand at their places after an exchange
    pub row_exchanged : (new : NameRow) → IsOrdered (slice_cmp nat_cmp) new.places → new.names.items ≡ swap row.names.items i j → ((m : Name) → at new.places.entries m ≡ option_map (exchanged i j) (at row.places.entries m)) → IsRow new
    row_exchanged new o names places = record {
      ordered = o;
      stands = λ m p h. stood m p (at row.places.entries m) refl (sym (places m) ∙ h);
      told = λ m p h. places m ∙ ap (option_map (exchanged i j)) (r.told m (exchanged i j p) (back p ∙ ap (λ l. slice_get l p) (sym names) ∙ h)) ∙ ap Some (exchanged_twice i j p);
    }
      where
        back : (p : ℕ) → slice_get row.names.items (exchanged i j p) ≡ slice_get (swap row.names.items i j) p
        back p = sym (swapped_get row.names.items i j (exchanged i j p) hi hj) ∙ ap (slice_get (swap row.names.items i j)) (exchanged_twice i j p)

        stood : (m : Name) (p : ℕ) (x : Option ℕ) → at row.places.entries m ≡ x → option_map (exchanged i j) x ≡ Some p → slice_get new.names.items p ≡ Some m
        stood m p None e h = absurd (cc)
        stood m p (Some q) e h = ap (λ l. slice_get l p) names ∙ ap (slice_get (swap row.names.items i j)) (sym (same_Some (exchanged i j q) p h)) ∙ swapped_get row.names.items i j q hi hj ∙ r.stands m q e

  -- a name more at the end
  pub row_pushed : (n : Name) (new : NameRow) → at row.places.entries n ≡ None → IsOrdered (slice_cmp nat_cmp) new.places → new.names.items ≡ row.names.items ++ n ∷ [] → ((m : Name) → at new.places.entries m ≡ (if same_name n m then Some (length row.names.items) else at row.places.entries m)) → IsRow new
  row_pushed n new free o names places = record {
    ordered = o;
    stands = λ m p h. ap (λ l. slice_get l p) names ∙ stood m p (same_name n m) refl (sym (places m) ∙ h);
    told = λ m p h. places m ∙ tells m p (sym (ap (λ l. slice_get l p) names) ∙ h) (cases_lt p (length row.names.items)) (same_name n m) refl;
  }
    where
      stood : (m : Name) (p : ℕ) (s : Bool) → same_name n m ≡ s → (if s then Some (length row.names.items) else at row.places.entries m) ≡ Some p → slice_get (row.names.items ++ n ∷ []) p ≡ Some m
      stood m p true s h = ap (slice_get (row.names.items ++ n ∷ [])) (sym (same_Some (length row.names.items) p h)) ∙ push_get_last row.names.items n ∙ ap Some (same_true n m s)
      stood m p false s h = push_get_front row.names.items n p (place_within m p h) ∙ r.stands m p h

      at_end : (p : ℕ) → length row.names.items ≤ p → p < length (row.names.items ++ n ∷ []) → p ≡ length row.names.items
      at_end p h k = omega (arith, length_push row.names.items n)

      tells : (m : Name) (p : ℕ) → slice_get (row.names.items ++ n ∷ []) p ≡ Some m → (p < length row.names.items) ⊎ (length row.names.items ≤ p) → (s : Bool) → same_name n m ≡ s → (if s then Some (length row.names.items) else at row.places.entries m) ≡ Some p
      tells m p h (inl k) true s = absurd (none (sym free ∙ ap (at row.places.entries) (same_true n m s) ∙ r.told m p (sym (push_get_front row.names.items n p k) ∙ h)))
        where
          none : None ≡ Some p → ⊥
          none e = absurd (cc)
      tells m p h (inl k) false s = r.told m p (sym (push_get_front row.names.items n p k) ∙ h)
      tells m p h (inr k) true s = ap Some (sym (at_end p k (slice_get_within (row.names.items ++ n ∷ []) p m h)))
      tells m p h (inr k) false s = absurd (false≢true (sym s ∙ true_same n m (same_Some n m (sym (push_get_last row.names.items n) ∙ ap (slice_get (row.names.items ++ n ∷ [])) (sym (at_end p k (slice_get_within (row.names.items ++ n ∷ []) p m h))) ∙ h))))

  -- the last name less
  pub row_popped : (n : Name) (last : ℕ) (new : NameRow) → length row.names.items ≡ last + 1 → at row.places.entries n ≡ Some last → IsOrdered (slice_cmp nat_cmp) new.places → new.names.items ≡ take last row.names.items → ((m : Name) → at new.places.entries m ≡ (if same_name n m then None else at row.places.entries m)) → IsRow new
  row_popped n last new len there o names places = record {
    ordered = o;
    stands = λ m p h. ap (λ l. slice_get l p) names ∙ stood m p (same_name n m) refl (sym (places m) ∙ h);
    told = λ m p h. places m ∙ tells m p (sym (ap (λ l. slice_get l p) names) ∙ h) (same_name n m) refl;
  }
    where
      below : (p : ℕ) → p < length row.names.items → (p ≡ last → ⊥) → p < last
      below p h f = omega (arith, len)

      stood : (m : Name) (p : ℕ) (s : Bool) → same_name n m ≡ s → (if s then None else at row.places.entries m) ≡ Some p → slice_get (take last row.names.items) p ≡ Some m
      stood m p true s h = absurd (cc)
      stood m p false s h = take_get row.names.items last p (below p (place_within m p h) (apart n m last p there h s)) ∙ r.stands m p h

      short : (p : ℕ) → p < length (take last row.names.items) → p < last
      short p h = omega (arith, length-take last row.names.items)

      tells : (m : Name) (p : ℕ) → slice_get (take last row.names.items) p ≡ Some m → (s : Bool) → same_name n m ≡ s → (if s then None else at row.places.entries m) ≡ Some p
      tells m p h s e = by s e (r.told m p (sym (take_get row.names.items last p (short p (slice_get_within (take last row.names.items) p m h))) ∙ h)) (short p (slice_get_within (take last row.names.items) p m h))
        where
          by : (s : Bool) → same_name n m ≡ s → at row.places.entries m ≡ Some p → p < last → (if s then None else at row.places.entries m) ≡ Some p
          by true e t k = absurd (omega (arith, k, same_Some last p (sym there ∙ ap (at row.places.entries) (same_true n m e) ∙ t)))
          by false e t k = t

-- a name less, which has come to the last place before
module _ (row : NameRow) (n : Name) (p last : ℕ) (there : at row.places.entries n ≡ Some p) (within : p < length row.names.items) (at_last : last ≡ length row.names.items - 1) (mid : NameRow) (r : IsRow mid)
    (moved : (m : Name) → at mid.places.entries m ≡ option_map (exchanged p last) (at row.places.entries m)) (names : mid.names.items ≡ swap row.names.items p last) where
  len : length mid.names.items ≡ last + 1
  len = ap length names ∙ length-swap row.names.items p last ∙ omega (arith, within, at_last)

  pub length_removed : (new : List Name) (k : ℕ) → k ≡ last → new ≡ take k mid.names.items → length new + 1 ≡ length row.names.items
  length_removed new k same e = omega (arith, len, within, at_last, same, ap length e, length-take k mid.names.items)

  module _ (places : Places) (left : (m : Name) → at places m ≡ (if same_name n m then None else at mid.places.entries m)) where
    pub places_removed : (m : Name) → at places m ≡ (if same_name n m then None else option_map (exchanged p (length row.names.items - 1)) (at row.places.entries m))
    places_removed m = left m ∙ ap (λ o. if same_name n m then None else o) (moved m) ∙ ap (λ k. if same_name n m then None else option_map (exchanged p k) (at row.places.entries m)) at_last

  pub row_removed : (new : NameRow) (k : ℕ) → IsOrdered (slice_cmp nat_cmp) new.places → k ≡ last → new.names.items ≡ take k mid.names.items
      → ((m : Name) → at new.places.entries m ≡ (if same_name n m then None else at mid.places.entries m)) → IsRow new
  row_removed new k o same e left = row_popped mid r n last new len (moved n ∙ ap (option_map (exchanged p last)) there ∙ ap Some (exchanged_first p last)) o
      (e ∙ ap (λ i. take i mid.names.items) same) left
