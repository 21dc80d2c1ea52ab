-- Sorted names rise, and so do the names of what is collected over them.
use Rattle.std.proofs.Common.{◌≡◌, Bool, true, false, List, [], ◌∷◌, refl, ap, sym, ◌∙◌}
use Rattle.std.specs.Prelude.{◌&&◌, Option, Some, None, if◌then◌else◌}
use Rattle.std.proofs.lemmas.Bool.{false≢true}
use Rattle.std.specs.declared.cmp.Ordering.{Ordering}
use Rattle.std.specs.declared.cmp.Ordering.TheVariants.{Less, Equal, Greater}
use Rattle.std.specs.Ordering.{nat_cmp, is_lt, ordering_reverse}
use Rattle.std.specs.Cmp.Lexicographic.{slice_cmp}
use Rattle.std.proofs.lemmas.Cmp.{nat_list_cmp_total}
use Rattle.std.proofs.lemmas.Map.Lookups.{exact_bytes}
use Rattle.hmr_types.specs.Table.{rises}
use Rattle.core_model.specs.Names.{Name, same_name, put_name, sorted, names_of, with_entry, collect, rising}
use Rattle.core_model.specs.View.{View, table_of}
use Rattle.core_model.proofs.Naming.{true_same, both_true, and_both}

pub less_is : (o : Ordering) → is_lt o ≡ true → o ≡ Less
less_is Less h = refl
less_is Equal h = absurd (false≢true h)
less_is Greater h = absurd (false≢true h)

pub through : (n m k : Name) → is_lt (slice_cmp nat_cmp n m) ≡ true → is_lt (slice_cmp nat_cmp m k) ≡ true → is_lt (slice_cmp nat_cmp n k) ≡ true
through n m k h g = ap is_lt (nat_list_cmp_total.trans n m k (less_is (slice_cmp nat_cmp n m) h) (less_is (slice_cmp nat_cmp m k) g))

other_way : (o : Ordering) → is_lt o ≡ false → (o ≡ Equal → false ≡ true) → is_lt (ordering_reverse o) ≡ true
other_way Less h f = absurd (false≢true (sym h))
other_way Equal h f = absurd (false≢true (f refl))
other_way Greater h f = refl

-- of two different names one is below the other
else_below : (n m : Name) → same_name n m ≡ false → is_lt (slice_cmp nat_cmp n m) ≡ false → is_lt (slice_cmp nat_cmp m n) ≡ true
else_below n m s h = ap is_lt (nat_list_cmp_total.antisymm m n) ∙ other_way (slice_cmp nat_cmp n m) h (λ e. sym s ∙ true_same n m (exact_bytes n m e))

put_if : (k n m : Name) (names : List Name) (same low : Bool) → same_name n m ≡ same → is_lt (slice_cmp nat_cmp n m) ≡ low → is_lt (slice_cmp nat_cmp k n) ≡ true → rising (k ∷ (m ∷ names)) ≡ true → (is_lt (slice_cmp nat_cmp m n) ≡ true → rising (m ∷ put_name n names) ≡ true) → rising (k ∷ (if same then m ∷ names else (if low then n ∷ (m ∷ names) else m ∷ put_name n names))) ≡ true
put_if k n m names true low s l h r f = r
put_if k n m names false true s l h r f = and_both _ _ h (and_both _ _ l (both_true (is_lt (slice_cmp nat_cmp k m)) _ r).1)
put_if k n m names false false s l h r f = and_both _ _ (both_true (is_lt (slice_cmp nat_cmp k m)) _ r).0 (f (else_below n m s l))

-- a name that is put in behind a lower one
put_behind : (k n : Name) (names : List Name) → rising (k ∷ names) ≡ true → is_lt (slice_cmp nat_cmp k n) ≡ true → rising (k ∷ put_name n names) ≡ true
put_behind k n [] r h = and_both _ _ h refl
put_behind k n (m ∷ names) r h = put_if k n m names (same_name n m) (is_lt (slice_cmp nat_cmp n m)) refl refl h r (put_behind m n names (both_true (is_lt (slice_cmp nat_cmp k m)) _ r).1)

put_first : (n m : Name) (names : List Name) (same low : Bool) → same_name n m ≡ same → is_lt (slice_cmp nat_cmp n m) ≡ low → rising (m ∷ names) ≡ true → rising (if same then m ∷ names else (if low then n ∷ (m ∷ names) else m ∷ put_name n names)) ≡ true
put_first n m names true low s l r = r
put_first n m names false true s l r = and_both _ _ l r
put_first n m names false false s l r = put_behind m n names r (else_below n m s l)

pub put_rises : (n : Name) (names : List Name) → rising names ≡ true → rising (put_name n names) ≡ true
put_rises n [] r = refl
put_rises n (m ∷ names) r = put_first n m names (same_name n m) (is_lt (slice_cmp nat_cmp n m)) refl refl r

pub sorted_rises : (names : List Name) → rising (sorted names) ≡ true
sorted_rises [] = refl
sorted_rises (n ∷ names) = put_rises n (sorted names) (sorted_rises names)

pub tail_rises : (m : Name) (names : List Name) → rising (m ∷ names) ≡ true → rising names ≡ true
tail_rises m [] r = refl
tail_rises m (n ∷ names) r = (both_true (is_lt (slice_cmp nat_cmp m n)) _ r).1

-- a name left out
pub left_out : (k m : Name) (names : List Name) → rising (k ∷ (m ∷ names)) ≡ true → rising (k ∷ names) ≡ true
left_out k m [] r = refl
left_out k m (j ∷ names) r =
    let first = both_true (is_lt (slice_cmp nat_cmp k m)) _ r in
    let second = both_true (is_lt (slice_cmp nat_cmp m j)) _ first.1 in
    and_both _ _ (through k m j first.0 second.0) second.1

module _ {X : Type 0} (get : Name → Option X) where
  entry_behind : (k m : Name) (o : Option X) (names : List Name) (rows : List (Name × X)) → is_lt (slice_cmp nat_cmp k m) ≡ true → rising (k ∷ names_of rows) ≡ true → rising (m ∷ names_of rows) ≡ true → rising (k ∷ names_of (with_entry m o rows)) ≡ true
  entry_behind k m None names rows l h g = h
  entry_behind k m (Some x) names rows l h g = and_both _ _ l g

  collect_behind : (k : Name) (names : List Name) → rising (k ∷ names) ≡ true → rising (k ∷ names_of (collect get names)) ≡ true
  collect_behind k [] r = refl
  collect_behind k (m ∷ names) r = entry_behind k m (get m) names (collect get names) (both_true (is_lt (slice_cmp nat_cmp k m)) _ r).0 (collect_behind k names (left_out k m names r)) (collect_behind m names (both_true (is_lt (slice_cmp nat_cmp k m)) _ r).1)

  entry_first : (m : Name) (o : Option X) (rows : List (Name × X)) → rising (names_of rows) ≡ true → rising (m ∷ names_of rows) ≡ true → rising (names_of (with_entry m o rows)) ≡ true
  entry_first m None rows h g = h
  entry_first m (Some x) rows h g = g

  pub collect_rises : (names : List Name) → rising names ≡ true → rising (names_of (collect get names)) ≡ true
  collect_rises [] r = refl
  collect_rises (m ∷ names) r = entry_first m (get m) (collect get names) (collect_rises names (tail_rises m names r)) (collect_behind m names r)

-- the table of a view rises where its names do
pub table_rises : (view : View) → rises (table_of view) ≡ rising (names_of view)
table_rises [] = refl
table_rises (row ∷ []) = refl
table_rises (row ∷ (next ∷ rows)) = ap (λ b. is_lt (slice_cmp nat_cmp row.0 next.0) && b) (table_rises (next ∷ rows))
