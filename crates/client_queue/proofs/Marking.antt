-- Which names of a row are marked: those of the first places.
use Rattle.std.proofs.Common.{◌≡◌, ◌⊎◌, inl, inr, ℕ, ◌<◌, ◌≤◌, ◌+◌, ◌-◌, Bool, true, false, List, [], ◌∷◌, length, take, get_or, Contains, Option, Some, None, refl, ap, sym, ◌∙◌, arith}
use Rattle.std.specs.Prelude.{◌||◌, nat_lt, not, is_none, slice_get, if◌then◌else◌}
use Rattle.std.specs.BTreeMap.{is_at}
use Rattle.std.specs.Cmp.{eq_by_cmp_equiv}
use Rattle.std.specs.Cmp.Lexicographic.{slice_cmp}
use Rattle.std.specs.List.Sorted.{IsStrictlySortedBy}
use Rattle.std.specs.Map.{keys_of}
use Rattle.std.specs.Option.{option_map}
use Rattle.std.specs.Ordering.{nat_cmp, eq_by_cmp}
use Rattle.std.proofs.Math.Path.{subst}
use Rattle.std.proofs.lemmas.Bool.{cases_lt, false≢true, lt-ltb, le-ltb, ltb-true, ltb-false}
use Rattle.std.proofs.lemmas.Bool.Decides.{nat_tests}
use Rattle.std.proofs.lemmas.Cmp.{nat_list_cmp_total}
use Rattle.std.proofs.lemmas.List.{length-take}
use Rattle.std.proofs.lemmas.Map.{lookup-none}
use Rattle.std.proofs.lemmas.Map.Entries.{none_past_head}
use Rattle.std.proofs.lemmas.Map.Keys.{sorted_tail, IsDistinct-from_sorted}
use Rattle.std.proofs.lemmas.Option.{same_Some, get_or_from_slice_get, slice_get-get_or, slice_get_within}
use Prim.{⊥}
use Rattle.core_model.specs.Names.{Name, same_name, at, has, sorted}
use Rattle.core_model.proofs.Naming.{same_true, true_same, has_is, same_test, sorted_has}
use Rattle.client_queue.specs.Queue.{is_none_left, mark_in, mark_where_known, marked_of}
use Rattle.client_queue.specs.Row.{IsRow, exchanged, mark_of, marks_of}
use Rattle.client_queue.specs.declared.name_row.NameRow.{NameRow}
use Rattle.client_queue.proofs.Exchanging.{Places, apart, take_get}
use Rattle.client_queue.proofs.Knowing.{found, key_is}

-- the marks, looked up

at_step : (count p : ℕ) (b : Bool) (x : Option Bool) (y : Option ℕ) → x ≡ mark_of count y → (if b then Some (nat_lt p count) else x) ≡ mark_of count (if b then Some p else y)
at_step count p true x y e = refl
at_step count p false x y e = e

pub marks_at : (count : ℕ) (places : Places) (m : Name) → at (marks_of count places) m ≡ mark_of count (at places m)
marks_at count [] m = refl
marks_at count (row ∷ rows) m = at_step count row.1 (same_name row.0 m) (at (marks_of count rows) m) (at rows m) (marks_at count rows m)

-- the tests of places, where one has come elsewhere

marked_apart : (p count q : ℕ) → count ≤ p → (q ≡ p → ⊥) → nat_lt (exchanged p count q) (count + 1) ≡ nat_lt q count
marked_apart p count q h f = grind (arith, nat_tests)

unmarked_apart : (p count q : ℕ) → p < count + 1 → (q ≡ p → ⊥) → nat_lt (exchanged p count q) count ≡ nat_lt q (count + 1)
unmarked_apart p count q h f = grind (arith, nat_tests)

removed_apart : (p last count q : ℕ) → count ≤ p → p ≤ last → (q ≡ p → ⊥) → nat_lt (exchanged p last q) count ≡ nat_lt q count
removed_apart p last count q h k f = grind (arith, nat_tests)

-- the marks after a change

module _ (row : NameRow) (r : IsRow row) (n : Name) (p : ℕ) (there : at row.places.entries n ≡ Some p) where
  -- each place comes to another, and the count of the marked changes so that only the name's mark does
  moved : (f : ℕ → ℕ) (count new_count : ℕ) → ((q : ℕ) → (q ≡ p → ⊥) → nat_lt (f q) new_count ≡ nat_lt q count) → (m : Name) → mark_of new_count (option_map f (at row.places.entries m)) ≡ (if same_name n m then Some (nat_lt (f p) new_count) else mark_of count (at row.places.entries m))
  moved f count new_count g m = by (same_name n m) refl
    where
      other : (x : Option ℕ) → at row.places.entries m ≡ x → same_name n m ≡ false → mark_of new_count (option_map f x) ≡ mark_of count x
      other None e s = refl
      other (Some q) e s = ap Some (g q (apart row r n m p q there e s))

      by : (s : Bool) → same_name n m ≡ s → mark_of new_count (option_map f (at row.places.entries m)) ≡ (if s then Some (nat_lt (f p) new_count) else mark_of count (at row.places.entries m))
      by true s = ap (λ x. mark_of new_count (option_map f x)) (ap (at row.places.entries) (sym (same_true n m s)) ∙ there)
      by false s = other (at row.places.entries m) refl s

  -- the name has this mark, and the others keep theirs
  set : (mark : Bool) (f : ℕ → ℕ) (count new_count : ℕ) → nat_lt (f p) new_count ≡ mark → ((q : ℕ) → (q ≡ p → ⊥) → nat_lt (f q) new_count ≡ nat_lt q count) → (new : Places) → ((m : Name) → at new m ≡ option_map f (at row.places.entries m))
      → (m : Name) → at (marks_of new_count new) m ≡ (if same_name n m then mark_where_known mark (at (marks_of count row.places.entries) n) else at (marks_of count row.places.entries) m)
  set mark f count new_count here g new h m = marks_at new_count new m ∙ ap (mark_of new_count) (h m) ∙ moved f count new_count g m
      ∙ ap (λ x. if same_name n m then Some (nat_lt (f p) new_count) else x) (sym (marks_at count row.places.entries m))
      ∙ ap (λ x. if same_name n m then x else at (marks_of count row.places.entries) m) (ap Some here ∙ sym (ap (mark_where_known mark) (marks_at count row.places.entries n ∙ ap (mark_of count) there)))

  pub marked_now : (count : ℕ) → count ≤ p → (new : Places) → ((m : Name) → at new m ≡ option_map (exchanged p count) (at row.places.entries m))
      → (m : Name) → at (marks_of (count + 1) new) m ≡ (if same_name n m then mark_where_known true (at (marks_of count row.places.entries) n) else at (marks_of count row.places.entries) m)
  marked_now count h = set true (exchanged p count) count (count + 1) here (λ q f. marked_apart p count q h f)
    where
      here : nat_lt (exchanged p count p) (count + 1) ≡ true
      here = grind (arith, nat_tests)

  pub unmarked_now : (count : ℕ) → p < count → (new : Places) → ((m : Name) → at new m ≡ option_map (exchanged p (count - 1)) (at row.places.entries m))
      → (m : Name) → at (marks_of (count - 1) new) m ≡ (if same_name n m then mark_where_known false (at (marks_of count row.places.entries) n) else at (marks_of count row.places.entries) m)
  unmarked_now count h = set false (exchanged p (count - 1)) count (count - 1) here (λ q f. unmarked_apart p (count - 1) q (omega (arith, h)) f ∙ ap (nat_lt q) (omega (arith, h)))
    where
      here : nat_lt (exchanged p (count - 1) p) (count - 1) ≡ false
      here = grind (arith, nat_tests)

  pub removed_now : (last count : ℕ) → count ≤ p → p ≤ last → (new : Places) → ((m : Name) → at new m ≡ (if same_name n m then None else option_map (exchanged p last) (at row.places.entries m)))
      → (m : Name) → at (marks_of count new) m ≡ (if same_name n m then None else at (marks_of count row.places.entries) m)
  removed_now last count h k new g m = marks_at count new m ∙ ap (mark_of count) (g m) ∙ by (same_name n m) (moved (exchanged p last) count count (λ q f. removed_apart p last count q h k f) m)
    where
      by : (s : Bool) → mark_of count (option_map (exchanged p last) (at row.places.entries m)) ≡ (if s then Some (nat_lt (exchanged p last p) count) else mark_of count (at row.places.entries m)) → mark_of count (if s then None else option_map (exchanged p last) (at row.places.entries m)) ≡ (if s then None else at (marks_of count row.places.entries) m)
      by true e = refl
      by false e = e ∙ sym (marks_at count row.places.entries m)

-- where nothing changes

same_step : (n m : Name) (w : Option Bool) (rows : List (Name × Bool)) (b : Bool) → (b ≡ true → n ≡ m) → at rows n ≡ w → at rows m ≡ (if b then w else at rows m)
same_step n m w rows true f e = ap (at rows) (sym (f refl)) ∙ e
same_step n m w rows false f e = refl

pub unchanged : (n : Name) (w : Option Bool) (rows : List (Name × Bool)) → at rows n ≡ w → (m : Name) → at rows m ≡ (if same_name n m then w else at rows m)
unchanged n w rows e m = same_step n m w rows (same_name n m) (same_true n m) e

same_mark : (mark b : Bool) (o : Option Bool) → b ≡ mark → o ≡ Some b → o ≡ mark_where_known mark o
same_mark mark b o e f = f ∙ ap Some e ∙ ap (mark_where_known mark) (sym f)

same_none : (mark : Bool) (o : Option Bool) → o ≡ None → o ≡ mark_where_known mark o
same_none mark o e = e ∙ ap (mark_where_known mark) (sym e)

module _ (count : ℕ) (places : Places) (n : Name) where
  -- the name has this mark
  pub stays : (mark : Bool) (p : ℕ) → at places n ≡ Some p → nat_lt p count ≡ mark → (m : Name) → at (marks_of count places) m ≡ (if same_name n m then mark_where_known mark (at (marks_of count places) n) else at (marks_of count places) m)
  stays mark p there e = unchanged n _ (marks_of count places) (same_mark mark (nat_lt p count) (at (marks_of count places) n) e (marks_at count places n ∙ ap (mark_of count) there))

  -- the name isn't known
  pub stays_unknown : (mark : Bool) → at places n ≡ None → (m : Name) → at (marks_of count places) m ≡ (if same_name n m then mark_where_known mark (at (marks_of count places) n) else at (marks_of count places) m)
  stays_unknown mark free = unchanged n _ (marks_of count places) (same_none mark (at (marks_of count places) n) (marks_at count places n ∙ ap (mark_of count) free))

  -- the name is known
  pub stays_known : is_none (at places n) ≡ false → (m : Name) → at (marks_of count places) m ≡ (if same_name n m then Some (mark_in (at (marks_of count places) n)) else at (marks_of count places) m)
  stays_known h = unchanged n _ (marks_of count places) (marks_at count places n ∙ by (at places n) h ∙ ap (λ o. Some (mark_in o)) (sym (marks_at count places n)))
    where
      by : (o : Option ℕ) → is_none o ≡ false → mark_of count o ≡ Some (mark_in (mark_of count o))
      by None h = absurd (false≢true (sym h))
      by (Some p) h = refl

  -- a name that was unmarked isn't among the first
  pub unmarked_place : (p : ℕ) (o : Option Bool) → at places n ≡ Some p → at (marks_of count places) n ≡ mark_where_known false o → count ≤ p
  unmarked_place p o there e = by o (sym (ap (mark_of count) there) ∙ sym (marks_at count places n) ∙ e)
    where
      by : (o : Option Bool) → Some (nat_lt p count) ≡ mark_where_known false o → count ≤ p
      by None e = absurd (cc)
      by (Some mark) e = ltb-false p count (same_Some (nat_lt p count) false e)

-- a name that is unmarked first, and then left out

module _ (n : Name) (w : Option Bool) (old mid : List (Name × Bool)) (f : (m : Name) → at mid m ≡ (if same_name n m then w else at old m)) where
  pub at_name : at mid n ≡ w
  at_name = f n ∙ ap (λ b. if b then w else at old n) (true_same n n refl)

  pub left_unknown : at mid n ≡ None → (m : Name) → at mid m ≡ (if same_name n m then None else at old m)
  left_unknown e m = by (same_name n m) refl (f m)
    where
      by : (b : Bool) → same_name n m ≡ b → at mid m ≡ (if b then w else at old m) → at mid m ≡ (if b then None else at old m)
      by true s g = ap (at mid) (sym (same_true n m s)) ∙ e
      by false s g = g

  pub left_out : (new : List (Name × Bool)) → ((m : Name) → at new m ≡ (if same_name n m then None else at mid m)) → (m : Name) → at new m ≡ (if same_name n m then None else at old m)
  left_out new g m = by (same_name n m) (f m) (g m)
    where
      by : (b : Bool) → at mid m ≡ (if b then w else at old m) → at new m ≡ (if b then None else at mid m) → at new m ≡ (if b then None else at old m)
      by true h k = k
      by false h k = k ∙ h

-- a name more, at the end of the row, isn't marked
pub entered_now : (n : Name) (count len : ℕ) (old new : Places) → count ≤ len → at old n ≡ None → ((m : Name) → at new m ≡ (if same_name n m then Some len else at old m))
    → (m : Name) → at (marks_of count new) m ≡ (if same_name n m then Some (mark_in (at (marks_of count old) n)) else at (marks_of count old) m)
entered_now n count len old new h free g m = marks_at count new m ∙ ap (mark_of count) (g m) ∙ by (same_name n m)
  where
    by : (s : Bool) → mark_of count (if s then Some len else at old m) ≡ (if s then Some (mark_in (at (marks_of count old) n)) else at (marks_of count old) m)
    by true = ap Some (le-ltb len count h ∙ sym (ap mark_in (marks_at count old n ∙ ap (mark_of count) free)))
    by false = sym (marks_at count old m)

-- the marked names of a list in order

no_more : (row : Name × Bool) (rows : List (Name × Bool)) (q : Name) → IsStrictlySortedBy (slice_cmp nat_cmp) (keys_of (row ∷ rows)) → same_name row.0 q ≡ true → at rows q ≡ None
no_more row rows q s h = found rows q ∙ lookup-none (is_at (slice_cmp nat_cmp q)) rows (none_past_head {eq = eq_by_cmp (slice_cmp nat_cmp)} (eq_by_cmp_equiv nat_list_cmp_total) q row rows (IsDistinct-from_sorted (slice_cmp nat_cmp) (keys_of (row ∷ rows)) s) (key_is q row.0 ∙ h))

has_step : (row : Name × Bool) (rows : List (Name × Bool)) (n : Name) (mark same : Bool) → same_name row.0 n ≡ same → (same ≡ true → at rows n ≡ None) → has (marked_of rows) n ≡ mark_in (at rows n) → has (if mark then row.0 ∷ marked_of rows else marked_of rows) n ≡ mark_in (if same then Some mark else at rows n)
has_step row rows n true true e f h = ap (λ b. b || has (marked_of rows) n) e
has_step row rows n true false e f h = ap (λ b. b || has (marked_of rows) n) e ∙ h
has_step row rows n false true e f h = h ∙ ap mark_in (f refl)
has_step row rows n false false e f h = h

has_marked : (rows : List (Name × Bool)) → IsStrictlySortedBy (slice_cmp nat_cmp) (keys_of rows) → (n : Name) → has (marked_of rows) n ≡ mark_in (at rows n)
has_marked [] s n = refl
has_marked (row ∷ rows) s n = has_step row rows n row.1 (same_name row.0 n) refl (no_more row rows n s) (has_marked rows (sorted_tail (slice_cmp nat_cmp) row.0 (keys_of rows) s) n)

-- the marked names

module _ (row : NameRow) (r : IsRow row) (count : ℕ) (within : count ≤ length row.names.items) where
  front_marked : (m : Name) → has (take count row.names.items) m ≡ true → mark_in (mark_of count (at row.places.entries m)) ≡ true
  front_marked m h = by ((has_is (take count row.names.items) m).1 h)
    where
      by : Contains (take count row.names.items) m → mark_in (mark_of count (at row.places.entries m)) ≡ true
      by w =
          let low : w.0 < count = omega (arith, w.1, length-take count row.names.items) in
          let stands : slice_get row.names.items w.0 ≡ Some m = sym (take_get row.names.items count w.0 low) ∙ slice_get-get_or (take count row.names.items) w.0 m w.1 ∙ ap Some w.2 in
          ap (λ o. mark_in (mark_of count o)) (r.told m w.0 stands) ∙ lt-ltb w.0 count low

  marked_front : (m : Name) → mark_in (mark_of count (at row.places.entries m)) ≡ true → has (take count row.names.items) m ≡ true
  marked_front m h = by (at row.places.entries m) refl h
    where
      in_front : (q : ℕ) → slice_get row.names.items q ≡ Some m → q < count → Contains (take count row.names.items) m
      in_front q e low =
          let there : slice_get (take count row.names.items) q ≡ Some m = take_get row.names.items count q low ∙ e in
          (q, slice_get_within (take count row.names.items) q m there, get_or_from_slice_get (take count row.names.items) q m m there)

      by : (o : Option ℕ) → at row.places.entries m ≡ o → mark_in (mark_of count o) ≡ true → has (take count row.names.items) m ≡ true
      by None e h = absurd (false≢true h)
      by (Some q) e h = (has_is (take count row.names.items) m).0 (in_front q (r.stands m q e) (ltb-true q count h))

  -- they are the first names
  pub front_has : (names : List Name) → names ≡ sorted (take count row.names.items) → (m : Name) → has names m ≡ mark_in (at (marks_of count row.places.entries) m)
  front_has names e m = ap (λ l. has l m) e ∙ sorted_has (take count row.names.items) m ∙ same_test _ _ (front_marked m) (marked_front m) ∙ ap mark_in (sym (marks_at count row.places.entries m))

  keys_same : (places : Places) → keys_of (marks_of count places) ≡ keys_of places
  keys_same [] = refl
  keys_same (entry ∷ places) = ap (λ l. entry.0 ∷ l) (keys_same places)

  -- they are the marked ones of the list
  pub marked_has : (m : Name) → has (marked_of (marks_of count row.places.entries)) m ≡ mark_in (at (marks_of count row.places.entries) m)
  marked_has = has_marked (marks_of count row.places.entries) (subst (IsStrictlySortedBy (slice_cmp nat_cmp)) (sym (keys_same row.places.entries)) r.ordered)

  -- some name is marked where the count isn't nothing
  pub any_marked : nat_lt 0 count ≡ not (is_none_left (marked_of (marks_of count row.places.entries)))
  any_marked = by (cases_lt 0 count)
    where
      none : (places : Places) → count ≤ 0 → marked_of (marks_of count places) ≡ []
      none [] h = refl
      none (entry ∷ places) h = ap (λ b. if b then entry.0 ∷ marked_of (marks_of count places) else marked_of (marks_of count places)) (le-ltb entry.1 count (omega (arith, h))) ∙ none places h

      some : (names : List Name) (n : Name) → has names n ≡ true → true ≡ not (is_none_left names)
      some [] n h = absurd (false≢true h)
      some (m ∷ names) n h = refl

      first : 0 < count → (n : Name) → slice_get row.names.items 0 ≡ Some n → has (marked_of (marks_of count row.places.entries)) n ≡ true
      first h n e = marked_has n ∙ ap mark_in (marks_at count row.places.entries n ∙ ap (mark_of count) (r.told n 0 e)) ∙ lt-ltb 0 count h

      by : (0 < count) ⊎ (count ≤ 0) → nat_lt 0 count ≡ not (is_none_left (marked_of (marks_of count row.places.entries)))
      by (inl h) = lt-ltb 0 count h ∙ some _ (get_or row.names.items 0 []) (first h (get_or row.names.items 0 []) (slice_get-get_or row.names.items 0 [] (omega (arith, h, within))))
      by (inr h) = le-ltb 0 count h ∙ ap (λ l. not (is_none_left l)) (sym (none row.places.entries h))
