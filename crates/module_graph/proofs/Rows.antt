-- The entries of a view: where an entry is put, that no two have one name, and which import a name.
use Rattle.std.proofs.Common.{◌≡◌, ℕ, ◌<◌, ◌+◌, Bool, true, false, List, [], ◌∷◌, ◌++◌, length, take, drop, refl, ap, sym, ◌∙◌, arith}
use Rattle.std.specs.Prelude.{slice_set, filter, not, ◌||◌, if◌then◌else◌, cond}
use Rattle.std.proofs.lemmas.Bool.{false≢true}
use Rattle.std.proofs.lemmas.List.{take-append-drop, take_more_set, drop-set-lt, append_assoc}
use Rattle.core_model.specs.Names.{Name, same_name, has, names_of}
use Rattle.core_model.specs.Roots.{are_distinct}
use Rattle.core_model.specs.View.{View, Entry}
use Rattle.core_model.proofs.Naming.{same_true, true_same, both_true, and_both, not_true, not_from, or_right}
use Rattle.module_graph.specs.Entries.{put_entry}

abbrev pub Row : Type 0
Row = Name × Entry

-- a list with another element at a place
pub set_parts : {X : Type 0} (xs : List X) (i : ℕ) (y : X) → i < length xs → slice_set xs i y ≡ take i xs ++ y ∷ drop (i + 1) xs
set_parts xs i y h = sym (take-append-drop (i + 1) (slice_set xs i y)) ∙ ap (λ l. l ++ drop (i + 1) (slice_set xs i y)) (take_more_set xs i y h)
    ∙ append_assoc (take i xs) (y ∷ []) (drop (i + 1) (slice_set xs i y)) ∙ ap (λ l. take i xs ++ y ∷ l) (drop-set-lt (i + 1) xs i y (omega arith))

-- no two entries have one name

or_swap : (a b c : Bool) → (a || (b || c)) ≡ (b || (a || c))
or_swap true true c = refl
or_swap true false c = refl
or_swap false b c = refl

or_twice : (a b : Bool) → (a || b) ≡ (a || (a || b))
or_twice true b = refl
or_twice false b = refl

named_step : (n : Name) (e : Entry) (row : Row) (rows : View) (m : Name) (b : Bool) → (b ≡ true → row.0 ≡ n) → has (names_of (put_entry n e rows)) m ≡ (same_name n m || has (names_of rows) m) → has (names_of (if b then (n, e) ∷ rows else row ∷ put_entry n e rows)) m ≡ (same_name n m || (same_name row.0 m || has (names_of rows) m))
named_step n e row rows m true f h = or_twice (same_name n m) (has (names_of rows) m) ∙ ap (λ k. same_name n m || (same_name k m || has (names_of rows) m)) (sym (f refl))
named_step n e row rows m false f h = ap (λ b. same_name row.0 m || b) h ∙ or_swap (same_name row.0 m) (same_name n m) (has (names_of rows) m)

pub put_named : (n : Name) (e : Entry) (rows : View) (m : Name) → has (names_of (put_entry n e rows)) m ≡ (same_name n m || has (names_of rows) m)
put_named n e [] m = refl
put_named n e (row ∷ rows) m = named_step n e row rows m (same_name row.0 n) (same_true row.0 n) (put_named n e rows m)

neither : (a b : Bool) → a ≡ false → not b ≡ true → not (a || b) ≡ true
neither a b h k = ap (λ c. not (c || b)) h ∙ k

put_apart : (n : Name) (e : Entry) (row : Row) (rows : View) (b : Bool) → same_name row.0 n ≡ b → are_distinct (names_of (row ∷ rows)) ≡ true → are_distinct (names_of (put_entry n e rows)) ≡ true → are_distinct (names_of (if b then (n, e) ∷ rows else row ∷ put_entry n e rows)) ≡ true
put_apart n e row rows true s d h = ap (λ k. are_distinct (k ∷ names_of rows)) (sym (same_true row.0 n s)) ∙ d
put_apart n e row rows false s d h =
    let p = both_true (not (has (names_of rows) row.0)) _ d in
    and_both (not (has (names_of (put_entry n e rows)) row.0)) _
    (ap not (put_named n e rows row.0) ∙ neither (same_name n row.0) _ (turned (same_name n row.0) (λ t. sym s ∙ true_same row.0 n (sym (same_true n row.0 t)))) p.0) h
  where
    turned : (b : Bool) → (b ≡ true → false ≡ true) → b ≡ false
    turned true f = absurd (false≢true (f refl))
    turned false f = refl

pub put_distinct : (n : Name) (e : Entry) (rows : View) → are_distinct (names_of rows) ≡ true → are_distinct (names_of (put_entry n e rows)) ≡ true
put_distinct n e [] d = refl
put_distinct n e (row ∷ rows) d = put_apart n e row rows (same_name row.0 n) refl d (put_distinct n e rows (both_true (not (has (names_of rows) row.0)) _ d).1)

kept_step : (p : Row → Bool) (row : Row) (rows : View) (m : Name) (b : Bool) → (has (names_of (filter p rows)) m ≡ true → has (names_of rows) m ≡ true) → has (names_of (cond b (row ∷ filter p rows) (filter p rows))) m ≡ true → (same_name row.0 m || has (names_of rows) m) ≡ true
kept_step p row rows m true f h = more (same_name row.0 m) _ _ f h
  where
    more : (a b c : Bool) → (b ≡ true → c ≡ true) → (a || b) ≡ true → (a || c) ≡ true
    more true b c f h = refl
    more false b c f h = f h
kept_step p row rows m false f h = or_right (same_name row.0 m) _ (f h)

kept_named : (p : Row → Bool) (rows : View) (m : Name) → has (names_of (filter p rows)) m ≡ true → has (names_of rows) m ≡ true
kept_named p [] m h = h
kept_named p (row ∷ rows) m h = kept_step p row rows m (p row) (kept_named p rows m) h

kept_apart : (p : Row → Bool) (row : Row) (rows : View) (b : Bool) → not (has (names_of rows) row.0) ≡ true → are_distinct (names_of (filter p rows)) ≡ true → are_distinct (names_of (cond b (row ∷ filter p rows) (filter p rows))) ≡ true
kept_apart p row rows true d h = and_both (not (has (names_of (filter p rows)) row.0)) _ (not_from _ (λ t. false≢true (sym (not_true _ d) ∙ kept_named p rows row.0 t))) h
kept_apart p row rows false d h = h

pub kept_distinct : (p : Row → Bool) (rows : View) → are_distinct (names_of rows) ≡ true → are_distinct (names_of (filter p rows)) ≡ true
kept_distinct p [] d = refl
kept_distinct p (row ∷ rows) d =
    let q = both_true (not (has (names_of rows) row.0)) _ d in
    kept_apart p row rows (p row) q.0 (kept_distinct p rows q.1)
