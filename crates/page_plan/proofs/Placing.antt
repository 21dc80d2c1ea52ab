-- Views whose entries are exchanged in place: the names stay, and each name has its new entry.
use Rattle.std.proofs.Common.{◌≡◌, ◌⊎◌, inl, inr, Bool, true, false, List, [], ◌∷◌, ◌++◌, refl, ap, sym, ◌∙◌}
use Rattle.std.specs.Prelude.{◌||◌, ◌&&◌, not, cond, filter, Option, Some, None, is_some, if◌then◌else◌}
use Rattle.std.specs.Cmp.Lexicographic.{pointwise, slice_cmp}
use Rattle.std.specs.List.{AllByRecursion}
use Rattle.std.specs.List.Sorted.{IsStrictlySortedBy}
use Rattle.std.specs.declared.cmp.Ordering.TheVariants.{Less}
use Rattle.std.specs.Ordering.{nat_cmp, is_lt}
use Rattle.std.proofs.lemmas.Bool.{false≢true}
use Rattle.std.proofs.lemmas.Cmp.{nat_list_eq_equiv}
use Rattle.std.proofs.lemmas.Map.Keys.{sorted_head, sorted_tail}
use Rattle.std.proofs.lemmas.Option.{same_Some}
use Prim.{⊥}
use Rattle.hmr_types.specs.declared.analysis.Analysis.{Analysis}
use Rattle.core_model.specs.Names.{Name, same_name, has, at, names_of, collect, first_of, with_entry}
use Rattle.core_model.specs.View.{View, Entry, is_in}
use Rattle.core_model.proofs.Naming.{and_both, false_from, has_cases, head_has, or_left, same_true, tail_has, true_same}
use Rattle.core_model.proofs.Tables.{named}
use Rattle.module_graph.specs.Entries.{lists_alike, put_entry}
use Rattle.module_graph.proofs.Marking.{put_at}
use Rattle.module_graph.proofs.Renewing.{IsAlike, alike}
use Rattle.page_plan.specs.Renewals.{AreAlike, AreThere, first_unlike, is_renewed, put_all, put_row, with_first}
use Rattle.page_plan.proofs.Making.{below_apart}

abbrev pub IsRising : List Name → Type 0
IsRising = IsStrictlySortedBy (slice_cmp nat_cmp)

-- Lists of entries whose names rise are one where they have the same names and the same entries.

behind_all : (x : Name) (xs : List Name) → AllByRecursion (λ y. slice_cmp nat_cmp x y ≡ Less) xs → has xs x ≡ true → ⊥
behind_all x [] a h = false≢true h
behind_all x (y ∷ ys) a h = by (behind_all x ys a.1) (has_cases y ys x h)
  where
    by : (has ys x ≡ true → ⊥) → (y ≡ x) ⊎ (has ys x ≡ true) → ⊥
    by f (inl e) = false≢true (sym (below_apart x y (ap is_lt a.0)) ∙ true_same x y (sym e))
    by f (inr t) = f t

pub not_behind : (x : Name) (xs : List Name) → IsRising (x ∷ xs) → has xs x ≡ false
not_behind x xs s = false_from (has xs x) (behind_all x xs (sorted_head (slice_cmp nat_cmp) x xs s))

module _ {X : Type 0} where
  pub at_head : (n : Name) (x : X) (rows : List (Name × X)) → at ((n, x) ∷ rows) n ≡ Some x
  at_head n x rows = ap (λ b. if b then Some x else at rows n) (true_same n n refl)

  none_at : (o : Option X) → is_some o ≡ false → o ≡ None
  none_at None h = refl
  none_at (Some x) h = absurd (false≢true (sym h))

  past_head : (b : Bool) (x y : X) (o p : Option X) → (b ≡ true → o ≡ p) → (if b then Some x else o) ≡ (if b then Some y else p) → o ≡ p
  past_head true x y o p f h = f refl
  past_head false x y o p f h = h

  pub same_rows : (xs ys : List (Name × X)) → IsRising (names_of xs) → names_of xs ≡ names_of ys → ((n : Name) → at xs n ≡ at ys n) → xs ≡ ys
  same_rows [] [] s e f = refl
  same_rows [] (y ∷ ys) s e f = absurd (false≢true (ap (λ (l : List Name). has l y.0) e ∙ head_has y.0 (names_of ys)))
  same_rows (x ∷ xs) [] s e f = absurd (false≢true (sym (ap (λ (l : List Name). has l x.0) e) ∙ head_has x.0 (names_of xs)))
  same_rows (x ∷ xs) (y ∷ ys) s e f =
      let first : x.0 ≡ y.0 = same_Some x.0 y.0 (ap first_name e) in
      let rest : names_of xs ≡ names_of ys = ap rest_names e in
      let value : x.1 ≡ y.1 = same_Some x.1 y.1 (sym (at_head x.0 x.1 xs) ∙ f x.0 ∙ ap (λ k. at (y ∷ ys) k) first ∙ at_head y.0 y.1 ys) in
      ap (λ k. (k, x.1) ∷ xs) first ∙ ap (λ v. (y.0, v) ∷ xs) value
      ∙ ap (λ l. y ∷ l) (same_rows xs ys (sorted_tail (slice_cmp nat_cmp) x.0 (names_of xs) s) rest (λ n.
      past_head (same_name x.0 n) x.1 y.1 (at xs n) (at ys n)
      (λ t. let gone : has (names_of xs) n ≡ false = ap (has (names_of xs)) (sym (same_true x.0 n t)) ∙ not_behind x.0 (names_of xs) s in
      none_at (at xs n) (named xs n ∙ gone) ∙ sym (none_at (at ys n) (named ys n ∙ ap (λ l. has l n) (sym rest) ∙ gone)))
      (f n ∙ ap (λ k. if same_name k n then Some y.1 else at ys n) (sym first))))
    where
      first_name : List Name → Option Name
      first_name [] = None
      first_name (n ∷ ns) = Some n

      rest_names : List Name → List Name
      rest_names [] = []
      rest_names (n ∷ ns) = ns

-- An entry that is put in place of one that lists the same.

lists_same : (o : Option Entry) (e : Entry) (a : Analysis) → IsAlike o e.analysis → lists_alike (Some e) a ≡ lists_alike o a
lists_same None e a h = absurd (false≢true h.there)
lists_same (Some old) e a h =
    ap (λ l. pointwise same_name l a.imports && pointwise same_name e.analysis.accepted a.accepted) (sym h.imports)
    ∙ ap (λ l. pointwise same_name old.analysis.imports a.imports && pointwise same_name l a.accepted) (sym h.accepted)

alike_step : (n m : Name) (e : Entry) (a : Analysis) (view : View) (b : Bool) → (b ≡ true → n ≡ m) → IsAlike (at view n) e.analysis → lists_alike (if b then Some e else at view m) a ≡ lists_alike (at view m) a
alike_step n m e a view true f h = lists_same (at view n) e a h ∙ ap (λ k. lists_alike (at view k) a) (f refl)
alike_step n m e a view false f h = refl

put_alike : (n : Name) (e : Entry) (view : View) → lists_alike (at view n) e.analysis ≡ true → (m : Name) (a : Analysis) → lists_alike (at (put_entry n e view) m) a ≡ lists_alike (at view m) a
put_alike n e view h m a = ap (λ o. lists_alike o a) (put_at n e view m) ∙ alike_step n m e a view (same_name n m) (same_true n m) (alike (at view n) e.analysis h)

same_list : (names : List Name) → pointwise same_name names names ≡ true
same_list [] = refl
same_list (n ∷ names) = and_both (same_name n n) (pointwise same_name names names) (true_same n n refl) (same_list names)

pub alike_itself : (e : Entry) → lists_alike (Some e) e.analysis ≡ true
alike_itself e = and_both (pointwise same_name e.analysis.imports e.analysis.imports) (pointwise same_name e.analysis.accepted e.analysis.accepted) (same_list e.analysis.imports) (same_list e.analysis.accepted)

-- the other entries still list what those of their names do
pub still_alike : (n : Name) (e : Entry) (view : View) → lists_alike (at view n) e.analysis ≡ true → (rows : List (Name × Entry)) → AreAlike view rows → AreAlike (put_entry n e view) rows
still_alike n e view h [] a = tt
still_alike n e view h (row ∷ rows) a = (put_alike n e view h row.0 row.1.analysis ∙ a.0, still_alike n e view h rows a.1)

names_step : (n : Name) (e : Entry) (row : Name × Entry) (rows : View) (b : Bool) → same_name row.0 n ≡ b → (b || has (names_of rows) n) ≡ true → (has (names_of rows) n ≡ true → names_of (put_entry n e rows) ≡ names_of rows)
    → names_of (if b then (n, e) ∷ rows else row ∷ put_entry n e rows) ≡ row.0 ∷ names_of rows
names_step n e row rows true s h f = ap (λ k. k ∷ names_of rows) (sym (same_true row.0 n s))
names_step n e row rows false s h f = ap (λ l. row.0 ∷ l) (f h)

put_names : (n : Name) (e : Entry) (rows : View) → has (names_of rows) n ≡ true → names_of (put_entry n e rows) ≡ names_of rows
put_names n e [] h = absurd (false≢true h)
put_names n e (row ∷ rows) h = names_step n e row rows (same_name row.0 n) refl h (put_names n e rows)

-- the names stay
pub all_names : (rows : List (Name × Entry)) (view : View) → AreThere view rows → names_of (put_all rows view) ≡ names_of view
all_names [] view h = refl
all_names (row ∷ rows) view h = let rest = all_names rows view h.1 in put_names row.0 row.1 (put_all rows view) (ap (λ l. has l row.0) rest ∙ sym (named view row.0) ∙ h.0) ∙ rest

-- the last of the entries is put first
pub put_last_first : (rows : List (Name × Entry)) (row : Name × Entry) (view : View) → put_all (rows ++ row ∷ []) view ≡ put_all rows (put_entry row.0 row.1 view)
put_last_first [] row view = refl
put_last_first (r ∷ rows) row view = ap (put_entry r.0 r.1) (put_last_first rows row view)

pub alike_last : (rows : List (Name × Entry)) (row : Name × Entry) (view : View) → AreAlike view (rows ++ row ∷ []) → (lists_alike (at view row.0) row.1.analysis ≡ true) × AreAlike view rows
alike_last [] row view h = (h.0, tt)
alike_last (r ∷ rows) row view h = let q = alike_last rows row view h.1 in (q.0, (h.0, q.1))

-- An entry that is put before others, one of which has its name.

put_over_step : (n : Name) (x e : Entry) (row : Name × Entry) (rows : View) (b : Bool) → same_name row.0 n ≡ b → put_entry n x (put_entry n e rows) ≡ put_entry n x rows
    → put_entry n x (if b then (n, e) ∷ rows else row ∷ put_entry n e rows) ≡ (if b then (n, x) ∷ rows else row ∷ put_entry n x rows)
put_over_step n x e row rows true s h = ap (λ t. if t then (n, x) ∷ rows else (n, e) ∷ put_entry n x rows) (true_same n n refl)
put_over_step n x e row rows false s h = ap (λ t. if t then (n, x) ∷ put_entry n e rows else row ∷ put_entry n x (put_entry n e rows)) s ∙ ap (λ l. row ∷ l) h

put_over : (n : Name) (x e : Entry) (view : View) → put_entry n x (put_entry n e view) ≡ put_entry n x view
put_over n x e [] = ap (λ t. if t then (n, x) ∷ [] else (n, e) ∷ put_entry n x []) (true_same n n refl)
put_over n x e (row ∷ rows) = put_over_step n x e row rows (same_name row.0 n) refl (put_over n x e rows)

put_apart_step : (a g : Name) (x e : Entry) (row : Name × Entry) (rows : View) (b c : Bool) → same_name a g ≡ false → same_name g a ≡ false → same_name row.0 a ≡ b → same_name row.0 g ≡ c
    → (c ≡ false → put_entry a x (put_entry g e rows) ≡ put_entry g e (put_entry a x rows))
    → put_entry a x (if c then (g, e) ∷ rows else row ∷ put_entry g e rows) ≡ put_entry g e (if b then (a, x) ∷ rows else row ∷ put_entry a x rows)
put_apart_step a g x e row rows true true k j s t h = absurd (false≢true (sym k ∙ true_same a g (sym (same_true row.0 a s) ∙ same_true row.0 g t)))
put_apart_step a g x e row rows true false k j s t h =
    ap (λ q. if q then (a, x) ∷ put_entry g e rows else row ∷ put_entry a x (put_entry g e rows)) s
    ∙ sym (ap (λ q. if q then (g, e) ∷ rows else (a, x) ∷ put_entry g e rows) k)
put_apart_step a g x e row rows false true k j s t h =
    ap (λ q. if q then (a, x) ∷ rows else (g, e) ∷ put_entry a x rows) j
    ∙ sym (ap (λ q. if q then (g, e) ∷ put_entry a x rows else row ∷ put_entry g e (put_entry a x rows)) t)
put_apart_step a g x e row rows false false k j s t h =
    ap (λ q. if q then (a, x) ∷ put_entry g e rows else row ∷ put_entry a x (put_entry g e rows)) s
    ∙ ap (λ l. row ∷ l) (h refl)
    ∙ sym (ap (λ q. if q then (g, e) ∷ put_entry a x rows else row ∷ put_entry g e (put_entry a x rows)) t)

past_first : (a b : Bool) → (a || b) ≡ true → a ≡ false → b ≡ true
past_first true b h k = absurd (false≢true (sym k))
past_first false b h k = h

put_apart : (a g : Name) (x e : Entry) → same_name a g ≡ false → (view : View) → has (names_of view) g ≡ true → put_entry a x (put_entry g e view) ≡ put_entry g e (put_entry a x view)
put_apart a g x e k [] h = absurd (false≢true h)
put_apart a g x e k (row ∷ rows) h = put_apart_step a g x e row rows (same_name row.0 a) (same_name row.0 g) k (nat_list_eq_equiv.symm g a ∙ k) refl refl
    (λ t. put_apart a g x e k rows (past_first (same_name row.0 g) (has (names_of rows) g) h t))

put_keeps : (n : Name) (e : Entry) (view : View) (m : Name) → has (names_of view) m ≡ true → has (names_of (put_entry n e view)) m ≡ true
put_keeps n e view m h = sym (named (put_entry n e view) m) ∙ ap is_some (put_at n e view m) ∙ by (same_name n m)
  where
    by : (b : Bool) → is_some (if b then Some e else at view m) ≡ true
    by true = refl
    by false = named view m ∙ h

all_keep : (rows : List (Name × Entry)) (view : View) (m : Name) → has (names_of view) m ≡ true → has (names_of (put_all rows view)) m ≡ true
all_keep [] view m h = h
all_keep (row ∷ rows) view m h = put_keeps row.0 row.1 (put_all rows view) m (all_keep rows view m h)

all_over_step : (row : Name × Entry) (g : Name) (e : Entry) (view : View) (b c : Bool) → same_name row.0 g ≡ b → has (names_of view) g ≡ true
    → put_entry row.0 row.1 (if c then view else put_entry g e view) ≡ (if b || c then put_entry row.0 row.1 view else put_entry g e (put_entry row.0 row.1 view))
all_over_step row g e view true true s h = refl
all_over_step row g e view true false s h = ap (λ k. put_entry row.0 row.1 (put_entry k e view)) (sym (same_true row.0 g s)) ∙ put_over row.0 row.1 e view
all_over_step row g e view false true s h = refl
all_over_step row g e view false false s h = put_apart row.0 g row.1 e s view h

all_over : (rows : List (Name × Entry)) (g : Name) (e : Entry) (view : View) → has (names_of view) g ≡ true
    → put_all rows (put_entry g e view) ≡ (if has (names_of rows) g then put_all rows view else put_entry g e (put_all rows view))
all_over [] g e view h = refl
all_over (row ∷ rows) g e view h = ap (put_entry row.0 row.1) (all_over rows g e view h) ∙ all_over_step row g e (put_all rows view) (same_name row.0 g) (has (names_of rows) g) refl (all_keep rows view g h)

-- the first of some entries that passes a test is one of them
first_there : (view : View) (f : Name × Entry → Bool) (rows : List (Name × Entry)) (row : Name × Entry) → AreThere view rows → first_of (filter f rows) ≡ Some row → (has (names_of rows) row.0 ≡ true) × (is_in view row.0 ≡ true)
first_there view f [] row h e = absurd (false≢true (ap is_some e))
first_there view f (x ∷ rows) row h e = by (f x) (first_there view f rows row h.1) e
  where
    by : (b : Bool) → (first_of (filter f rows) ≡ Some row → (has (names_of rows) row.0 ≡ true) × (is_in view row.0 ≡ true)) → first_of (cond b (x ∷ filter f rows) (filter f rows)) ≡ Some row
        → (has (names_of (x ∷ rows)) row.0 ≡ true) × (is_in view row.0 ≡ true)
    by true rest i =
        let is : x ≡ row = same_Some x row i in
        (or_left (same_name x.0 row.0) (has (names_of rows) row.0) (true_same x.0 row.0 (ap (λ (r : Name × Entry). r.0) is)), ap (λ (r : Name × Entry). is_in view r.0) (sym is) ∙ h.0)
    by false rest i = let q = rest i in (tail_has x.0 (names_of rows) row.0 q.0, q.1)

first_step : (rows : List (Name × Entry)) (view : View) (o : Option (Name × Entry)) → ((row : Name × Entry) → o ≡ Some row → (has (names_of rows) row.0 ≡ true) × (is_in view row.0 ≡ true)) → put_all rows (put_row o view) ≡ put_all rows view
first_step rows view None f = refl
first_step rows view (Some row) f =
    let q = f row refl in
    all_over rows row.0 row.1 view (sym (named view row.0) ∙ q.1) ∙ ap (λ b. if b then put_all rows view else put_entry row.0 row.1 (put_all rows view)) q.0

-- that one of them is put first makes no other view
pub first_put : (rows : List (Name × Entry)) (view : View) → AreThere view rows → put_all rows (with_first rows view) ≡ put_all rows view
first_put rows view h = first_step rows view (first_unlike view rows) (λ row e. first_there view (λ r. not (lists_alike (at view r.0) r.1.analysis)) rows row h e)

-- What was fetched of some names.

module _ (get : Name → Option Entry) where
  alike_entry : (n : Name) (o : Option Entry) (rows : List (Name × Entry)) (view : View) → is_renewed (at view n) o ≡ true → AreAlike view rows → AreAlike view (with_entry n o rows)
  alike_entry n None rows view h a = a
  alike_entry n (Some e) rows view h a = (h, a)

  pub fetched_alike : (names : List Name) (view : View) → ((n : Name) → has names n ≡ true → is_renewed (at view n) (get n) ≡ true) → AreAlike view (collect get names)
  fetched_alike [] view f = tt
  fetched_alike (x ∷ names) view f = alike_entry x (get x) (collect get names) view (f x (head_has x names)) (fetched_alike names view (λ n h. f n (tail_has x names n h)))

  there_entry : (n : Name) (o : Option Entry) (rows : List (Name × Entry)) (view : View) → is_in view n ≡ true → AreThere view rows → AreThere view (with_entry n o rows)
  there_entry n None rows view h a = a
  there_entry n (Some e) rows view h a = (h, a)

  pub fetched_there : (names : List Name) (view : View) → ((n : Name) → has names n ≡ true → is_in view n ≡ true) → AreThere view (collect get names)
  fetched_there [] view f = tt
  fetched_there (x ∷ names) view f = there_entry x (get x) (collect get names) view (f x (head_has x names)) (fetched_there names view (λ n h. f n (tail_has x names n h)))

  either_at : (s h : Bool) (e : Entry) (own o : Option Entry) → (s ≡ true → own ≡ Some e) → (if s then Some e else (if h then own else o)) ≡ (if s || h then own else o)
  either_at true h e own o f = sym (f refl)
  either_at false h e own o f = refl

  at_entry : (x : Name) (names : List Name) (view : View) (n : Name) (o : Option Entry) → get x ≡ o → is_some o ≡ true → at (put_all (collect get names) view) n ≡ (if has names n then get n else at view n)
      → at (put_all (with_entry x o (collect get names)) view) n ≡ (if same_name x n || has names n then get n else at view n)
  at_entry x names view n None is h f = absurd (false≢true h)
  at_entry x names view n (Some e) is h f = put_at x e (put_all (collect get names) view) n ∙ ap (λ o. if same_name x n then Some e else o) f
      ∙ either_at (same_name x n) (has names n) e (get n) (at view n) (λ s. ap get (sym (same_true x n s)) ∙ is)

  -- each of the names has its entry, and the other names theirs
  pub at_all : (names : List Name) → ((n : Name) → has names n ≡ true → is_some (get n) ≡ true) → (view : View) (n : Name) → at (put_all (collect get names) view) n ≡ (if has names n then get n else at view n)
  at_all [] f view n = refl
  at_all (x ∷ names) f view n = at_entry x names view n (get x) refl (f x (head_has x names)) (at_all names (λ k h. f k (tail_has x names k h)) view n)

  -- one name more
  more_entry : (n : Name) (o : Option Entry) (rows more : List (Name × Entry)) → with_entry n o (rows ++ more) ≡ with_entry n o rows ++ more
  more_entry n None rows more = refl
  more_entry n (Some e) rows more = refl

  pub fetched_append : (xs ys : List Name) → collect get (xs ++ ys) ≡ collect get xs ++ collect get ys
  fetched_append [] ys = refl
  fetched_append (x ∷ xs) ys = ap (with_entry x (get x)) (fetched_append xs ys) ∙ more_entry x (get x) (collect get xs) (collect get ys)
