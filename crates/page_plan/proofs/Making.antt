-- The view that a plan makes, put together entry by entry.
use Rattle.std.proofs.Common.{◌≡◌, ◌↔◌, ◌⊎◌, inl, inr, ℕ, ◌+◌, ◌<◌, Bool, true, false, List, [], ◌∷◌, ◌++◌, length, take, drop, get_or, refl, ap, sym, ◌∙◌, Contains}
use Rattle.std.specs.Prelude.{◌||◌, Option, Some, None, if◌then◌else◌}
use Rattle.std.proofs.Math.Path.{subst}
use Rattle.std.proofs.lemmas.Bool.{false≢true}
use Rattle.std.proofs.lemmas.List.{drop_more, take-append-drop, take_more}
use Rattle.std.proofs.lemmas.Map.Text.{is_eq-slice_cmp}
use Rattle.std.specs.declared.cmp.Ordering.{Ordering}
use Rattle.std.specs.declared.cmp.Ordering.TheVariants.{Less, Equal, Greater}
use Rattle.std.specs.Ordering.{nat_cmp, is_lt, is_eq}
use Rattle.std.specs.Cmp.Lexicographic.{slice_cmp}
use Rattle.core_model.specs.Names.{Name, same_name, has, at, names_of, with_row, with_entry, collect, sorted, rising}
use Rattle.core_model.specs.Paths.{Reaches}
use Rattle.core_model.specs.View.{View, Entry}
use Rattle.core_model.specs.Page.{Plan, plan_imports, met_of, new_entry, new_view}
use Rattle.core_model.proofs.Naming.{has_is, same_test, same_true, true_same, has_cases, head_has, or_right, has_append, sorted_has, both_true, false_from}
use Rattle.core_model.proofs.Planning.{met_is}
use Rattle.core_model.proofs.Rising.{through}
use Rattle.core_model.proofs.Tables.{at_with_row}
use Rattle.module_graph.specs.Entries.{put_entry}
use Rattle.page_plan.specs.Plans.{IsSamePlan}
use Rattle.page_plan.specs.Views.{put_found}
use Rattle.module_graph.proofs.Sorting.{sorted_rising, rising_is_sorted}

-- sorted lists with the same names are the same
pub same_sorted : (xs ys : List Name) → ((n : Name) → has xs n ≡ has ys n) → sorted xs ≡ sorted ys
same_sorted xs ys f = rising_is_sorted (sorted xs) ys (sorted_rising xs) (λ n. sorted_has xs n ∙ f n)

-- a search that finds what is reached has found what is met
pub found_met : (roots : List Name) (p : Plan) (view : View) (found : List Name) → ((m : Name) → Contains found m ↔ Reaches (plan_imports p view) roots m) → sorted found ≡ sorted (met_of roots p view)
found_met roots p view found f = same_sorted found (met_of roots p view)
    (λ n. same_test _ _ (λ h. (met_is roots p view n).1 ((f n).0 ((has_is found n).1 h))) (λ h. (has_is found n).0 ((f n).1 ((met_is roots p view n).0 h))))

-- An entry that is put into a view.

put_step : (n : Name) (e : Entry) (a b c : Bool) (old : Option Entry) (x : Entry) (more : Option Entry) → (a ≡ true → c ≡ b) → (b ≡ true → c ≡ true → a ≡ true) → more ≡ (if b then Some e else old) → (if a then (if b then Some e else old) else (if c then Some x else more)) ≡ (if b then Some e else (if c then Some x else old))
put_step n e true true c old x more f g h = refl
put_step n e true false true old x more f g h = absurd (false≢true (sym (f refl)))
put_step n e true false false old x more f g h = refl
put_step n e false true true old x more f g h = absurd (false≢true (g refl refl))
put_step n e false true false old x more f g h = h
put_step n e false false true old x more f g h = refl
put_step n e false false false old x more f g h = h

at_if : (b : Bool) (n : Name) (e : Entry) (row : Name × Entry) (rows more : View) (m : Name) → at (if b then (n, e) ∷ rows else row ∷ more) m ≡ (if b then (if same_name n m then Some e else at rows m) else (if same_name row.0 m then Some row.1 else at more m))
at_if true n e row rows more m = refl
at_if false n e row rows more m = refl

-- an entry in place of a name's own or at the end, looked up
pub at_put : (n : Name) (e : Entry) (rows : View) (m : Name) → at (put_entry n e rows) m ≡ (if same_name n m then Some e else at rows m)
at_put n e [] m = refl
at_put n e (row ∷ rows) m = at_if (same_name row.0 n) n e row rows (put_entry n e rows) m
    ∙ put_step n e (same_name row.0 n) (same_name n m) (same_name row.0 m) (at rows m) row.1 (at (put_entry n e rows) m)
    (λ a. ap (λ k. same_name k m) (same_true row.0 n a))
    (λ b c. true_same row.0 n (same_true row.0 m c ∙ sym (same_true n m b)))
    (at_put n e rows m)

-- the same as the definitions' entry in place of a name's own
pub put_as_row : (n : Name) (e : Entry) (kept staged : View) → ((m : Name) → at kept m ≡ at staged m) → (m : Name) → at (put_entry n e kept) m ≡ at (with_row n e staged) m
put_as_row n e kept staged f m = at_put n e kept m ∙ ap (λ o. if same_name n m then Some e else o) (f m) ∙ sym (at_with_row n e staged m)

-- a name that isn't there is put at the end
end_step : (n : Name) (e : Entry) (row : Name × Entry) (rows : View) (b : Bool) → b ≡ false → put_entry n e rows ≡ rows ++ (n, e) ∷ [] → (if b then (n, e) ∷ rows else row ∷ put_entry n e rows) ≡ row ∷ (rows ++ (n, e) ∷ [])
end_step n e row rows true s h = absurd (false≢true (sym s))
end_step n e row rows false s h = ap (λ l. row ∷ l) h

or_false : (a b : Bool) → (a || b) ≡ false → (a ≡ false) × (b ≡ false)
or_false true b h = absurd (false≢true (sym h))
or_false false b h = (refl, h)

pub put_last : (n : Name) (e : Entry) (rows : View) → has (names_of rows) n ≡ false → put_entry n e rows ≡ rows ++ (n, e) ∷ []
put_last n e [] h = refl
put_last n e (row ∷ rows) h =
    let p = or_false (same_name row.0 n) (has (names_of rows) n) h in
    end_step n e row rows (same_name row.0 n) p.0 (put_last n e rows p.1)

-- Names that rise.

-- a name is below all that stand behind it
pub behind : (k : Name) (names : List Name) → rising (k ∷ names) ≡ true → (n : Name) → has names n ≡ true → is_lt (slice_cmp nat_cmp k n) ≡ true
behind k [] r n h = absurd (false≢true h)
behind k (m ∷ names) r n h =
    let p = both_true (is_lt (slice_cmp nat_cmp k m)) _ r in
    by p.0 (behind m names p.1 n) (has_cases m names n h)
  where
    by : is_lt (slice_cmp nat_cmp k m) ≡ true → (has names n ≡ true → is_lt (slice_cmp nat_cmp m n) ≡ true) → (m ≡ n) ⊎ (has names n ≡ true) → is_lt (slice_cmp nat_cmp k n) ≡ true
    by l f (inl e) = subst (λ j. is_lt (slice_cmp nat_cmp k j) ≡ true) e l
    by l f (inr t) = through k m n l (f t)

lt_not_eq : (o : Ordering) → is_lt o ≡ true → is_eq o ≡ true → false ≡ true
lt_not_eq Less h g = g
lt_not_eq Equal h g = h
lt_not_eq Greater h g = h

-- a name that is below another isn't the other
pub below_apart : (k n : Name) → is_lt (slice_cmp nat_cmp k n) ≡ true → same_name k n ≡ false
below_apart k n l = false_from (same_name k n) (λ s. false≢true (lt_not_eq (slice_cmp nat_cmp k n) l (is_eq-slice_cmp k n ∙ s)))

both_false : (a b : Bool) → a ≡ false → b ≡ false → (a || b) ≡ false
both_false a b h g = ap (λ c. c || b) h ∙ g

rising_rest : (k : Name) (names : List Name) → rising (k ∷ names) ≡ true → rising names ≡ true
rising_rest k [] r = refl
rising_rest k (m ∷ names) r = (both_true (is_lt (slice_cmp nat_cmp k m)) _ r).1

apart_before : (before after : List Name) (n : Name) → rising (before ++ n ∷ after) ≡ true → has before n ≡ false
apart_before [] after n r = refl
apart_before (b ∷ before) after n r =
    both_false (same_name b n) (has before n)
    (below_apart b n (behind b (before ++ n ∷ after) r n (has_append before (n ∷ after) n ∙ or_right (has before n) _ (head_has n after))))
    (apart_before before after n (rising_rest b (before ++ n ∷ after) r))

-- a name of a rising list isn't among those before it
pub not_before : (names : List Name) (i : ℕ) (d : Name) → i < length names → rising names ≡ true → has (take i names) (get_or names i d) ≡ false
not_before names i d h r = apart_before (take i names) (drop (i + 1) names) (get_or names i d)
    (ap rising (ap (λ l. take i names ++ l) (sym (drop_more names i d h)) ∙ take-append-drop i names) ∙ r)

-- What is collected.

module _ (get : Name → Option Entry) where
  entry_named : (n : Name) (o : Option Entry) (rows : View) (m : Name) → has (names_of (with_entry n o rows)) m ≡ true → (has (names_of rows) m ≡ true → has (n ∷ names_of rows) m ≡ true)
  entry_named n o rows m h g = or_right (same_name n m) _ g

  from_entry : (n : Name) (o : Option Entry) (names : List Name) (rows : View) (m : Name) → (has (names_of rows) m ≡ true → has names m ≡ true) → has (names_of (with_entry n o rows)) m ≡ true → has (n ∷ names) m ≡ true
  from_entry n None names rows m f h = or_right (same_name n m) _ (f h)
  from_entry n (Some e) names rows m f h = more (same_name n m) _ _ f h
    where
      more : (a b c : Bool) → (b ≡ true → c ≡ true) → (a || b) ≡ true → (a || c) ≡ true
      more true b c f h = refl
      more false b c f h = f h

  pub collected_named : (names : List Name) (m : Name) → has (names_of (collect get names)) m ≡ true → has names m ≡ true
  collected_named [] m h = h
  collected_named (n ∷ names) m h = from_entry n (get n) names (collect get names) m (collected_named names m) h

  entry_more : (n : Name) (o : Option Entry) (rows more : View) → with_entry n o (rows ++ more) ≡ with_entry n o rows ++ more
  entry_more n None rows more = refl
  entry_more n (Some e) rows more = refl

  collect_append : (xs ys : List Name) → collect get (xs ++ ys) ≡ collect get xs ++ collect get ys
  collect_append [] ys = refl
  collect_append (x ∷ xs) ys = ap (with_entry x (get x)) (collect_append xs ys) ∙ entry_more x (get x) (collect get xs) (collect get ys)

  -- one name more is collected, which has no entry
  pub collect_skip : (names : List Name) (i : ℕ) (d : Name) → i < length names → get (get_or names i d) ≡ None → collect get (take (i + 1) names) ≡ collect get (take i names)
  collect_skip names i d h g = ap (collect get) (take_more names i d h) ∙ collect_append (take i names) (get_or names i d ∷ []) ∙ ap (λ o. collect get (take i names) ++ with_entry (get_or names i d) o []) g ∙ append_none (collect get (take i names))
    where
      append_none : (rows : View) → rows ++ [] ≡ rows
      append_none [] = refl
      append_none (row ∷ rows) = ap (λ l. row ∷ l) (append_none rows)

  -- one name more is collected, which has an entry
  pub collect_put : (names : List Name) (i : ℕ) (d : Name) (e : Entry) → i < length names → rising names ≡ true → get (get_or names i d) ≡ Some e → put_entry (get_or names i d) e (collect get (take i names)) ≡ collect get (take (i + 1) names)
  collect_put names i d e h r g =
      let n : Name = get_or names i d in
      put_last n e (collect get (take i names)) (false_from _ (λ t. false≢true (sym (not_before names i d h r) ∙ collected_named (take i names) n t)))
      ∙ sym (ap (collect get) (take_more names i d h) ∙ collect_append (take i names) (n ∷ []) ∙ ap (λ o. collect get (take i names) ++ with_entry n o []) g)

  -- one name more is collected
  pub collect_found : (names : List Name) (i : ℕ) (d : Name) (o : Option Entry) → i < length names → rising names ≡ true → get (get_or names i d) ≡ o → put_found (get_or names i d) o (collect get (take i names)) ≡ collect get (take (i + 1) names)
  collect_found names i d None h r g = sym (collect_skip names i d h g)
  collect_found names i d (Some e) h r g = collect_put names i d e h r g

  -- one turn of collecting
  pub made_more : (names : List Name) (i : ℕ) (x : Name) (o : Option Entry) (old new : View) → i < length names → rising names ≡ true → x ≡ get_or names i x → old ≡ collect get (take i names) → o ≡ get x → new ≡ put_found x o old → new ≡ collect get (take (i + 1) names)
  made_more names i x o old new h r is before g after =
      after ∙ ap (put_found x o) before ∙ ap (λ k. put_found k o (collect get (take i names))) is
      ∙ collect_found names i x o h r (ap get (sym is) ∙ sym g)

pub collect_same : (f g : Name → Option Entry) (names : List Name) → ((n : Name) → f n ≡ g n) → collect f names ≡ collect g names
collect_same f g [] s = refl
collect_same f g (n ∷ names) s = ap (λ o. with_entry n o (collect f names)) (s n) ∙ ap (with_entry n (g n)) (collect_same f g names s)

-- what is collected over the names that are met or on the page is the plan's view
pub made_is : (roots : List Name) (p : Plan) (view : View) (met set names : List Name) (made : View) → met ≡ sorted (met_of roots p view) → ((n : Name) → has set n ≡ has met n) → names ≡ sorted (met ++ names_of view) → made ≡ collect (λ n. new_entry (has set n) p view n) names → made ≡ new_view roots p view
made_is roots p view met set names made is f all c =
    let same : (n : Name) → has met n ≡ has (met_of roots p view) n = λ n. ap (λ l. has l n) is ∙ sorted_has (met_of roots p view) n in
    c
    ∙ collect_same (λ n. new_entry (has set n) p view n) (λ n. new_entry (has (met_of roots p view) n) p view n) names (λ n. ap (λ b. new_entry b p view n) (f n ∙ same n))
    ∙ ap (collect (λ n. new_entry (has (met_of roots p view) n) p view n)) (all ∙ same_sorted (met ++ names_of view) (met_of roots p view ++ names_of view) (λ n. has_append met (names_of view) n ∙ ap (λ b. b || has (names_of view) n) (same n) ∙ sym (has_append (met_of roots p view) (names_of view) n)))

-- A module more that was fetched.
pub staged_same : (p kept : Plan) (n : Name) (e : Entry) (more : View) → IsSamePlan p kept → more ≡ put_entry n e kept.staged → IsSamePlan (record p { staged = with_row n e p.staged }) (record kept { staged = more })
staged_same p kept n e more s h = record { kind = s.kind; replaced = s.replaced; staged = λ m. ap (λ (v : View). at v m) h ∙ put_as_row n e kept.staged p.staged s.staged m }
