-- Looking up in lists of entries by name.
use Rattle.std.proofs.Common.{◌≡◌, Bool, true, false, List, [], ◌∷◌, ◌++◌, refl, ap, sym, ◌∙◌}
use Rattle.std.specs.Prelude.{flat_map, cond, not, ◌||◌, Option, Some, None, is_some, if◌then◌else◌}
use Rattle.std.proofs.lemmas.Bool.{false≢true}
use Rattle.core_model.specs.Names.{Name, same_name, has, at, without, with_row, names_of, with_entry, collect}
use Rattle.core_model.proofs.Naming.{same_test, same_true, true_same, has_append, or_left, or_right}

module _ {X : Type 0} where
  pub both_ways : (b : Bool) (x : Option X) → x ≡ (if b then x else x)
  both_ways true x = refl
  both_ways false x = refl

  entry_at : (n m : Name) (o : Option X) (rows : List (Name × X)) → at (with_entry n o rows) m ≡ (if same_name n m then (if is_some o then o else at rows m) else at rows m)
  entry_at n m None rows = both_ways (same_name n m) (at rows m)
  entry_at n m (Some x) rows = refl

  collect_step : (get : Name → Option X) (n m : Name) (b : Bool) (rows : List (Name × X)) → (b ≡ true → n ≡ m) → (listed : Bool) → at rows m ≡ (if listed then get m else None) → (o : Option X) → get n ≡ o → (if b then (if is_some o then o else at rows m) else at rows m) ≡ (if b || listed then get m else None)
  collect_step get n m false rows e listed h o g = h
  collect_step get n m true rows e listed h (Some k) g = sym g ∙ ap get (e refl)
  collect_step get n m true rows e true h None g = h
  collect_step get n m true rows e false h None g = h ∙ sym g ∙ ap get (e refl)

  -- what is collected over a list of names is what get has for them
  pub at_collect : (get : Name → Option X) (names : List Name) (m : Name) → at (collect get names) m ≡ (if has names m then get m else None)
  at_collect get [] m = refl
  at_collect get (n ∷ names) m = entry_at n m (get n) (collect get names) ∙ collect_step get n m (same_name n m) (collect get names) (same_true n m) (has names m) (at_collect get names m) (get n) refl

  names_step : (b : Bool) (x : X) (o : Option X) (c : Bool) → is_some o ≡ c → is_some (if b then Some x else o) ≡ (b || c)
  names_step true x o c h = refl
  names_step false x o c h = h

  -- an entry is there where the name is among the names
  pub named : (rows : List (Name × X)) (n : Name) → is_some (at rows n) ≡ has (names_of rows) n
  named [] n = refl
  named (row ∷ rows) n = names_step (same_name row.0 n) row.1 (at rows n) (has (names_of rows) n) (named rows n)

  -- the names that an entry lists, and none where there is no entry
  abbrev pub listed_in : (X → List Name) → Option X → List Name
  listed_in get None = []
  listed_in get (Some x) = get x

  over_step : (get : X → List Name) (b : Bool) (x : X) (o : Option X) (m : Name) (rest : List Name) → (has (listed_in get o) m ≡ true → has rest m ≡ true) → has (listed_in get (if b then Some x else o)) m ≡ true → has (get x ++ rest) m ≡ true
  over_step get true x o m rest f h = has_append (get x) rest m ∙ or_left (has (get x) m) _ h
  over_step get false x o m rest f h = has_append (get x) rest m ∙ or_right (has (get x) m) _ (f h)

  -- what an entry lists is among what all entries list
  pub listed_over : (get : X → List Name) (rows : List (Name × X)) (n m : Name) → has (listed_in get (at rows n)) m ≡ true → has (flat_map (λ row. get row.1) rows) m ≡ true
  listed_over get [] n m h = h
  listed_over get (row ∷ rows) n m h = over_step get (same_name row.0 n) row.1 (at rows n) m (flat_map (λ row. get row.1) rows) (listed_over get rows n m) h

  lister_step : (get : X → List Name) (o : Option X) (m : Name) → has (listed_in get o) m ≡ true → is_some o ≡ true
  lister_step get None m h = h
  lister_step get (Some x) m h = refl

  -- what lists something is among the names
  pub lister_named : (get : X → List Name) (rows : List (Name × X)) (n m : Name) → has (listed_in get (at rows n)) m ≡ true → has (names_of rows) n ≡ true
  lister_named get rows n m h = sym (named rows n) ∙ lister_step get (at rows n) m h

  -- a row that is left out, or not, and the first of its name, or not
  pub without_step : (a c b : Bool) (x : X) (more rest : Option X) → (c ≡ true → a ≡ b) → rest ≡ (if b then None else more) → (if not a then (if c then Some x else rest) else rest) ≡ (if b then None else (if c then Some x else more))
  without_step true false b x more rest e h = h
  without_step false false b x more rest e h = h
  without_step true true true x more rest e h = h
  without_step true true false x more rest e h = absurd (false≢true (sym (e refl)))
  without_step false true true x more rest e h = absurd (false≢true (e refl))
  without_step false true false x more rest e h = refl

  pub filtered_row : (keep : Bool) (row : Name × X) (rows : List (Name × X)) (m : Name) → at (cond keep (row ∷ rows) rows) m ≡ (if keep then (if same_name row.0 m then Some row.1 else at rows m) else at rows m)
  filtered_row true row rows m = refl
  filtered_row false row rows m = refl

  -- the entries of other names, looked up
  pub at_without : (n : Name) (rows : List (Name × X)) (m : Name) → at (without n rows) m ≡ (if same_name n m then None else at rows m)
  at_without n [] m = both_ways (same_name n m) None
  at_without n (row ∷ rows) m = filtered_row (not (same_name row.0 n)) row (without n rows) m
      ∙ without_step (same_name row.0 n) (same_name row.0 m) (same_name n m) row.1 (at rows m) (at (without n rows) m) (λ e. ap (λ k. same_name k n) (same_true row.0 m e) ∙ either_way m n) (at_without n rows m)
    where
      either_way : (k j : Name) → same_name k j ≡ same_name j k
      either_way k j = same_test _ _ (λ h. true_same j k (sym (same_true k j h))) (λ h. true_same k j (sym (same_true j k h)))

  pub row_step : (b : Bool) (x : X) (o : Option X) → (if b then Some x else (if b then None else o)) ≡ (if b then Some x else o)
  row_step true x o = refl
  row_step false x o = refl

  -- an entry in place of a name's own, looked up
  pub at_with_row : (n : Name) (x : X) (rows : List (Name × X)) (m : Name) → at (with_row n x rows) m ≡ (if same_name n m then Some x else at rows m)
  at_with_row n x rows m = ap (λ o. if same_name n m then Some x else o) (at_without n rows m) ∙ row_step (same_name n m) x (at rows m)
