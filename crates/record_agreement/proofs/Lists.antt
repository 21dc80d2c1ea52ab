-- What holds of each element of a list, and of the lists that are made of it.
use Rattle.std.proofs.Common.{ℕ, zero, suc, ◌+◌, List, [], ◌∷◌, ◌++◌, length, Bool, true, false, cond, map, Option, Some, None}
use Rattle.std.specs.Prelude.{filter, flat_map, IfSome, not}
use Rattle.std.specs.Option.{option_map}
use Rattle.std.specs.List.{AllByRecursion}
use Rattle.std.specs.Ordering.{nat_cmp, is_lt}
use Rattle.std.specs.Cmp.Lexicographic.{slice_cmp}
use Rattle.core_model.specs.Names.{Name, at, collect, has, put_name, same_name, sorted, with_entry, with_row, without, without_all}
use Rattle.core_model.specs.LeastPath.{least, least_from, least_path_of, lesser, or_next, path_cmp, shortest}
use Rattle.core_model.specs.Rounds.{on_new, reached_of, rounds, touched}

-- each element has this
abbrev pub Each : {X : Type 0} → (X → Type 0) → List X → Type 0
Each P xs = AllByRecursion P xs

module _ {X : Type 0} (P : X → Type 0) where
  pub each_cond : (b : Bool) (xs ys : List X) → Each P xs → Each P ys → Each P (cond b xs ys)
  each_cond true xs ys g h = g
  each_cond false xs ys g h = h

  pub each_filter : (t : X → Bool) (xs : List X) → Each P xs → Each P (filter t xs)
  each_filter t [] h = tt
  each_filter t (x ∷ xs) h = each_cond (t x) (x ∷ filter t xs) (filter t xs) (h.0, each_filter t xs h.1) (each_filter t xs h.1)

  pub each_append : (xs ys : List X) → Each P xs → Each P ys → Each P (xs ++ ys)
  each_append [] ys g h = h
  each_append (x ∷ xs) ys g h = (g.0, each_append xs ys g.1 h)

pub each_weaker : {X : Type 0} (P Q : X → Type 0) (xs : List X) → ((x : X) → P x → Q x) → Each P xs → Each Q xs
each_weaker P Q [] on h = tt
each_weaker P Q (x ∷ xs) on h = (on x h.0, each_weaker P Q xs on h.1)

pub each_map : {X Y : Type 0} (P : X → Type 0) (Q : Y → Type 0) (f : X → Y) (xs : List X) → ((x : X) → P x → Q (f x)) → Each P xs → Each Q (map f xs)
each_map P Q f [] on h = tt
each_map P Q f (x ∷ xs) on h = (on x h.0, each_map P Q f xs on h.1)

pub each_flat : {X Y : Type 0} (P : X → Type 0) (Q : Y → Type 0) (f : X → List Y) (xs : List X) → ((x : X) → P x → Each Q (f x)) → Each P xs → Each Q (flat_map f xs)
each_flat P Q f [] on h = tt
each_flat P Q f (x ∷ xs) on h = each_append Q (f x) (flat_map f xs) (on x h.0) (each_flat P Q f xs on h.1)

-- ---- names

module _ (P : Name → Type 0) where
  pub each_put : (n : Name) (ms : List Name) → P n → Each P ms → Each P (put_name n ms)
  each_put n [] g h = (g, tt)
  each_put n (m ∷ ms) g h =
      each_cond P (same_name n m) (m ∷ ms) (cond (is_lt (slice_cmp nat_cmp n m)) (n ∷ (m ∷ ms)) (m ∷ put_name n ms)) h
      (each_cond P (is_lt (slice_cmp nat_cmp n m)) (n ∷ (m ∷ ms)) (m ∷ put_name n ms) (g, h) (h.0, each_put n ms g h.1))

  pub each_sorted : (ns : List Name) → Each P ns → Each P (sorted ns)
  each_sorted [] h = tt
  each_sorted (n ∷ ns) h = each_put n (sorted ns) h.0 (each_sorted ns h.1)

  each_new : (new stop more : List Name) → Each P stop → Each P more → Each P (on_new new stop more)
  each_new [] stop more g h = g
  each_new (x ∷ xs) stop more g h = h

  each_rounds : (edge : Name → Name → Bool) (k : ℕ) (left known : List Name) → Each P left → Each P known → Each P (rounds edge k left known)
  each_rounds edge zero left known g h = h
  each_rounds edge (suc k) left known g h =
      let new = each_filter P (touched edge known) left g in
      each_new (filter (touched edge known) left) known (rounds edge k (filter (λ m. not (touched edge known m)) left) (known ++ filter (touched edge known) left)) h
      (each_rounds edge k (filter (λ m. not (touched edge known m)) left) (known ++ filter (touched edge known) left)
      (each_filter P (λ m. not (touched edge known m)) left g) (each_append P known (filter (touched edge known) left) h new))

  pub each_reached : (edge : Name → Name → Bool) (names starts : List Name) → Each P names → Each P starts → Each P (reached_of edge names starts)
  each_reached edge names starts g h = each_rounds edge (length names) names starts g h

  -- ---- the least path

  abbrev Path : Option (List Name) → Type 0
  Path o = IfSome o (Each P)

  path_cond : (b : Bool) (p q : Option (List Name)) → Path p → Path q → Path (cond b p q)
  path_cond true p q g h = g
  path_cond false p q g h = h

  lesser_path : (p q : Option (List Name)) → Path p → Path q → Path (lesser p q)
  lesser_path None q g h = h
  lesser_path (Some p) None g h = g
  lesser_path (Some p) (Some q) g h = path_cond (is_lt (path_cmp q p)) (Some q) (Some p) h g

  least_named : (f : Name → Option (List Name)) (ns : List Name) → ((n : Name) → P n → Path (f n)) → Each P ns → Path (least f ns)
  least_named f [] on h = tt
  least_named f (n ∷ ns) on h = lesser_path (f n) (least f ns) (on n h.0) (least_named f ns on h.1)

  with_first : (n : Name) (o : Option (List Name)) → P n → Path o → Path (option_map (λ path. n ∷ path) o)
  with_first n None g h = tt
  with_first n (Some path) g h = (g, h)

  from_named : (edge : Name → Name → Bool) (names : List Name) (bad : Name → Bool) (k : ℕ) (n : Name) → Each P names → P n → Path (least_from edge names bad k n)
  from_named edge names bad zero n g h = path_cond (bad n) (Some (n ∷ [])) None (h, tt) tt
  from_named edge names bad (suc k) n g h =
      with_first n (least (least_from edge names bad k) (filter (edge n) names)) h
      (least_named (least_from edge names bad k) (filter (edge n) names) (λ m is. from_named edge names bad k m g is) (each_filter P (edge n) names g))

  next_named : (p q : Option (List Name)) → Path p → Path q → Path (or_next p q)
  next_named None q g h = h
  next_named (Some p) q g h = g

  shortest_named : (f : ℕ → Option (List Name)) (k more : ℕ) → ((k : ℕ) → Path (f k)) → Path (shortest f k more)
  shortest_named f k zero on = tt
  shortest_named f k (suc more) on = next_named (f k) (shortest f (suc k) more) (on k) (shortest_named f (suc k) more on)

  pub least_path_named : (edge : Name → Name → Bool) (names starts : List Name) (bad : Name → Bool) → Each P names → Each P starts → Path (least_path_of edge names starts bad)
  least_path_named edge names starts bad g h =
      shortest_named (λ k. least (least_from edge names bad k) starts) 0 (1 + length names)
      (λ k. least_named (least_from edge names bad k) starts (λ n is. from_named edge names bad k n g is) h)

-- ---- rows

module _ {X : Type 0} (Q : X → Type 0) where
  at_cond : (b : Bool) (x : X) (o : Option X) → Q x → IfSome o Q → IfSome (cond b (Some x) o) Q
  at_cond true x o g h = g
  at_cond false x o g h = h

  pub at_each : (rows : List (Name × X)) (n : Name) → Each (λ row. Q row.1) rows → IfSome (at rows n) Q
  at_each [] n h = tt
  at_each (row ∷ rows) n h = at_cond (same_name row.0 n) row.1 (at rows n) h.0 (at_each rows n h.1)

module _ {X : Type 0} (R : Name × X → Type 0) where
  pub each_with_row : (n : Name) (x : X) (rows : List (Name × X)) → R (n, x) → Each R rows → Each R (with_row n x rows)
  each_with_row n x rows g h = (g, each_filter R (λ row. not (same_name row.0 n)) rows h)

  pub each_without : (n : Name) (rows : List (Name × X)) → Each R rows → Each R (without n rows)
  each_without n rows h = each_filter R (λ row. not (same_name row.0 n)) rows h

  pub each_without_all : (ns : List Name) (rows : List (Name × X)) → Each R rows → Each R (without_all ns rows)
  each_without_all ns rows h = each_filter R (λ row. not (has ns row.0)) rows h

  entry_named : (n : Name) (o : Option X) (rows : List (Name × X)) → IfSome o (λ x. R (n, x)) → Each R rows → Each R (with_entry n o rows)
  entry_named n None rows g h = h
  entry_named n (Some x) rows g h = (g, h)

  pub each_collect : (P : Name → Type 0) (get : Name → Option X) (ns : List Name) → ((n : Name) → P n → IfSome (get n) (λ x. R (n, x))) → Each P ns → Each R (collect get ns)
  each_collect P get [] on h = tt
  each_collect P get (n ∷ ns) on h = entry_named n (get n) (collect get ns) (on n h.0) (each_collect P get ns on h.1)
