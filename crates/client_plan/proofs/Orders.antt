-- The walk of a plan leaves each module once, and so each new instance has a place of its own.
use Rattle.std.proofs.Common.{◌≡◌, ◌⊎◌, inl, inr, ℕ, zero, suc, ◌+◌, Bool, true, false, List, [], ◌∷◌, ◌++◌, refl, ap, sym, ◌∙◌, arith}
use Rattle.std.specs.Prelude.{filter, fold, cond, ◌||◌, if◌then◌else◌, ⊤}
use Rattle.std.proofs.Math.Path.{subst}
use Rattle.std.proofs.lemmas.Bool.{false≢true}
use Rattle.core_model.specs.Names.{Name, same_name, has}
use Rattle.core_model.specs.View.{View}
use Rattle.core_model.specs.Page.{Plan}
use Rattle.core_model.proofs.Naming.{or_cases, or_left, or_right, same_true, true_same, filtered_from, false_from, neither, has_more, more_left, more_last, more_cases}
use Rattle.client_model.specs.Order.{Walked, met_too, left_too, visit, walk, depth_of, next_of, evaluation_order}
use Rattle.client_model.specs.Linking.{new_names, place_of}
use Rattle.client_model.specs.Runtime.{Runtime}

-- no name twice
abbrev pub Distinct : List Name → Type 0
Distinct [] = ⊤
Distinct (n ∷ names) = (has names n ≡ false) × Distinct names

or_both : (a b : Bool) → a ≡ false → b ≡ false → (a || b) ≡ false
or_both true b h k = absurd (false≢true (sym h))
or_both false b h k = k

pub distinct_more : (names : List Name) (n : Name) → has names n ≡ false → Distinct names → Distinct (names ++ n ∷ [])
distinct_more [] n h d = (refl, tt)
distinct_more (m ∷ names) n h d =
    let parts = neither (same_name m n) (has names n) h in
    (has_more names n m ∙ or_both (has names m) (same_name n m || false) d.0 (or_both (same_name n m) false (false_from (same_name n m) (λ s. false≢true (sym parts.0 ∙ true_same m n (sym (same_true n m s))))) refl), distinct_more names n parts.1 d.1)

-- What is left was met, each name once; and a name that is still being visited isn't left.
record Ordered (open_names : List Name) (w : Walked) : Type 0 where
  once : Distinct w.left
  met : (m : Name) → has w.left m ≡ true → has w.met m ≡ true
  opens : (m : Name) → has open_names m ≡ true → (has w.left m ≡ false) × (has w.met m ≡ true)

module _ (next : Name → List Name) where
  abbrev KeepsOrdered : (List Name → Walked → Walked) → Type 0
  KeepsOrdered deeper = (open_names from : List Name) (w : Walked) → Ordered open_names w → Ordered open_names (deeper from w)

  met_ordered : (open_names : List Name) (n : Name) (w : Walked) → has w.met n ≡ false → Ordered open_names w → Ordered (n ∷ open_names) (met_too n w)
  met_ordered open_names n w e o = record {
    once = o.once;
    met = λ m h. more_left w.met n m (o.met m h);
    opens = λ m h. by m (or_cases (same_name n m) (has open_names m) h);
  }
    where
      by : (m : Name) → (same_name n m ≡ true) ⊎ (has open_names m ≡ true) → (has w.left m ≡ false) × (has (met_too n w).met m ≡ true)
      by m (inl s) = subst (λ k. (has w.left k ≡ false) × (has (met_too n w).met k ≡ true)) (same_true n m s) (false_from (has w.left n) (λ h. false≢true (sym e ∙ o.met n h)), more_last w.met n)
      by m (inr t) = ((o.opens m t).0, more_left w.met n m (o.opens m t).1)

  left_ordered : (open_names : List Name) (n : Name) (w : Walked) → has open_names n ≡ false → Ordered (n ∷ open_names) w → Ordered open_names (left_too n w)
  left_ordered open_names n w e o = record {
    once = distinct_more w.left n (o.opens n (or_left (same_name n n) _ (true_same n n refl))).0 o.once;
    met = λ m h. met_by m (more_cases w.left n m h);
    opens = λ m h. (has_more w.left n m ∙ or_both (has w.left m) _ (o.opens m (or_right (same_name n m) _ h)).0 (or_both (same_name n m) false (false_from (same_name n m) (λ s. false≢true (sym e ∙ ap (has open_names) (same_true n m s) ∙ h))) refl), (o.opens m (or_right (same_name n m) _ h)).1);
  }
    where
      met_by : (m : Name) → (has w.left m ≡ true) ⊎ (n ≡ m) → has w.met m ≡ true
      met_by m (inl a) = o.met m a
      met_by m (inr b) = (o.opens m (or_left (same_name n m) _ (true_same n m b))).1

  visit_if : (open_names : List Name) (n : Name) (b : Bool) (w v : Walked) → has w.met n ≡ b → Ordered open_names w → (b ≡ false → Ordered (n ∷ open_names) v) → Ordered open_names (if b then w else left_too n v)
  visit_if open_names n true w v e o f = o
  visit_if open_names n false w v e o f = left_ordered open_names n v (false_from (has open_names n) (λ h. false≢true (sym e ∙ (o.opens n h).1))) (f refl)

  visit_ordered : (deeper : List Name → Walked → Walked) → KeepsOrdered deeper → (open_names : List Name) (w : Walked) (n : Name) → Ordered open_names w → Ordered open_names (visit deeper next w n)
  visit_ordered deeper keeps open_names w n o = visit_if open_names n (has w.met n) w (deeper (next n) (met_too n w)) refl o (λ e. keeps (n ∷ open_names) (next n) (met_too n w) (met_ordered open_names n w e o))

  fold_ordered : (deeper : List Name → Walked → Walked) → KeepsOrdered deeper → (open_names from : List Name) (w : Walked) → Ordered open_names w → Ordered open_names (fold (visit deeper next) w from)
  fold_ordered deeper keeps open_names [] w o = o
  fold_ordered deeper keeps open_names (n ∷ from) w o = fold_ordered deeper keeps open_names from (visit deeper next w n) (visit_ordered deeper keeps open_names w n o)

  walk_ordered : (depth : ℕ) → KeepsOrdered (walk depth next)
  walk_ordered zero open_names from w o = o
  walk_ordered (suc depth) open_names from w o = fold_ordered (walk depth next) (walk_ordered depth) open_names from w o

-- a plan's walk leaves each module once
pub left_once : (roots : List Name) (p : Plan) (view : View) → Distinct (evaluation_order roots p view)
left_once roots p view = (walk_ordered (next_of p view) (depth_of roots p view) [] roots (record { met = []; left = [] })
    (record { once = tt; met = λ m h. absurd (false≢true h); opens = λ m h. absurd (false≢true h) })).once

pub filter_once : (p : Name → Bool) (names : List Name) → Distinct names → Distinct (filter p names)
filter_once p [] d = tt
filter_once p (n ∷ names) d = by (p n) (filter_once p names d.1)
  where
    by : (b : Bool) → Distinct (filter p names) → Distinct (cond b (n ∷ filter p names) (filter p names))
    by true k = (false_from (has (filter p names) n) (λ h. false≢true (sym d.0 ∙ (filtered_from p names n h).1)), k)
    by false k = k

-- so does a plan's list of new names
pub names_once : (p : Plan) (r : Runtime) → Distinct (new_names p r)
names_once p r = filter_once _ (evaluation_order r.roots p r.page.view) (left_once r.roots p r.page.view)

-- The places of names count up.

abbrev pub CountsFrom : ℕ → (Name → ℕ) → List Name → Type 0
CountsFrom k f [] = ⊤
CountsFrom k f (n ∷ names) = (f n ≡ k) × CountsFrom (suc k) f names

counts_same : (k : ℕ) (f g : Name → ℕ) (names : List Name) → ((n : Name) → has names n ≡ true → f n ≡ g n) → CountsFrom k f names → CountsFrom k g names
counts_same k f g [] h c = tt
counts_same k f g (n ∷ names) h c = (sym (h n (or_left (same_name n n) _ (true_same n n refl))) ∙ c.0, counts_same (suc k) f g names (λ m t. h m (or_right (same_name n m) _ t)) c.1)

pub places_count : (k : ℕ) (names : List Name) → Distinct names → CountsFrom k (λ n. k + place_of names n) names
places_count k [] d = tt
places_count k (n ∷ names) d = (first (same_name n n) (true_same n n refl), counts_same (suc k) (λ m. suc k + place_of names m) (λ m. k + place_of (n ∷ names) m) names (λ m h. rest m (same_name n m) refl h) (places_count (suc k) names d.1))
  where
    first : (b : Bool) → b ≡ true → k + (if b then zero else suc (place_of names n)) ≡ k
    first true e = omega arith
    first false e = absurd (false≢true e)

    rest : (m : Name) (b : Bool) → same_name n m ≡ b → has names m ≡ true → suc k + place_of names m ≡ k + (if b then zero else suc (place_of names m))
    rest m true e h = absurd (false≢true (sym d.0 ∙ ap (has names) (same_true n m e) ∙ h))
    rest m false e h = omega arith
