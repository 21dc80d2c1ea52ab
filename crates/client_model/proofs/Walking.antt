-- The walk meets exactly what lists of imports reach, and leaves whatever it met.
use Rattle.std.proofs.Common.{◌≡◌, ◌↔◌, ◌⊎◌, inl, inr, ℕ, zero, suc, ◌<◌, ◌≤◌, Bool, true, false, List, [], ◌∷◌, ◌++◌, length, refl, ap, sym, ◌∙◌, arith}
use Rattle.std.specs.Prelude.{filter, fold, not, ◌||◌, cond, if◌then◌else◌}
use Rattle.std.proofs.Math.Path.{subst}
use Rattle.std.proofs.lemmas.Bool.{false≢true}
use Rattle.core_model.specs.Names.{Name, same_name, has}
use Rattle.core_model.specs.Paths.{Reaches}
use Rattle.core_model.specs.Rounds.{IsOver}
use Rattle.core_model.specs.View.{View, imported_of}
use Rattle.core_model.specs.Page.{Plan, plan_imports}
use Rattle.core_model.proofs.Naming.{cases_bool, same_true, true_same, has_is, or_cases, or_left, or_right, has_append, has_more, more_left, more_last, more_cases}
use Rattle.core_model.proofs.Reaching.{reaches_on, reaches_start, reaches_within}
use Rattle.core_model.proofs.Planning.{plan_over}
use Rattle.client_model.specs.Order.{Walked, met_too, left_too, visit, walk, depth_of, next_of, walked, fetch_order, evaluation_order}

or_false : (b : Bool) → (b || false) ≡ true → b ≡ true
or_false true h = h
or_false false h = h

-- What is met is reached.

module _ (next : Name → List Name) (starts : List Name) where
  abbrev Edge : Name → Name → Bool
  Edge n m = has (next n) m

  abbrev Sound : Walked → Type 0
  Sound w = (m : Name) → has w.met m ≡ true → Reaches Edge starts m

  abbrev KeepsSound : (List Name → Walked → Walked) → Type 0
  KeepsSound deeper = (names : List Name) (w : Walked) → ((n : Name) → has names n ≡ true → Reaches Edge starts n) → Sound w → Sound (deeper names w)

  met_sound : (n : Name) (w : Walked) → Reaches Edge starts n → Sound w → Sound (met_too n w)
  met_sound n w r s m h = by (more_cases w.met n m h)
    where
      by : (has w.met m ≡ true) ⊎ (n ≡ m) → Reaches Edge starts m
      by (inl a) = s m a
      by (inr e) = subst (Reaches Edge starts) e r

  sound_if : (b : Bool) (w v : Walked) → Sound w → Sound v → Sound (if b then w else v)
  sound_if true w v s t = s
  sound_if false w v s t = t

  visit_sound : (deeper : List Name → Walked → Walked) → KeepsSound deeper → (w : Walked) (n : Name) → Reaches Edge starts n → Sound w → Sound (visit deeper next w n)
  visit_sound deeper keeps w n r s = sound_if (has w.met n) w (left_too n (deeper (next n) (met_too n w))) s (keeps (next n) (met_too n w) (λ m h. reaches_on Edge starts n m r h) (met_sound n w r s))

  fold_sound : (deeper : List Name → Walked → Walked) → KeepsSound deeper → (names : List Name) (w : Walked) → ((n : Name) → has names n ≡ true → Reaches Edge starts n) → Sound w → Sound (fold (visit deeper next) w names)
  fold_sound deeper keeps [] w r s = s
  fold_sound deeper keeps (n ∷ names) w r s = fold_sound deeper keeps names (visit deeper next w n) (λ m h. r m (or_right (same_name n m) _ h)) (visit_sound deeper keeps w n (r n (or_left (same_name n n) _ (true_same n n refl))) s)

  walk_sound : (depth : ℕ) → KeepsSound (walk depth next)
  walk_sound zero names w r s = s
  walk_sound (suc depth) names w r s = fold_sound (walk depth next) (walk_sound depth) names w r s

-- What is reached is met.

-- a filter that passes less is no longer
filter_step : (a b : Bool) (x : Name) (xs ys : List Name) → (b ≡ true → a ≡ true) → length xs ≤ length ys → length (cond b (x ∷ xs) xs) ≤ length (cond a (x ∷ ys) ys)
filter_step true true x xs ys f h = omega (arith, h)
filter_step true false x xs ys f h = omega (arith, h)
filter_step false true x xs ys f h = absurd (false≢true (f refl))
filter_step false false x xs ys f h = h

no_longer : (p q : Name → Bool) → ((m : Name) → q m ≡ true → p m ≡ true) → (xs : List Name) → length (filter q xs) ≤ length (filter p xs)
no_longer p q f [] = omega arith
no_longer p q f (x ∷ xs) = filter_step (p x) (q x) x (filter q xs) (filter p xs) (f x) (no_longer p q f xs)

-- and shorter where it loses a name of the list
lose_here : (a b : Bool) (x : Name) (xs ys : List Name) → a ≡ true → b ≡ false → length xs ≤ length ys → length (cond b (x ∷ xs) xs) < length (cond a (x ∷ ys) ys)
lose_here true true x xs ys e g h = absurd (false≢true (sym g))
lose_here true false x xs ys e g h = omega (arith, h)
lose_here false b x xs ys e g h = absurd (false≢true e)

lose_later : (a b : Bool) (x : Name) (xs ys : List Name) → (b ≡ true → a ≡ true) → length xs < length ys → length (cond b (x ∷ xs) xs) < length (cond a (x ∷ ys) ys)
lose_later true true x xs ys f h = omega (arith, h)
lose_later true false x xs ys f h = omega (arith, h)
lose_later false true x xs ys f h = absurd (false≢true (f refl))
lose_later false false x xs ys f h = h

shorter : (p q : Name → Bool) → ((m : Name) → q m ≡ true → p m ≡ true) → (xs : List Name) (n : Name) → p n ≡ true → q n ≡ false → has xs n ≡ true → length (filter q xs) < length (filter p xs)
shorter p q f [] n e g h = absurd (false≢true h)
shorter p q f (x ∷ xs) n e g h = by (shorter p q f xs n e g) (or_cases (same_name x n) (has xs n) h)
  where
    by : (has xs n ≡ true → length (filter q xs) < length (filter p xs)) → (same_name x n ≡ true) ⊎ (has xs n ≡ true) → length (filter q (x ∷ xs)) < length (filter p (x ∷ xs))
    by rest (inl s) = lose_here (p x) (q x) x (filter q xs) (filter p xs) (ap p (same_true x n s) ∙ e) (ap q (same_true x n s) ∙ g) (no_longer p q f xs)
    by rest (inr t) = lose_later (p x) (q x) x (filter q xs) (filter p xs) (f x) (rest t)

not_grown : (a b : Bool) → (a ≡ true → b ≡ true) → not b ≡ true → not a ≡ true
not_grown true b f h = absurd (false≢true (ap not (sym (f refl)) ∙ h))
not_grown false b f h = refl

module _ (next : Name → List Name) (names : List Name) (over : IsOver (λ n m. has (next n) m) names) where
  abbrev unmet : Walked → ℕ
  unmet w = length (filter (λ n. not (has w.met n)) names)

  abbrev Grown : Walked → Walked → Type 0
  Grown w v = (m : Name) → has w.met m ≡ true → has v.met m ≡ true

  -- from w to v these names were met, and whatever the new ones lead to
  record Covers (w v : Walked) (from : List Name) : Type 0 where
    all : (n : Name) → has from n ≡ true → has v.met n ≡ true
    grown : Grown w v
    closed : (n m : Name) → has w.met n ≡ false → has v.met n ≡ true → has (next n) m ≡ true → has v.met m ≡ true

  fewer : (w v : Walked) → Grown w v → unmet v ≤ unmet w
  fewer w v g = no_longer (λ n. not (has w.met n)) (λ n. not (has v.met n)) (λ m. not_grown (has w.met m) (has v.met m) (g m)) names

  met_grown : (n : Name) (w : Walked) → Grown w (met_too n w)
  met_grown n w m h = more_left w.met n m h

  one_fewer : (n : Name) (w : Walked) → has names n ≡ true → has w.met n ≡ false → unmet (met_too n w) < unmet w
  one_fewer n w h e = shorter (λ m. not (has w.met m)) (λ m. not (has (met_too n w).met m)) (λ m. not_grown (has w.met m) (has (met_too n w).met m) (met_grown n w m)) names n (ap not e) (ap not (more_last w.met n)) h

  abbrev CoversWithin : ℕ → (List Name → Walked → Walked) → Type 0
  CoversWithin depth deeper = (from : List Name) (w : Walked) → ((n : Name) → has from n ≡ true → has names n ≡ true) → unmet w < depth → Covers w (deeper from w) from

  same_covers : (n : Name) (w : Walked) → has w.met n ≡ true → Covers w w (n ∷ [])
  same_covers n w h = record { all = λ m e. subst (λ k. has w.met k ≡ true) (same_true n m (or_false (same_name n m) e)) h; grown = λ m e. e; closed = λ k m e g by. absurd (false≢true (sym e ∙ g)) }

  new_closed : (n : Name) (w v : Walked) → Covers (met_too n w) v (next n) → (k m : Name) → has w.met k ≡ false → has v.met k ≡ true → has (next k) m ≡ true → (has (met_too n w).met k ≡ true) ⊎ (has (met_too n w).met k ≡ false) → has v.met m ≡ true
  new_closed n w v c k m e g by (inr f) = c.closed k m f g by
  new_closed n w v c k m e g by (inl t) = by_case (more_cases w.met n k t)
    where
      by_case : (has w.met k ≡ true) ⊎ (n ≡ k) → has v.met m ≡ true
      by_case (inl old) = absurd (false≢true (sym e ∙ old))
      by_case (inr same) = c.all m (subst (λ j. has (next j) m ≡ true) (sym same) by)

  new_covers : (n : Name) (w v : Walked) → Covers (met_too n w) v (next n) → Covers w (left_too n v) (n ∷ [])
  new_covers n w v c = record {
    all = λ m e. subst (λ k. has v.met k ≡ true) (same_true n m (or_false (same_name n m) e)) (c.grown n (more_last w.met n));
    grown = λ m h. c.grown m (met_grown n w m h);
    closed = λ k m e g by. new_closed n w v c k m e g by (cases_bool (has (met_too n w).met k));
  }

  visit_if : (b : Bool) (n : Name) (w v : Walked) → has w.met n ≡ b → (b ≡ false → Covers (met_too n w) v (next n)) → Covers w (if b then w else left_too n v) (n ∷ [])
  visit_if true n w v e f = same_covers n w e
  visit_if false n w v e f = new_covers n w v (f refl)

  visit_covers : (depth : ℕ) (deeper : List Name → Walked → Walked) → CoversWithin depth deeper → (w : Walked) (n : Name) → has names n ≡ true → unmet w < suc depth → Covers w (visit deeper next w n) (n ∷ [])
  visit_covers depth deeper covers w n h l = visit_if (has w.met n) n w (deeper (next n) (met_too n w)) refl (λ e. covers (next n) (met_too n w) (λ m k. over n m k) (omega (arith, l, one_fewer n w h e)))

  fold_covers : (depth : ℕ) (deeper : List Name → Walked → Walked) → CoversWithin depth deeper → (from : List Name) (w : Walked) → ((n : Name) → has from n ≡ true → has names n ≡ true) → unmet w < suc depth → Covers w (fold (visit deeper next) w from) from
  fold_covers depth deeper covers [] w h l = record { all = λ n e. absurd (false≢true e); grown = λ m e. e; closed = λ n m e g by. absurd (false≢true (sym e ∙ g)) }
  fold_covers depth deeper covers (n ∷ from) w h l =
      let first : Covers w (visit deeper next w n) (n ∷ []) = visit_covers depth deeper covers w n (h n (or_left (same_name n n) _ (true_same n n refl))) l in
      let rest : Covers (visit deeper next w n) (fold (visit deeper next) (visit deeper next w n) from) from = fold_covers depth deeper covers from (visit deeper next w n) (λ m k. h m (or_right (same_name n m) _ k)) (omega (arith, l, fewer w (visit deeper next w n) first.grown)) in
      both_cover n from w (visit deeper next w n) (fold (visit deeper next) (visit deeper next w n) from) first rest
    where
      both_cover : (n : Name) (from : List Name) (w v u : Walked) → Covers w v (n ∷ []) → Covers v u from → Covers w u (n ∷ from)
      both_cover n from w v u first rest = record {
        all = λ m e. all_by m (or_cases (same_name n m) (has from m) e);
        grown = λ m e. rest.grown m (first.grown m e);
        closed = λ k m e g by. closed_by k m e g by (cases_bool (has v.met k));
      }
        where
          all_by : (m : Name) → (same_name n m ≡ true) ⊎ (has from m ≡ true) → has u.met m ≡ true
          all_by m (inl s) = rest.grown m (first.all m (or_left (same_name n m) false s))
          all_by m (inr t) = rest.all m t

          closed_by : (k m : Name) → has w.met k ≡ false → has u.met k ≡ true → has (next k) m ≡ true → (has v.met k ≡ true) ⊎ (has v.met k ≡ false) → has u.met m ≡ true
          closed_by k m e g by (inl t) = rest.grown m (first.closed k m e t by)
          closed_by k m e g by (inr f) = rest.closed k m f g by

  walk_covers : (depth : ℕ) → CoversWithin depth (walk depth next)
  walk_covers zero from w h l = absurd (omega (arith, l))
  walk_covers (suc depth) from w h l = fold_covers depth (walk depth next) (walk_covers depth) from w h l

-- What is met is left, but for the names that are still being visited.

module _ (next : Name → List Name) where
  abbrev Agrees : List Name → Walked → Type 0
  Agrees open_names w = (m : Name) → has w.met m ≡ (has w.left m || has open_names m)

  abbrev KeepsAgrees : (List Name → Walked → Walked) → Type 0
  KeepsAgrees deeper = (open_names from : List Name) (w : Walked) → Agrees open_names w → Agrees open_names (deeper from w)

  met_agrees : (open_names : List Name) (n : Name) (w : Walked) → Agrees open_names w → Agrees (n ∷ open_names) (met_too n w)
  met_agrees open_names n w a m = has_more w.met n m ∙ ap (λ b. b || (same_name n m || false)) (a m) ∙ moved (has w.left m) (has open_names m) (same_name n m)
    where
      moved : (a b c : Bool) → ((a || b) || (c || false)) ≡ (a || (c || b))
      moved true b c = refl
      moved false true true = refl
      moved false true false = refl
      moved false false true = refl
      moved false false false = refl

  left_agrees : (open_names : List Name) (n : Name) (w : Walked) → Agrees (n ∷ open_names) w → Agrees open_names (left_too n w)
  left_agrees open_names n w a m = a m ∙ moved (has w.left m) (has open_names m) (same_name n m) ∙ ap (λ b. b || has open_names m) (sym (has_more w.left n m))
    where
      moved : (a b c : Bool) → (a || (c || b)) ≡ ((a || (c || false)) || b)
      moved true b c = refl
      moved false true true = refl
      moved false true false = refl
      moved false false true = refl
      moved false false false = refl

  agrees_if : (b : Bool) (open_names : List Name) (w v : Walked) → Agrees open_names w → Agrees open_names v → Agrees open_names (if b then w else v)
  agrees_if true open_names w v a c = a
  agrees_if false open_names w v a c = c

  visit_agrees : (deeper : List Name → Walked → Walked) → KeepsAgrees deeper → (open_names : List Name) (w : Walked) (n : Name) → Agrees open_names w → Agrees open_names (visit deeper next w n)
  visit_agrees deeper keeps open_names w n a = agrees_if (has w.met n) open_names w (left_too n (deeper (next n) (met_too n w))) a (left_agrees open_names n (deeper (next n) (met_too n w)) (keeps (n ∷ open_names) (next n) (met_too n w) (met_agrees open_names n w a)))

  fold_agrees : (deeper : List Name → Walked → Walked) → KeepsAgrees deeper → (open_names from : List Name) (w : Walked) → Agrees open_names w → Agrees open_names (fold (visit deeper next) w from)
  fold_agrees deeper keeps open_names [] w a = a
  fold_agrees deeper keeps open_names (n ∷ from) w a = fold_agrees deeper keeps open_names from (visit deeper next w n) (visit_agrees deeper keeps open_names w n a)

  walk_agrees : (depth : ℕ) → KeepsAgrees (walk depth next)
  walk_agrees zero open_names from w a = a
  walk_agrees (suc depth) open_names from w a = fold_agrees (walk depth next) (walk_agrees depth) open_names from w a

-- The plan's walk.

abbrev nothing_walked : Walked
nothing_walked = record { met = []; left = [] }

abbrev all_names : List Name → Plan → View → List Name
all_names roots p view = roots ++ (imported_of view ++ imported_of p.staged)

wide : (roots : List Name) (p : Plan) (view : View) → IsOver (plan_imports p view) (roots ++ (imported_of view ++ imported_of p.staged))
wide roots p view n m h = has_append roots _ m ∙ or_right (has roots m) _ (plan_over p view n m h)

start_short : (roots : List Name) (p : Plan) (view : View) → length (filter (λ (n : Name). not (has [] n)) (roots ++ (imported_of view ++ imported_of p.staged))) < depth_of roots p view
start_short roots p view = omega (arith, no_longer (λ n. true) (λ n. not (has [] n)) (λ m h. refl) (roots ++ (imported_of view ++ imported_of p.staged)), whole (roots ++ (imported_of view ++ imported_of p.staged)))
  where
    whole : (xs : List Name) → length (filter (λ n. true) xs) ≡ length xs
    whole [] = refl
    whole (x ∷ xs) = ap suc (whole xs)

covered : (roots : List Name) (p : Plan) (view : View) → Covers (next_of p view) (all_names roots p view) (wide roots p view) nothing_walked (walked roots p view) roots
covered roots p view = walk_covers (next_of p view) (roots ++ (imported_of view ++ imported_of p.staged)) (wide roots p view) (depth_of roots p view) roots (record { met = []; left = [] }) (λ n h. has_append roots _ n ∙ or_left (has roots n) _ h) (start_short roots p view)

-- the walk meets exactly what lists of the plan's imports reach
pub walk_is : (roots : List Name) (p : Plan) (view : View) (m : Name) → (has (fetch_order roots p view) m ≡ true) ↔ Reaches (plan_imports p view) roots m
walk_is roots p view m = (
  walk_sound (next_of p view) roots (depth_of roots p view) roots (record { met = []; left = [] }) (λ n h. reaches_start _ roots n ((has_is roots n).1 h)) (λ n h. absurd (false≢true h)) m,
  reaches_within (plan_imports p view) roots (λ n. has (fetch_order roots p view) n ≡ true)
      (λ n c. (covered roots p view).all n ((has_is roots n).0 c))
      (λ n k h by. (covered roots p view).closed n k refl h by) m,
)

-- and leaves it
pub orders_agree : (roots : List Name) (p : Plan) (view : View) (m : Name) → has (fetch_order roots p view) m ≡ has (evaluation_order roots p view) m
orders_agree roots p view m = walk_agrees (next_of p view) (depth_of roots p view) [] roots (record { met = []; left = [] }) (λ n. refl) m ∙ right (has (evaluation_order roots p view) m)
  where
    right : (b : Bool) → (b || false) ≡ b
    right true = refl
    right false = refl
