-- A walk leaves each name once, and after what is first met through it: each name that another one leads
-- to was left before that one, or leads back to it.
use Rattle.std.proofs.Common.{◌≡◌, ◌⊎◌, inl, inr, ℕ, zero, suc, ◌+◌, ◌≤◌, Bool, true, false, List, [], ◌∷◌, ◌++◌, length, refl, ap, sym, ◌∙◌, arith}
use Rattle.std.specs.Prelude.{fold, ◌||◌, if◌then◌else◌, ⊤}
use Rattle.std.specs.List.{IsDistinct, AllByRecursion}
use Prim.{⊥}
use Rattle.std.proofs.Math.Path.{subst}
use Rattle.std.proofs.lemmas.Bool.{false≢true}
use Rattle.std.proofs.lemmas.Map.Made.{length-le_from_is_member}
use Rattle.core_model.specs.Names.{Name, same_name, has}
use Rattle.core_model.specs.Paths.{Reaches}
use Rattle.core_model.proofs.Naming.{has_is, or_cases, or_left, or_right, true_same, has_append, false_from, head_has, tail_has, has_cases, more_last, more_cases, more_left, turned_equiv}
use Rattle.core_model.proofs.Reaching.{reaches_on, reaches_start}
use Rattle.client_model.specs.Order.{Walked, met_too, left_too, visit, walk}
use Rattle.world_laws.proofs.Frames.{Distinct}
use Rattle.world_laws.proofs.Orders.{distinct_more}

none_of : (n : Name) (names : List Name) → has names n ≡ false → AllByRecursion (λ m. same_name m n ≡ false) names
none_of n [] h = tt
none_of n (m ∷ names) h = (
  false_from (same_name m n) (λ s. false≢true (sym h ∙ or_left (same_name m n) (has names n) s)),
  none_of n names (false_from (has names n) (λ t. false≢true (sym h ∙ or_right (same_name m n) (has names n) t))),
)

once_distinct : (names : List Name) → Distinct names → IsDistinct (λ a b. same_name b a) names
unfolding IsDistinct
once_distinct [] d = tt
once_distinct (n ∷ names) d = (none_of n names d.0, once_distinct names d.1)

-- names of a list, each once, are at most as many as it has
few_names : (xs ys : List Name) → Distinct xs → ((n : Name) → has xs n ≡ true → has ys n ≡ true) → length xs ≤ length ys
few_names xs ys d h = length-le_from_is_member turned_equiv xs ys (once_distinct xs d) h

-- A walk by next names.

module _ (next : Name → List Name) where
  abbrev pub leads_by : Name → Name → Bool
  leads_by n m = has (next n) m

  -- what n leads to is earlier, or leads back to it
  abbrev pub IsAfter : List Name → Name → Type 0
  IsAfter earlier n = (m : Name) → has (next n) m ≡ true → (has earlier m ≡ true) ⊎ Reaches leads_by (m ∷ []) n

  -- so it is of each name of the list, after the earlier ones
  abbrev pub IsPostOrder : List Name → List Name → Type 0
  IsPostOrder earlier [] = ⊤
  IsPostOrder earlier (n ∷ rest) = IsAfter earlier n × IsPostOrder (n ∷ earlier) rest

  one_after : (earlier left : List Name) (n : Name) → IsPostOrder earlier left → ((m : Name) → has (next n) m ≡ true → (has earlier m ≡ true) ⊎ ((has left m ≡ true) ⊎ Reaches leads_by (m ∷ []) n)) → IsPostOrder earlier (left ++ n ∷ [])
  one_after earlier [] n p f = (λ m h. by m (f m h), tt)
    where
      by_none : (m : Name) → (has [] m ≡ true) ⊎ Reaches leads_by (m ∷ []) n → (has earlier m ≡ true) ⊎ Reaches leads_by (m ∷ []) n
      by_none m (inl t) = absurd (false≢true t)
      by_none m (inr r) = inr r

      by : (m : Name) → (has earlier m ≡ true) ⊎ ((has [] m ≡ true) ⊎ Reaches leads_by (m ∷ []) n) → (has earlier m ≡ true) ⊎ Reaches leads_by (m ∷ []) n
      by m (inl t) = inl t
      by m (inr c) = by_none m c
  one_after earlier (x ∷ left) n p f = (p.0, one_after (x ∷ earlier) left n p.1 (λ m h. by m (f m h)))
    where
      by_head : (m : Name) → (x ≡ m) ⊎ (has left m ≡ true) → (has (x ∷ earlier) m ≡ true) ⊎ ((has left m ≡ true) ⊎ Reaches leads_by (m ∷ []) n)
      by_head m (inl e) = inl (or_left (same_name x m) (has earlier m) (true_same x m e))
      by_head m (inr t) = inr (inl t)

      by_rest : (m : Name) → (has (x ∷ left) m ≡ true) ⊎ Reaches leads_by (m ∷ []) n → (has (x ∷ earlier) m ≡ true) ⊎ ((has left m ≡ true) ⊎ Reaches leads_by (m ∷ []) n)
      by_rest m (inl t) = by_head m (has_cases x left m t)
      by_rest m (inr r) = inr (inr r)

      by : (m : Name) → (has earlier m ≡ true) ⊎ ((has (x ∷ left) m ≡ true) ⊎ Reaches leads_by (m ∷ []) n) → (has (x ∷ earlier) m ≡ true) ⊎ ((has left m ≡ true) ⊎ Reaches leads_by (m ∷ []) n)
      by m (inl t) = inl (tail_has x earlier m t)
      by m (inr c) = by_rest m c

  -- what a name of the list leads to is earlier, or in the list, or leads back to it
  pub after_in : (earlier order : List Name) → IsPostOrder earlier order → (n m : Name) → has order n ≡ true → has (next n) m ≡ true → (has earlier m ≡ true) ⊎ ((has order m ≡ true) ⊎ Reaches leads_by (m ∷ []) n)
  after_in earlier [] p n m h e = absurd (false≢true h)
  after_in earlier (x ∷ order) p n m h e = by (λ t. after_in (x ∷ earlier) order p.1 n m t e) (has_cases x order n h)
    where
      first : (has earlier m ≡ true) ⊎ Reaches leads_by (m ∷ []) n → (has earlier m ≡ true) ⊎ ((has (x ∷ order) m ≡ true) ⊎ Reaches leads_by (m ∷ []) n)
      first (inl t) = inl t
      first (inr r) = inr (inr r)

      later_head : (x ≡ m) ⊎ (has earlier m ≡ true) → (has earlier m ≡ true) ⊎ ((has (x ∷ order) m ≡ true) ⊎ Reaches leads_by (m ∷ []) n)
      later_head (inl same) = inr (inl (or_left (same_name x m) (has order m) (true_same x m same)))
      later_head (inr t) = inl t

      later_rest : (has order m ≡ true) ⊎ Reaches leads_by (m ∷ []) n → (has earlier m ≡ true) ⊎ ((has (x ∷ order) m ≡ true) ⊎ Reaches leads_by (m ∷ []) n)
      later_rest (inl t) = inr (inl (tail_has x order m t))
      later_rest (inr r) = inr (inr r)

      later : (has (x ∷ earlier) m ≡ true) ⊎ ((has order m ≡ true) ⊎ Reaches leads_by (m ∷ []) n) → (has earlier m ≡ true) ⊎ ((has (x ∷ order) m ≡ true) ⊎ Reaches leads_by (m ∷ []) n)
      later (inl t) = later_head (has_cases x earlier m t)
      later (inr c) = later_rest c

      by : (has order n ≡ true → (has (x ∷ earlier) m ≡ true) ⊎ ((has order m ≡ true) ⊎ Reaches leads_by (m ∷ []) n)) → (x ≡ n) ⊎ (has order n ≡ true) → (has earlier m ≡ true) ⊎ ((has (x ∷ order) m ≡ true) ⊎ Reaches leads_by (m ∷ []) n)
      by rest (inl same) = first (subst (λ k. IsAfter earlier k) same p.0 m e)
      by rest (inr t) = later (rest t)

module _ (next : Name → List Name) (names : List Name) (over : (n m : Name) → has (next n) m ≡ true → has names m ≡ true) where
  -- what holds while the open names are on the way: they are met, and not left
  record OnTheWay (open_names : List Name) (w : Walked) : Type 0 where
    open_once : Distinct open_names
    known : (m : Name) → has open_names m ≡ true → has names m ≡ true
    met_is : (m : Name) → has w.met m ≡ (has w.left m || has open_names m)
    apart : (m : Name) → has open_names m ≡ true → has w.left m ≡ false
    once : Distinct w.left
    ordered : IsPostOrder next [] w.left

  -- from w to v these names were met
  record Meets (from : List Name) (w v : Walked) : Type 0 where
    grown : (m : Name) → has w.met m ≡ true → has v.met m ≡ true
    all : (m : Name) → has from m ≡ true → has v.met m ≡ true

  abbrev AllLead : List Name → List Name → Type 0
  AllLead open_names from = (o k : Name) → has open_names o ≡ true → has from k ≡ true → Reaches (leads_by next) (o ∷ []) k

  abbrev Went : List Name → List Name → Walked → Walked → Type 0
  Went open_names from w v = OnTheWay open_names v × Meets from w v

  abbrev GoesOn : ℕ → (List Name → Walked → Walked) → Type 0
  GoesOn depth deeper = (open_names from : List Name) (w : Walked) → OnTheWay open_names w → AllLead open_names from → ((k : Name) → has from k ≡ true → has names k ≡ true) → length open_names + depth ≡ suc (length names) → Went open_names from w (deeper from w)

  -- A name is met.

  met_way : (open_names : List Name) (n : Name) (w : Walked) → has names n ≡ true → has w.met n ≡ false → OnTheWay open_names w → OnTheWay (n ∷ open_names) (met_too n w)
  met_way open_names n w h e o = record {
    open_once = (false_from (has open_names n) (λ t. false≢true (sym e ∙ o.met_is n ∙ or_right (has w.left n) (has open_names n) t)), o.open_once);
    known = λ m t. by_known m (has_cases n open_names m t);
    met_is = λ m. has_append w.met (n ∷ []) m ∙ ap (λ b. b || (same_name n m || false)) (o.met_is m) ∙ moved (has w.left m) (has open_names m) (same_name n m);
    apart = λ m t. by_apart m (has_cases n open_names m t);
    once = o.once;
    ordered = o.ordered;
  }
    where
      moved : (a b c : Bool) → ((a || b) || (c || false)) ≡ (a || (c || b))
      moved true b c = refl
      moved false true true = refl
      moved false true false = refl
      moved false false true = refl
      moved false false false = refl

      by_known : (m : Name) → (n ≡ m) ⊎ (has open_names m ≡ true) → has names m ≡ true
      by_known m (inl same) = subst (λ k. has names k ≡ true) same h
      by_known m (inr t) = o.known m t

      by_apart : (m : Name) → (n ≡ m) ⊎ (has open_names m ≡ true) → has w.left m ≡ false
      by_apart m (inl same) = subst (λ k. has w.left k ≡ false) same (false_from (has w.left n) (λ t. false≢true (sym e ∙ o.met_is n ∙ or_left (has w.left n) (has open_names n) t)))
      by_apart m (inr t) = o.apart m t

  -- A name is left.

  left_way : (open_names : List Name) (n : Name) (w : Walked) → has open_names n ≡ false → AllLead open_names (n ∷ []) → ((m : Name) → has (next n) m ≡ true → has w.met m ≡ true) → OnTheWay (n ∷ open_names) w → OnTheWay open_names (left_too n w)
  left_way open_names n w e lead met o = record {
    open_once = o.open_once.1;
    known = λ m t. o.known m (tail_has n open_names m t);
    met_is = λ m. o.met_is m ∙ moved (has w.left m) (has open_names m) (same_name n m) ∙ ap (λ b. b || has open_names m) (sym (has_append w.left (n ∷ []) m));
    apart = λ m t. false_from (has (w.left ++ n ∷ []) m) (λ h. by_apart m t (more_cases w.left n m h));
    once = distinct_more w.left n (o.apart n (head_has n open_names)) o.once;
    ordered = one_after next [] w.left n o.ordered (λ m h. inr (by_met m (or_cases (has w.left m) (has (n ∷ open_names) m) (sym (o.met_is m) ∙ met m h))));
  }
    where
      moved : (a b c : Bool) → (a || (c || b)) ≡ ((a || (c || false)) || b)
      moved true b c = refl
      moved false true true = refl
      moved false true false = refl
      moved false false true = refl
      moved false false false = refl

      by_apart : (m : Name) → has open_names m ≡ true → (has w.left m ≡ true) ⊎ (n ≡ m) → ⊥
      by_apart m t (inl l) = false≢true (sym (o.apart m (tail_has n open_names m t)) ∙ l)
      by_apart m t (inr same) = false≢true (sym e ∙ subst (λ k. has open_names k ≡ true) (sym same) t)

      by_open : (m : Name) → (n ≡ m) ⊎ (has open_names m ≡ true) → Reaches (leads_by next) (m ∷ []) n
      by_open m (inl same) = reaches_start (leads_by next) (m ∷ []) n ((has_is (m ∷ []) n).1 (or_left (same_name m n) false (true_same m n (sym same))))
      by_open m (inr t) = lead m n t (head_has n [])

      by_met : (m : Name) → (has w.left m ≡ true) ⊎ (has (n ∷ open_names) m ≡ true) → (has w.left m ≡ true) ⊎ Reaches (leads_by next) (m ∷ []) n
      by_met m (inl t) = inl t
      by_met m (inr t) = inr (by_open m (has_cases n open_names m t))

  -- A name is visited.

  new_went : (open_names : List Name) (n : Name) (w v : Walked) → has w.met n ≡ false → OnTheWay open_names w → AllLead open_names (n ∷ []) → Went (n ∷ open_names) (next n) (met_too n w) v → Went open_names (n ∷ []) w (left_too n v)
  new_went open_names n w v e o lead g = (
    left_way open_names n v (false_from (has open_names n) (λ t. false≢true (sym e ∙ o.met_is n ∙ or_right (has w.left n) (has open_names n) t))) lead g.1.all g.0,
    record { grown = λ m h. g.1.grown m (more_left w.met n m h); all = λ m h. by m (has_cases n [] m h) },
  )
    where
      by : (m : Name) → (n ≡ m) ⊎ (has [] m ≡ true) → has v.met m ≡ true
      by m (inl same) = subst (λ k. has v.met k ≡ true) same (g.1.grown n (more_last w.met n))
      by m (inr t) = absurd (false≢true t)

  visit_if : (open_names : List Name) (n : Name) (b : Bool) (w v : Walked) → has w.met n ≡ b → OnTheWay open_names w → (b ≡ false → Went open_names (n ∷ []) w v) → Went open_names (n ∷ []) w (if b then w else v)
  visit_if open_names n true w v e o f = (o, record { grown = λ m h. h; all = λ m h. by m (has_cases n [] m h) })
    where
      by : (m : Name) → (n ≡ m) ⊎ (has [] m ≡ true) → has w.met m ≡ true
      by m (inl same) = subst (λ k. has w.met k ≡ true) same e
      by m (inr t) = absurd (false≢true t)
  visit_if open_names n false w v e o f = f refl

  lead_on : (open_names : List Name) (n : Name) → AllLead open_names (n ∷ []) → AllLead (n ∷ open_names) (next n)
  lead_on open_names n lead o k h by = on (has_cases n open_names o h)
    where
      on : (n ≡ o) ⊎ (has open_names o ≡ true) → Reaches (leads_by next) (o ∷ []) k
      on (inl same) = subst (λ x. Reaches (leads_by next) (x ∷ []) k) same (reaches_on (leads_by next) (n ∷ []) n k (reaches_start (leads_by next) (n ∷ []) n ((has_is (n ∷ []) n).1 (head_has n []))) by)
      on (inr t) = reaches_on (leads_by next) (o ∷ []) n k (lead o n t (head_has n [])) by

  visit_went : (depth : ℕ) (deeper : List Name → Walked → Walked) → GoesOn depth deeper → (open_names : List Name) (w : Walked) (n : Name) → OnTheWay open_names w → AllLead open_names (n ∷ []) → has names n ≡ true → length open_names + suc depth ≡ suc (length names) → Went open_names (n ∷ []) w (visit deeper next w n)
  visit_went depth deeper goes open_names w n o lead h l = visit_if open_names n (has w.met n) w (left_too n (deeper (next n) (met_too n w))) refl o
      (λ e. new_went open_names n w (deeper (next n) (met_too n w)) e o lead (goes (n ∷ open_names) (next n) (met_too n w) (met_way open_names n w h e o) (lead_on open_names n lead) (λ k t. over n k t) (omega (arith, l))))

  fold_went : (depth : ℕ) (deeper : List Name → Walked → Walked) → GoesOn depth deeper → (open_names from : List Name) (w : Walked) → OnTheWay open_names w → AllLead open_names from → ((k : Name) → has from k ≡ true → has names k ≡ true) → length open_names + suc depth ≡ suc (length names) → Went open_names from w (fold (visit deeper next) w from)
  fold_went depth deeper goes open_names [] w o lead h l = (o, record { grown = λ m t. t; all = λ m t. absurd (false≢true t) })
  fold_went depth deeper goes open_names (n ∷ from) w o lead h l =
      let one : Went open_names (n ∷ []) w (visit deeper next w n) = visit_went depth deeper goes open_names w n o (λ k j t s. lead k j t (by_one j (has_cases n [] j s))) (h n (head_has n from)) l in
      let rest : Went open_names from (visit deeper next w n) (fold (visit deeper next) (visit deeper next w n) from) = fold_went depth deeper goes open_names from (visit deeper next w n) one.0 (λ k j t s. lead k j t (tail_has n from j s)) (λ k t. h k (tail_has n from k t)) l in
      (rest.0, record { grown = λ m t. rest.1.grown m (one.1.grown m t); all = λ m t. by_all (visit deeper next w n) (fold (visit deeper next) (visit deeper next w n) from) one.1 rest.1 m (has_cases n from m t) })
    where
      by_one : (j : Name) → (n ≡ j) ⊎ (has [] j ≡ true) → has (n ∷ from) j ≡ true
      by_one j (inl same) = or_left (same_name n j) (has from j) (true_same n j same)
      by_one j (inr t) = absurd (false≢true t)

      by_all : (v u : Walked) → Meets (n ∷ []) w v → Meets from v u → (m : Name) → (n ≡ m) ⊎ (has from m ≡ true) → has u.met m ≡ true
      by_all v u one rest m (inl same) = rest.grown m (one.all m (or_left (same_name n m) false (true_same n m same)))
      by_all v u one rest m (inr t) = rest.all m t

  walk_went : (depth : ℕ) → GoesOn depth (walk depth next)
  walk_went zero open_names from w o lead h l = absurd (omega (arith, l, few_names open_names names o.open_once o.known))
  walk_went (suc depth) open_names from w o lead h l = fold_went depth (walk depth next) (walk_went depth) open_names from w o lead h l

  abbrev left_by : List Name → List Name
  left_by roots = (walk (suc (length names)) next roots (record { met = []; left = [] })).left

  whole : (roots : List Name) → ((n : Name) → has roots n ≡ true → has names n ≡ true) → Went [] roots (record { met = []; left = [] }) (walk (suc (length names)) next roots (record { met = []; left = [] }))
  whole roots h = walk_went (suc (length names)) [] roots (record { met = []; left = [] })
      (record { open_once = tt; known = λ m t. absurd (false≢true t); met_is = λ m. refl; apart = λ m t. absurd (false≢true t); once = tt; ordered = tt })
      (λ o k t s. absurd (false≢true t)) h (omega arith)

  -- the names that a walk from the roots leaves
  pub walk_ordered : (roots : List Name) → ((n : Name) → has roots n ≡ true → has names n ≡ true) → IsPostOrder next [] (left_by roots)
  walk_ordered roots h = (whole roots h).0.ordered

  pub walk_once : (roots : List Name) → ((n : Name) → has roots n ≡ true → has names n ≡ true) → Distinct (left_by roots)
  walk_once roots h = (whole roots h).0.once

  pub walk_begins : (roots : List Name) → ((n : Name) → has roots n ≡ true → has names n ≡ true) → (n : Name) → has roots n ≡ true → has (left_by roots) n ≡ true
  walk_begins roots h n t = by (or_cases _ false (sym ((whole roots h).0.met_is n) ∙ (whole roots h).1.all n t))
    where
      by : (has (left_by roots) n ≡ true) ⊎ (false ≡ true) → has (left_by roots) n ≡ true
      by (inl l) = l
      by (inr e) = absurd (false≢true e)
