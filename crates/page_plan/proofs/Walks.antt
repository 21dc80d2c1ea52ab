-- The walk in steps is the walk of the definitions.
use Rattle.std.proofs.Common.{◌≡◌, ◌⊎◌, inl, inr, ℕ, zero, suc, ◌<◌, ◌≤◌, Bool, true, false, List, [], ◌∷◌, ◌++◌, length, refl, ap, sym, ◌∙◌, arith, append_assoc}
use Rattle.std.specs.Prelude.{filter, fold, not, cond, if◌then◌else◌}
use Rattle.std.proofs.Math.Path.{subst}
use Rattle.std.proofs.lemmas.Bool.{false≢true}
use Rattle.core_model.specs.Names.{Name, same_name, has}
use Rattle.core_model.specs.Rounds.{IsOver}
use Rattle.core_model.specs.View.{View, imported_of}
use Rattle.core_model.specs.Page.{Plan, plan_imports}
use Rattle.core_model.proofs.Naming.{same_true, or_cases, or_left, or_right, has_append, more_left, more_last, head_has, tail_has}
use Rattle.core_model.proofs.Planning.{plan_over}
use Rattle.client_model.specs.Order.{Walked, met_too, left_too, visit, walk, depth_of, next_of, walked}
use Rattle.page_plan.specs.declared.tasks.Task.{Task}
use Rattle.page_plan.specs.declared.tasks.Task.TheVariants.{Visit, Leave}
use Rattle.page_plan.specs.Walking.{Walking, visits, meet, done_one, step, steps, start}

abbrev pub state : List Task → Walked → Walking
state tasks w = record { tasks = tasks; walked = w }

module _ (next : Name → List Name) where
  -- steps lead from the one to the other
  pub record Leads (s t : Walking) : Type 0 where
    pub count : ℕ
    pub is : steps next count s ≡ t

  pub leads_none : (s : Walking) → Leads s s
  leads_none s = record { count = 0; is = refl }

  leads_on : (s t : Walking) (k : ℕ) → Leads s t → Leads s (steps next k t)
  leads_on s t zero l = l
  leads_on s t (suc k) l = let m : Leads s (steps next k t) = leads_on s t k l in record { count = suc m.count; is = ap (step next) m.is }

  pub leads_then : (s t u : Walking) → Leads s t → Leads t u → Leads s u
  leads_then s t u l m = subst (Leads s) m.is (leads_on s t m.count l)

  pub leads_step : (s t : Walking) → Leads s t → Leads s (step next t)
  leads_step s t l = record { count = suc l.count; is = ap (step next) l.is }

  pub first_step : (s t : Walking) → Leads (step next s) t → Leads s t
  first_step s t l = leads_then s (step next s) t (record { count = 1; is = refl }) l

  -- steps one after another, in either order
  step_last : (j : ℕ) (s : Walking) → steps next j (step next s) ≡ step next (steps next j s)
  step_last zero s = refl
  step_last (suc j) s = ap (step next) (step_last j s)

  either_order : (j k : ℕ) (s : Walking) → steps next j (steps next k s) ≡ steps next k (steps next j s)
  either_order j zero s = refl
  either_order j (suc k) s = step_last j (steps next k s) ∙ ap (step next) (either_order j k s)

  -- where nothing is left to be done, steps change nothing
  at_end : (j : ℕ) (w : Walked) → steps next j (state [] w) ≡ state [] w
  at_end zero w = refl
  at_end (suc j) w = ap (step next) (at_end j w)

  -- what leads to the end leads there from each moment before
  pub from_between : (s t : Walking) (w : Walked) → Leads s t → Leads s (state [] w) → Leads t (state [] w)
  from_between s t w l m = record { count = m.count; is = ap (steps next m.count) (sym l.is) ∙ either_order m.count l.count s ∙ ap (steps next l.count) m.is ∙ at_end l.count w }

  -- the end is one
  pub one_end : (s : Walking) (w v : Walked) → Leads s (state [] w) → Leads s (state [] v) → w ≡ v
  one_end s w v l m = let k : Leads (state [] w) (state [] v) = from_between s (state [] w) v l m in ap (λ (t : Walking). t.walked) (sym (at_end k.count w) ∙ k.is)

  -- what was met stands at the front of what is met later
  pub record Front (old new : List Name) : Type 0 where
    pub more : List Name
    pub whole : new ≡ old ++ more

  front_none : (xs : List Name) → Front xs xs
  front_none xs = record { more = []; whole = sym (append_none xs) }
    where
      append_none : (ys : List Name) → ys ++ [] ≡ ys
      append_none [] = refl
      append_none (y ∷ ys) = ap (λ l. y ∷ l) (append_none ys)

  front_then : (xs ys zs : List Name) → Front xs ys → Front ys zs → Front xs zs
  front_then xs ys zs f g = record { more = f.more ++ g.more; whole = g.whole ∙ ap (λ l. l ++ g.more) f.whole ∙ append_assoc xs f.more g.more }

  front_if : (b : Bool) (w : Walked) (n : Name) (tasks : List Task) → Front w.met (if b then state tasks w else meet next n tasks w).walked.met
  front_if true w n tasks = front_none w.met
  front_if false w n tasks = record { more = n ∷ []; whole = refl }

  front_done : (tasks : List Task) (w : Walked) → Front w.met (done_one next tasks w).walked.met
  front_done [] w = front_none w.met
  front_done (Visit n ∷ tasks) w = front_if (has w.met n) w n tasks
  front_done (Leave n ∷ tasks) w = front_none w.met

  front_steps : (k : ℕ) (s : Walking) → Front s.walked.met (steps next k s).walked.met
  front_steps zero s = front_none s.walked.met
  front_steps (suc k) s = front_then _ _ _ (front_steps k s) (front_done (steps next k s).tasks (steps next k s).walked)

  pub front_leads : (s t : Walking) → Leads s t → Front s.walked.met t.walked.met
  front_leads s t l = subst (λ (u : Walking). Front s.walked.met u.walked.met) l.is (front_steps l.count s)

-- The steps lead to what the walk of the definitions gives.

filter_step : (a b : Bool) (x : Name) (xs ys : List Name) → (b ≡ true → a ≡ true) → length xs ≤ length ys → length (cond b (x ∷ xs) xs) ≤ length (cond a (x ∷ ys) ys)
filter_step true true x xs ys f h = omega (arith, h)
filter_step true false x xs ys f h = omega (arith, h)
filter_step false true x xs ys f h = absurd (false≢true (f refl))
filter_step false false x xs ys f h = h

-- a filter that passes less is no longer
no_longer : (p q : Name → Bool) → ((m : Name) → q m ≡ true → p m ≡ true) → (xs : List Name) → length (filter q xs) ≤ length (filter p xs)
no_longer p q f [] = omega arith
no_longer p q f (x ∷ xs) = filter_step (p x) (q x) x (filter q xs) (filter p xs) (f x) (no_longer p q f xs)

lose_here : (a b : Bool) (x : Name) (xs ys : List Name) → a ≡ true → b ≡ false → length xs ≤ length ys → length (cond b (x ∷ xs) xs) < length (cond a (x ∷ ys) ys)
lose_here true true x xs ys e g h = absurd (false≢true (sym g))
lose_here true false x xs ys e g h = omega (arith, h)
lose_here false b x xs ys e g h = absurd (false≢true e)

lose_later : (a b : Bool) (x : Name) (xs ys : List Name) → (b ≡ true → a ≡ true) → length xs < length ys → length (cond b (x ∷ xs) xs) < length (cond a (x ∷ ys) ys)
lose_later true true x xs ys f h = omega (arith, h)
lose_later true false x xs ys f h = omega (arith, h)
lose_later false true x xs ys f h = absurd (false≢true (f refl))
lose_later false false x xs ys f h = h

-- and shorter where it loses a name of the list
shorter : (p q : Name → Bool) → ((m : Name) → q m ≡ true → p m ≡ true) → (xs : List Name) (n : Name) → p n ≡ true → q n ≡ false → has xs n ≡ true → length (filter q xs) < length (filter p xs)
shorter p q f [] n e g h = absurd (false≢true h)
shorter p q f (x ∷ xs) n e g h = by (shorter p q f xs n e g) (or_cases (same_name x n) (has xs n) h)
  where
    by : (has xs n ≡ true → length (filter q xs) < length (filter p xs)) → (same_name x n ≡ true) ⊎ (has xs n ≡ true) → length (filter q (x ∷ xs)) < length (filter p (x ∷ xs))
    by rest (inl s) = lose_here (p x) (q x) x (filter q xs) (filter p xs) (ap p (same_true x n s) ∙ e) (ap q (same_true x n s) ∙ g) (no_longer p q f xs)
    by rest (inr t) = lose_later (p x) (q x) x (filter q xs) (filter p xs) (f x) (rest t)

not_grown : (a b : Bool) → (a ≡ true → b ≡ true) → not b ≡ true → not a ≡ true
not_grown true b f h = absurd (false≢true (ap not (sym (f refl)) ∙ h))
not_grown false b f h = refl

module _ (next : Name → List Name) (names : List Name) (over : IsOver (λ n m. has (next n) m) names) where
  abbrev unmet : Walked → ℕ
  unmet w = length (filter (λ n. not (has w.met n)) names)

  abbrev Grown : Walked → Walked → Type 0
  Grown w v = (m : Name) → has w.met m ≡ true → has v.met m ≡ true

  fewer : (w v : Walked) → Grown w v → unmet v ≤ unmet w
  fewer w v g = no_longer (λ n. not (has w.met n)) (λ n. not (has v.met n)) (λ m. not_grown (has w.met m) (has v.met m) (g m)) names

  met_grown : (n : Name) (w : Walked) → Grown w (met_too n w)
  met_grown n w m h = more_left w.met n m h

  one_fewer : (n : Name) (w : Walked) → has names n ≡ true → has w.met n ≡ false → unmet (met_too n w) < unmet w
  one_fewer n w h e = shorter (λ m. not (has w.met m)) (λ m. not (has (met_too n w).met m)) (λ m. not_grown (has w.met m) (has (met_too n w).met m) (met_grown n w m)) names n (ap not e) (ap not (more_last w.met n)) h

  abbrev Grows : (List Name → Walked → Walked) → Type 0
  Grows deeper = (from : List Name) (w : Walked) → Grown w (deeper from w)

  grown_if : (b : Bool) (w v : Walked) → Grown w v → Grown w (if b then w else v)
  grown_if true w v g = λ m h. h
  grown_if false w v g = g

  visit_grown : (deeper : List Name → Walked → Walked) → Grows deeper → (w : Walked) (n : Name) → Grown w (visit deeper next w n)
  visit_grown deeper grows w n = grown_if (has w.met n) w (left_too n (deeper (next n) (met_too n w))) (λ m h. grows (next n) (met_too n w) m (met_grown n w m h))

  fold_grown : (deeper : List Name → Walked → Walked) → Grows deeper → Grows (λ from w. fold (visit deeper next) w from)
  fold_grown deeper grows [] w m h = h
  fold_grown deeper grows (n ∷ from) w m h = fold_grown deeper grows from (visit deeper next w n) m (visit_grown deeper grows w n m h)

  walk_grown : (depth : ℕ) → Grows (walk depth next)
  walk_grown zero from w m h = h
  walk_grown (suc depth) from w m h = fold_grown (walk depth next) (walk_grown depth) from w m h

  abbrev Among : List Name → Type 0
  Among from = (n : Name) → has from n ≡ true → has names n ≡ true

  abbrev LeadsWithin : ℕ → (List Name → Walked → Walked) → Type 0
  LeadsWithin depth deeper = (from : List Name) (tasks : List Task) (w : Walked) → Among from → unmet w < depth → Leads next (state (visits from ++ tasks) w) (state tasks (deeper from w))

  visit_if : (b : Bool) (n : Name) (tasks : List Task) (w v : Walked) → (b ≡ false → Leads next (meet next n tasks w) (state tasks v)) → Leads next (if b then state tasks w else meet next n tasks w) (state tasks (if b then w else v))
  visit_if true n tasks w v f = leads_none next (state tasks w)
  visit_if false n tasks w v f = f refl

  visit_leads : (depth : ℕ) (deeper : List Name → Walked → Walked) → LeadsWithin depth deeper → (n : Name) (tasks : List Task) (w : Walked) → has names n ≡ true → unmet w < suc depth → Leads next (state (Visit n ∷ tasks) w) (state tasks (visit deeper next w n))
  visit_leads depth deeper leads n tasks w h l = first_step next (state (Visit n ∷ tasks) w) (state tasks (visit deeper next w n))
      (visit_if (has w.met n) n tasks w (left_too n (deeper (next n) (met_too n w)))
      (λ e. leads_step next (meet next n tasks w) (state (Leave n ∷ tasks) (deeper (next n) (met_too n w)))
      (leads (next n) (Leave n ∷ tasks) (met_too n w) (λ k by. over n k by) (omega (arith, l, one_fewer n w h e)))))

  fold_leads : (depth : ℕ) (deeper : List Name → Walked → Walked) → Grows deeper → LeadsWithin depth deeper → LeadsWithin (suc depth) (λ from w. fold (visit deeper next) w from)
  fold_leads depth deeper grows leads [] tasks w h l = leads_none next (state tasks w)
  fold_leads depth deeper grows leads (n ∷ from) tasks w h l =
      leads_then next (state (Visit n ∷ (visits from ++ tasks)) w) (state (visits from ++ tasks) (visit deeper next w n)) (state tasks (fold (visit deeper next) (visit deeper next w n) from))
      (visit_leads depth deeper leads n (visits from ++ tasks) w (h n (head_has n from)) l)
      (fold_leads depth deeper grows leads from tasks (visit deeper next w n) (λ m k. h m (tail_has n from m k)) (omega (arith, l, fewer w (visit deeper next w n) (visit_grown deeper grows w n))))

  pub walk_leads : (depth : ℕ) → LeadsWithin depth (walk depth next)
  walk_leads zero from tasks w h l = absurd (omega (arith, l))
  walk_leads (suc depth) from tasks w h l = fold_leads depth (walk depth next) (walk_grown depth) (walk_leads depth) from tasks w h l

abbrev nothing_walked : Walked
nothing_walked = record { met = []; left = [] }

abbrev all_names : List Name → Plan → View → List Name
all_names roots p view = roots ++ (imported_of view ++ imported_of p.staged)

wide : (roots : List Name) (p : Plan) (view : View) → IsOver (plan_imports p view) (all_names roots p view)
wide roots p view n m h = has_append roots _ m ∙ or_right (has roots m) _ (plan_over p view n m h)

start_short : (roots : List Name) (p : Plan) (view : View) → length (filter (λ (n : Name). not (has [] n)) (all_names roots p view)) < depth_of roots p view
start_short roots p view = omega (arith, whole (roots ++ (imported_of view ++ imported_of p.staged)))
  where
    whole : (xs : List Name) → length (filter (λ (n : Name). not (has [] n)) xs) ≡ length xs
    whole [] = refl
    whole (x ∷ xs) = ap suc (whole xs)

tasks_none : (tasks : List Task) → tasks ++ [] ≡ tasks
tasks_none [] = refl
tasks_none (t ∷ tasks) = ap (λ l. t ∷ l) (tasks_none tasks)

-- the steps of a plan's walk end with all of it
pub whole_walk : (roots : List Name) (p : Plan) (view : View) → Leads (next_of p view) (start roots) (state [] (walked roots p view))
whole_walk roots p view = subst (λ (l : List Task). Leads (next_of p view) (state l nothing_walked) (state [] (walked roots p view))) (tasks_none (visits roots))
    (walk_leads (next_of p view) (all_names roots p view) (wide roots p view) (depth_of roots p view) roots [] nothing_walked (λ n h. has_append roots _ n ∙ or_left (has roots n) _ h) (start_short roots p view))
