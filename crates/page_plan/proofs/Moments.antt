-- Moments of a plan's walk: the first, the next, the same in another plan, and those at which it stops.
use Rattle.std.proofs.Common.{◌≡◌, ◌⊎◌, inl, inr, ℕ, zero, suc, Bool, true, false, List, [], ◌∷◌, ◌++◌, refl, ap, sym, ◌∙◌}
use Rattle.std.specs.Prelude.{filter, ◌||◌, cond, Option, Some, None, is_some, is_none, if◌then◌else◌}
use Rattle.std.proofs.Math.Path.{subst}
use Rattle.std.proofs.lemmas.Bool.{false≢true}
use Rattle.core_model.specs.Names.{Name, same_name, has, first_of}
use Rattle.core_model.specs.View.{View, Entry, imports_of}
use Rattle.core_model.specs.Page.{Plan, entry_at}
use Rattle.core_model.proofs.Naming.{has_more, more_left, more_cases, head_has, tail_has}
use Rattle.client_model.specs.Order.{Walked, met_too, left_too, next_of, walked, fetch_order, evaluation_order}
use Rattle.page_plan.specs.declared.tasks.Task.{Task}
use Rattle.page_plan.specs.declared.tasks.Task.TheVariants.{Visit, Leave}
use Rattle.page_plan.specs.Walking.{Walking, visits, meet, done_one, step, steps, start, KeptWalk, IsAt, needed_of}
use Rattle.page_plan.specs.Turns.{IsEnd}
use Rattle.page_plan.proofs.Walks.{state, Leads, leads_step, from_between, one_end, Front, front_leads, whole_walk}

-- the first moment
pub at_start : (roots : List Name) (p : Plan) (view : View) → IsAt roots p view (record { tasks = visits roots; met = []; left = [] })
at_start roots p view = record { count = 0; walked = record { met = []; left = [] }; at = refl; left = refl; met = λ n. refl; fetched = λ n h. absurd (false≢true h) }

-- a module is left
pub at_leave : (roots : List Name) (p : Plan) (view : View) (n : Name) (tasks : List Task) (met left : List Name) → IsAt roots p view (record { tasks = Leave n ∷ tasks; met = met; left = left }) → IsAt roots p view (record { tasks = tasks; met = met; left = left ++ n ∷ [] })
at_leave roots p view n tasks met left i = record { count = suc i.count; walked = left_too n i.walked; at = ap (step (next_of p view)) i.at; left = ap (λ l. l ++ n ∷ []) i.left; met = i.met; fetched = i.fetched }

visit_passed : (next : Name → List Name) (n : Name) (tasks : List Task) (w : Walked) (b : Bool) → b ≡ true → (if b then state tasks w else meet next n tasks w) ≡ state tasks w
visit_passed next n tasks w true h = refl
visit_passed next n tasks w false h = absurd (false≢true h)

visit_met : (next : Name → List Name) (n : Name) (tasks : List Task) (w : Walked) (b : Bool) → b ≡ false → (if b then state tasks w else meet next n tasks w) ≡ meet next n tasks w
visit_met next n tasks w true h = absurd (false≢true (sym h))
visit_met next n tasks w false h = refl

-- a module that was met before is passed
pub at_pass : (roots : List Name) (p : Plan) (view : View) (n : Name) (tasks : List Task) (met left : List Name) → IsAt roots p view (record { tasks = Visit n ∷ tasks; met = met; left = left }) → has met n ≡ true → IsAt roots p view (record { tasks = tasks; met = met; left = left })
at_pass roots p view n tasks met left i h = record { count = suc i.count; walked = i.walked; at = ap (step (next_of p view)) i.at ∙ visit_passed (next_of p view) n tasks i.walked (has i.walked.met n) (i.met n ∙ h); left = i.left; met = i.met; fetched = i.fetched }

or_last : (a b : Bool) → (a || (b || false)) ≡ (b || a)
or_last true true = refl
or_last true false = refl
or_last false true = refl
or_last false false = refl

-- a module that is kept or fetched is met
pub at_meet : (roots : List Name) (p : Plan) (view : View) (n : Name) (tasks : List Task) (met more left : List Name) → IsAt roots p view (record { tasks = Visit n ∷ tasks; met = met; left = left }) → has met n ≡ false → is_some (entry_at p view n) ≡ true → ((m : Name) → has more m ≡ (same_name n m || has met m)) → IsAt roots p view (record { tasks = visits (next_of p view n) ++ Leave n ∷ tasks; met = more; left = left })
at_meet roots p view n tasks met more left i h e f = record {
  count = suc i.count;
  walked = met_too n i.walked;
  at = ap (step (next_of p view)) i.at ∙ visit_met (next_of p view) n tasks i.walked (has i.walked.met n) (i.met n ∙ h);
  left = i.left;
  met = λ m. has_more i.walked.met n m ∙ or_last (has i.walked.met m) (same_name n m) ∙ ap (λ b. same_name n m || b) (i.met m) ∙ sym (f m);
  fetched = λ m g. by m (more_cases i.walked.met n m g);
}
  where
    by : (m : Name) → (has i.walked.met m ≡ true) ⊎ (n ≡ m) → is_some (entry_at p view m) ≡ true
    by m (inl g) = i.fetched m g
    by m (inr same) = subst (λ k. is_some (entry_at p view k) ≡ true) same e

-- The same moment in a plan that has the same entries of what was met.

module _ (next other : Name → List Name) where
  same_if : (b : Bool) (n : Name) (tasks : List Task) (w : Walked) → ((m : Name) → has (if b then state tasks w else meet next n tasks w).walked.met m ≡ true → next m ≡ other m) → (if b then state tasks w else meet next n tasks w) ≡ (if b then state tasks w else meet other n tasks w)
  same_if true n tasks w f = refl
  same_if false n tasks w f = ap (λ l. record { tasks = visits l ++ Leave n ∷ tasks; walked = met_too n w }) (f n (more_last_of w.met n))
    where
      more_last_of : (met : List Name) (n : Name) → has (met ++ n ∷ []) n ≡ true
      more_last_of [] n = head_has n []
      more_last_of (k ∷ met) n = tail_has k (met ++ n ∷ []) n (more_last_of met n)

  same_done : (tasks : List Task) (w : Walked) → ((m : Name) → has (done_one next tasks w).walked.met m ≡ true → next m ≡ other m) → done_one next tasks w ≡ done_one other tasks w
  same_done [] w f = refl
  same_done (Visit n ∷ tasks) w f = same_if (has w.met n) n tasks w f
  same_done (Leave n ∷ tasks) w f = refl

  still_if : (b : Bool) (n : Name) (tasks : List Task) (w : Walked) (m : Name) → has w.met m ≡ true → has (if b then state tasks w else meet next n tasks w).walked.met m ≡ true
  still_if true n tasks w m h = h
  still_if false n tasks w m h = more_left w.met n m h

  still_met : (tasks : List Task) (w : Walked) (m : Name) → has w.met m ≡ true → has (done_one next tasks w).walked.met m ≡ true
  still_met [] w m h = h
  still_met (Visit n ∷ tasks) w m h = still_if (has w.met n) n tasks w m h
  still_met (Leave n ∷ tasks) w m h = h

  pub same_steps : (k : ℕ) (s : Walking) → ((m : Name) → has (steps next k s).walked.met m ≡ true → next m ≡ other m) → steps next k s ≡ steps other k s
  same_steps zero s f = refl
  same_steps (suc k) s f =
      same_done (steps next k s).tasks (steps next k s).walked f
      ∙ ap (step other) (same_steps k s (λ m h. f m (still_met (steps next k s).tasks (steps next k s).walked m h)))

pub at_other : (roots : List Name) (p q : Plan) (view now : View) (kept : KeptWalk) → IsAt roots p view kept → ((n : Name) → is_some (entry_at p view n) ≡ true → entry_at p view n ≡ entry_at q now n) → IsAt roots q now kept
at_other roots p q view now kept i f = record {
  count = i.count;
  walked = i.walked;
  at = sym (same_steps (next_of p view) (next_of q now) i.count (start roots) (λ m h. ap imports_of (f m (i.fetched m (met_there m h))))) ∙ i.at;
  left = i.left;
  met = i.met;
  fetched = λ n h. ap is_some (sym (f n (i.fetched n h))) ∙ i.fetched n h;
}
  where
    met_there : (m : Name) → has (steps (next_of p view) i.count (start roots)).walked.met m ≡ true → has i.walked.met m ≡ true
    met_there m h = subst (λ (s : Walking). has s.walked.met m ≡ true) i.at h

-- Where the walk stops.

none_passes : (p : Name → Bool) (b : Bool) (x : Name) (xs : List Name) → b ≡ false → filter p xs ≡ [] → cond b (x ∷ filter p xs) (filter p xs) ≡ []
none_passes p true x xs h g = absurd (false≢true (sym h))
none_passes p false x xs h g = g

none_of : (p : Name → Bool) (xs : List Name) → ((n : Name) → has xs n ≡ true → p n ≡ false) → filter p xs ≡ []
none_of p [] f = refl
none_of p (x ∷ xs) f = none_passes p (p x) x xs (f x (head_has x xs)) (none_of p xs (λ n h. f n (tail_has x xs n h)))

first_if : (p : Name → Bool) (b : Bool) (x : Name) (xs : List Name) (o : Option Name) → b ≡ false → first_of (filter p xs) ≡ o → first_of (cond b (x ∷ filter p xs) (filter p xs)) ≡ o
first_if p true x xs o h g = absurd (false≢true (sym h))
first_if p false x xs o h g = g

first_here : (b : Bool) (n : Name) (xs : List Name) → b ≡ true → first_of (cond b (n ∷ xs) xs) ≡ Some n
first_here true n xs h = refl
first_here false n xs h = absurd (false≢true h)

first_passing : (p : Name → Bool) (xs : List Name) (n : Name) (more : List Name) → ((m : Name) → has xs m ≡ true → p m ≡ false) → p n ≡ true → first_of (filter p ((xs ++ n ∷ []) ++ more)) ≡ Some n
first_passing p [] n more f h = first_here (p n) n (filter p more) h
first_passing p (x ∷ xs) n more f h = first_if p (p x) x ((xs ++ n ∷ []) ++ more) (Some n) (f x (head_has x xs)) (first_passing p xs n more (λ m g. f m (tail_has x xs m g)) h)

some_not_none : {X : Type 0} (o : Option X) → is_some o ≡ true → is_none o ≡ false
some_not_none None h = absurd (false≢true h)
some_not_none (Some x) h = refl

leads_here : (roots : List Name) (p : Plan) (view : View) (kept : KeptWalk) (i : IsAt roots p view kept) → Leads (next_of p view) (start roots) (state kept.tasks i.walked)
leads_here roots p view kept i = record { count = i.count; is = i.at }

-- nothing is left to be done: nothing is needed, and what was left is the order of evaluation
pub at_last : (roots : List Name) (p : Plan) (view : View) (kept : KeptWalk) → IsAt roots p view kept → kept.tasks ≡ [] → (needed_of roots p view ≡ None) × (kept.left ≡ evaluation_order roots p view)
at_last roots p view kept i h =
    let here : Leads (next_of p view) (start roots) (state [] i.walked) = subst (λ l. Leads (next_of p view) (start roots) (state l i.walked)) h (leads_here roots p view kept i) in
    let same : i.walked ≡ walked roots p view = one_end (next_of p view) (start roots) i.walked (walked roots p view) here (whole_walk roots p view) in (
      ap (λ (w : Walked). first_of (filter (λ n. is_none (entry_at p view n)) w.met)) (sym same) ∙ ap first_of (none_of (λ n. is_none (entry_at p view n)) i.walked.met (λ n g. some_not_none (entry_at p view n) (i.fetched n g))),
      sym i.left ∙ ap (λ (w : Walked). w.left) same,
    )

-- the walk comes to a module that isn't fetched: it is the one that is needed
pub at_needed : (roots : List Name) (p : Plan) (view : View) (n : Name) (tasks : List Task) (met left : List Name) → IsAt roots p view (record { tasks = Visit n ∷ tasks; met = met; left = left }) → has met n ≡ false → is_none (entry_at p view n) ≡ true → needed_of roots p view ≡ Some n
at_needed roots p view n tasks met left i h e =
    let next : Name → List Name = next_of p view in
    let here : Leads next (start roots) (state (Visit n ∷ tasks) i.walked) = record { count = i.count; is = i.at } in
    let after : Leads next (start roots) (meet next n tasks i.walked) = subst (Leads next (start roots)) (visit_met next n tasks i.walked (has i.walked.met n) (i.met n ∙ h)) (leads_step next (start roots) (state (Visit n ∷ tasks) i.walked) here) in
    let rest : Leads next (meet next n tasks i.walked) (state [] (walked roots p view)) = from_between next (start roots) (meet next n tasks i.walked) (walked roots p view) after (whole_walk roots p view) in
    let front : Front next (i.walked.met ++ n ∷ []) (fetch_order roots p view) = front_leads next (meet next n tasks i.walked) (state [] (walked roots p view)) rest in
    ap (λ l. first_of (filter (λ m. is_none (entry_at p view m)) l)) front.whole
    ∙ first_passing (λ m. is_none (entry_at p view m)) i.walked.met n front.more (λ m g. some_not_none (entry_at p view m) (i.fetched m g)) e

-- The same as facts on what the code keeps.

pub at_begin : (roots : List Name) (p : Plan) (view : View) (kept : KeptWalk) → kept.tasks ≡ visits roots → kept.met ≡ [] → kept.left ≡ [] → IsAt roots p view kept
at_begin roots p view kept t m l = record { count = 0; walked = record { met = []; left = [] }; at = ap (λ (ts : List Task). state ts (record { met = []; left = [] })) (sym t); left = sym l; met = λ n. ap (λ ns. has ns n) (sym m); fetched = λ n h. absurd (false≢true h) }

pub at_tasks : (roots : List Name) (p : Plan) (view : View) (tasks other : List Task) (met left : List Name) → tasks ≡ other → IsAt roots p view (record { tasks = tasks; met = met; left = left }) → IsAt roots p view (record { tasks = other; met = met; left = left })
at_tasks roots p view tasks other met left e i = subst (λ (l : List Task). IsAt roots p view (record { tasks = l; met = met; left = left })) e i

pub at_end_of : (roots : List Name) (p : Plan) (view : View) (kept : KeptWalk) → IsAt roots p view kept → kept.tasks ≡ [] → IsEnd roots p view kept.left
at_end_of roots p view kept i h = let e = at_last roots p view kept i h in record { needed = e.0; order = e.1 }

pub at_left_kept : (roots : List Name) (p : Plan) (view : View) (n : Name) (t : Task) (before tasks : List Task) (met left more : List Name) → before ≡ t ∷ tasks → t ≡ Leave n → more ≡ left ++ n ∷ [] → IsAt roots p view (record { tasks = before; met = met; left = left }) → IsAt roots p view (record { tasks = tasks; met = met; left = more })
at_left_kept roots p view n t before tasks met left more b is m i =
    subst (λ (l : List Name). IsAt roots p view (record { tasks = tasks; met = met; left = l })) (sym m)
    (at_leave roots p view n tasks met left (at_tasks roots p view before (Leave n ∷ tasks) met left (b ∙ ap (λ k. k ∷ tasks) is) i))

pub at_met_kept : (roots : List Name) (p : Plan) (view : View) (n : Name) (e : Entry) (imports : List Name) (tasks : List Task) (met left : List Name) (kept : KeptWalk) → has met n ≡ false → Some e ≡ entry_at p view n → imports ≡ e.analysis.imports → kept.tasks ≡ visits imports ++ Leave n ∷ tasks → kept.left ≡ left → ((m : Name) → has kept.met m ≡ (same_name n m || has met m)) → IsAt roots p view (record { tasks = Visit n ∷ tasks; met = met; left = left }) → IsAt roots p view kept
at_met_kept roots p view n e imports tasks met left kept h is im t l f i =
    let same : visits (next_of p view n) ++ Leave n ∷ tasks ≡ kept.tasks = ap (λ o. visits (imports_of o) ++ Leave n ∷ tasks) (sym is) ∙ ap (λ k. visits k ++ Leave n ∷ tasks) (sym im) ∙ sym t in
    subst (λ (k : List Name). IsAt roots p view (record { tasks = kept.tasks; met = kept.met; left = k })) (sym l)
    (at_tasks roots p view (visits (next_of p view n) ++ Leave n ∷ tasks) kept.tasks kept.met left same
    (at_meet roots p view n tasks met kept.met left i h (ap is_some (sym is)) f))
