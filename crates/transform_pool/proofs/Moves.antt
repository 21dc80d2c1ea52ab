-- Each step of a queue keeps its rule.
use Rattle.std.proofs.Common.{◌≡◌, ◌≢◌, ℕ, ◌+◌, ◌≤◌, zero, suc, Bool, true, false, List, [], ◌∷◌, ◌++◌, set, sym, refl, ap, ◌∙◌, subst, inl, inr, ◌⊎◌, ⊎_elim, append_assoc, arith}
use Rattle.std.proofs.lemmas.Bool.{false≢true}
use mathlib.Core.Option.{some, some-injective, some-ne-none}
use lib.ListN.{get_elem?}
use Rattle.crossbeam_queue.specs.Fifo.{Pushes, Pops, Forks, Learns}
use Rattle.crossbeam_queue.proofs.Lists.{at_set, at_snoc, set_again}
use Rattle.transform_pool.specs.declared.item.Item.{Item}
use Rattle.transform_pool.specs.declared.item.Item.TheVariants.{Job, End}
use Rattle.transform_pool.specs.declared.item.Role.{Role}
use Rattle.transform_pool.specs.Items.{ends_in, in_order, jobs_in, no_ends, no_jobs}
use Rattle.transform_pool.specs.Roles.{PutsJob, TakesBack, at_end, back_with, marked, put_more, putting, taken, taking, took_more, unmarked}
use Rattle.transform_pool.specs.Rule.{IsLastOf, IsLastPut, Ruled}
use Rattle.transform_pool.specs.Tasks.{Task}

-- Lists of items.

job_last : (xs : List Item) (j : Task) → no_ends xs ≡ true → in_order (xs ++ Job j ∷ []) ≡ true
job_last [] j h = refl
job_last (Job i ∷ xs) j h = job_last xs j h
job_last (End ∷ xs) j h = absurd (false≢true h)

no_ends-job : (xs : List Item) (j : Task) → no_ends (xs ++ Job j ∷ []) ≡ no_ends xs
no_ends-job [] j = refl
no_ends-job (Job i ∷ xs) j = no_ends-job xs j
no_ends-job (End ∷ xs) j = refl

no_jobs-end : (xs : List Item) → no_jobs (xs ++ End ∷ []) ≡ no_jobs xs
no_jobs-end [] = refl
no_jobs-end (Job i ∷ xs) = refl
no_jobs-end (End ∷ xs) = no_jobs-end xs

in_order-end : (xs : List Item) → in_order (xs ++ End ∷ []) ≡ in_order xs
in_order-end [] = refl
in_order-end (Job i ∷ xs) = in_order-end xs
in_order-end (End ∷ xs) = no_jobs-end xs

in_order-no_jobs : (xs : List Item) → no_jobs xs ≡ true → in_order xs ≡ true
in_order-no_jobs [] h = refl
in_order-no_jobs (Job i ∷ xs) h = absurd (false≢true h)
in_order-no_jobs (End ∷ xs) h = h

jobs_in-job : (xs : List Item) (j : Task) → jobs_in (xs ++ Job j ∷ []) ≡ jobs_in xs ++ j ∷ []
jobs_in-job [] j = refl
jobs_in-job (Job i ∷ xs) j = ap (λ l. i ∷ l) (jobs_in-job xs j)
jobs_in-job (End ∷ xs) j = jobs_in-job xs j

jobs_in-end : (xs : List Item) → jobs_in (xs ++ End ∷ []) ≡ jobs_in xs
jobs_in-end [] = refl
jobs_in-end (Job i ∷ xs) = ap (λ l. i ∷ l) (jobs_in-end xs)
jobs_in-end (End ∷ xs) = jobs_in-end xs

ends_in-job : (xs : List Item) (j : Task) → ends_in (xs ++ Job j ∷ []) ≡ ends_in xs
ends_in-job [] j = refl
ends_in-job (Job i ∷ xs) j = ends_in-job xs j
ends_in-job (End ∷ xs) j = ap (λ n. n + 1) (ends_in-job xs j)

ends_in-end : (xs : List Item) → ends_in (xs ++ End ∷ []) ≡ ends_in xs + 1
ends_in-end [] = refl
ends_in-end (Job i ∷ xs) = ends_in-end xs
ends_in-end (End ∷ xs) = ap (λ n. n + 1) (ends_in-end xs)

less_marked : (n n' m : ℕ) → n' ≤ n → n ≤ m → n' ≤ m
less_marked n n' m h k = omega arith

-- Truth values.

not_both : {P : Type 0} (b : Bool) → b ≡ true → b ≡ false → P
not_both b t f = absurd (false≢true (sym f ∙ t))

false_where : (b : Bool) → (b ≡ true → ⊥) → b ≡ false
false_where true h = absurd (h refl)
false_where false h = refl

-- Which passes put.

-- beside the pass that puts no other does
none_beside : {P : Type 0} (items : List Item) (views : List Role) (pass : ℕ) (v : Role) → Ruled items views
    → get_elem? views pass ≡ some v → v.puts ≡ true
    → (p : ℕ) (u : Role) → p ≢ pass → get_elem? views p ≡ some u → u.puts ≡ true → P
none_beside items views pass v r at may p u other e b =
    absurd (other (r.sole p u e b ∙ sym (r.sole pass v at may)))

-- where a pass that takes makes a step, the one that puts is another
putter_stays : {P : Type 0} (views : List Role) (pass : ℕ) (w : Role) → w.puts ≡ false
    → (p : ℕ) (u : Role) → get_elem? (set views pass w) p ≡ some u → u.puts ≡ true
    → (get_elem? views p ≡ some u → P) → P
putter_stays views pass w mays p u a b f =
    ⊎_elim (λ q. not_both u.puts b (ap (λ (x : Role). x.puts) (sym q.1) ∙ mays)) (λ q. f q.1)
    (at_set views pass p w u a)

-- A step of the pass that puts.
putter_step : (items items' : List Item) (views : List Role) (pass : ℕ) (v w : Role) (gone : List Task)
    → Ruled items views → get_elem? views pass ≡ some v → v.puts ≡ true → w.ended ≡ v.ended
    → gone ++ jobs_in items' ≡ w.put → in_order items' ≡ true
    → (w.closed ≡ false → (v.closed ≡ false) × (no_ends items' ≡ true))
    → ((p : ℕ) (u : Role) → get_elem? views p ≡ some u → u.ended ≡ true → no_jobs items' ≡ true)
    → ends_in items' ≤ w.marks
    → Ruled items' (set views pass w)
putter_step items items' views pass v w gone r at may same whole ordered opens ended marks =
    record {
      putter = r.putter;
      sole = λ p u a b. ⊎_elim (λ q. q.0 ∙ r.sole pass v at may) (λ q. r.sole p u q.1 b)
          (at_set views pass p w u a);
      gone = gone;
      whole = λ p u a b. ⊎_elim (λ q. whole ∙ ap (λ (x : Role). x.put) q.1)
          (λ q. none_beside items views pass v r at may p u q.0 q.1 b) (at_set views pass p w u a);
      ordered = ordered;
      open_ends = λ p u a b c. ⊎_elim (λ q. (opens (ap (λ (x : Role). x.closed) q.1 ∙ c)).1)
          (λ q. none_beside items views pass v r at may p u q.0 q.1 b) (at_set views pass p w u a);
      open_passes = λ p o u x a b c d. ⊎_elim
          (λ q. let was : v.closed ≡ false = (opens (ap (λ (y : Role). y.closed) q.1 ∙ c)).0 in
          ⊎_elim (λ s. ap (λ (y : Role). y.ended) (sym s.1)
          ∙ (same ∙ r.open_passes pass pass v v at may was at))
          (λ s. r.open_passes pass o v x at may was s.1) (at_set views pass o w x d))
          (λ q. none_beside items views pass v r at may p u q.0 q.1 b) (at_set views pass p w u a);
      ended = λ p u a b. ⊎_elim (λ q. ended pass v at (sym same ∙ (ap (λ (x : Role). x.ended) q.1 ∙ b)))
          (λ q. ended p u q.1 b) (at_set views pass p w u a);
      marked = λ p u a b. ⊎_elim (λ q. subst (λ (x : Role). ends_in items' ≤ x.marks) q.1 marks)
          (λ q. none_beside items views pass v r at may p u q.0 q.1 b) (at_set views pass p w u a);
    }

-- A step of a pass that takes.
taker_step : (items items' : List Item) (views : List Role) (pass : ℕ) (v w : Role) (gone : List Task)
    → (r : Ruled items views) → get_elem? views pass ≡ some v → w.puts ≡ false
    → gone ++ jobs_in items' ≡ r.gone ++ jobs_in items → in_order items' ≡ true
    → (no_ends items ≡ true → no_ends items' ≡ true) → (no_jobs items ≡ true → no_jobs items' ≡ true)
    → ends_in items' ≤ ends_in items
    → (w.ended ≡ true → (v.ended ≡ true) ⊎ ((no_ends items ≡ false) × (no_jobs items' ≡ true)))
    → Ruled items' (set views pass w)
taker_step items items' views pass v w gone r at mays whole ordered ends jobs fewer ending =
    record {
      putter = r.putter;
      sole = λ p u a b. putter_stays views pass w mays p u a b (λ e. r.sole p u e b);
      gone = gone;
      whole = λ p u a b. putter_stays views pass w mays p u a b (λ e. whole ∙ r.whole p u e b);
      ordered = ordered;
      open_ends = λ p u a b c. putter_stays views pass w mays p u a b (λ e. ends (r.open_ends p u e b c));
      open_passes = λ p o u x a b c d. putter_stays views pass w mays p u a b (λ e. ⊎_elim
          (λ q. ap (λ (y : Role). y.ended) (sym q.1) ∙ false_where w.ended (λ has. ⊎_elim
          (λ was. not_both v.ended was (r.open_passes p pass u v e b c at))
          (λ s. not_both (no_ends items) (r.open_ends p u e b c) s.0) (ending has)))
          (λ q. r.open_passes p o u x e b c q.1) (at_set views pass o w x d));
      ended = λ p u a b. ⊎_elim
          (λ q. ⊎_elim (λ was. jobs (r.ended pass v at was)) (λ s. s.1)
          (ending (ap (λ (x : Role). x.ended) q.1 ∙ b)))
          (λ q. jobs (r.ended p u q.1 b)) (at_set views pass p w u a);
      marked = λ p u a b. putter_stays views pass w mays p u a b
          (λ e. less_marked (ends_in items) (ends_in items') u.marks fewer (r.marked p u e b));
    }

-- The steps.

only : (p : ℕ) (u : Role) → get_elem? (putting ∷ []) p ≡ some u → (p ≡ 0) × (putting ≡ u)
only zero u e = (refl, some-injective putting u e)
only (suc p) u e = absurd (some-ne-none u (sym e))

pub begins : Ruled [] (putting ∷ [])
begins =
    record {
      putter = 0;
      sole = λ p u a b. (only p u a).0;
      gone = [];
      whole = λ p u a b. ap (λ (x : Role). x.put) (only p u a).1;
      ordered = refl;
      open_ends = λ p u a b c. refl;
      open_passes = λ p o u x a b c d. ap (λ (x : Role). x.ended) (sym (only o x d).1);
      ended = λ p u a b. refl;
      marked = λ p u a b. omega arith;
    }

pub puts : (n pass : ℕ) (v : Role) (j : Task) → v.puts ≡ true → v.closed ≡ false
    → Pushes Ruled n pass v (Job j) (PutsJob v (Job j))
puts n pass v j may opened items views room r at =
    let w = put_more v j in
    let clear = r.open_ends pass v at may opened in
    let none = λ (p : ℕ) (u : Role) (e : get_elem? views p ≡ some u) (b : u.ended ≡ true).
    not_both u.ended b (r.open_passes pass p v u at may opened e) in (
      w,
      putter_step items (items ++ Job j ∷ []) views pass v w r.gone r at may refl
          (ap (λ l. r.gone ++ l) (jobs_in-job items j) ∙ (sym (append_assoc r.gone (jobs_in items) (j ∷ []))
          ∙ ap (λ l. l ++ j ∷ []) (r.whole pass v at may)))
          (job_last items j clear) (λ c. (opened, no_ends-job items j ∙ clear)) none
          (let e = ends_in-job items j in let m = r.marked pass v at may in omega arith),
      refl,
    )

pub puts_last : (pass : ℕ) (v : Role) → v.puts ≡ true → v.closed ≡ false
    → Learns Ruled pass v (IsLastPut v.put)
puts_last pass v may opened items views r at =
    record {
      jobs = r.open_ends pass v at may opened;
      last = record { gone = r.gone; whole = r.whole pass v at may };
    }

pub marks_last : (pass : ℕ) (v : Role) → v.puts ≡ true → Learns Ruled pass v (IsLastOf v.put)
marks_last pass v may items views r at = record { gone = r.gone; whole = r.whole pass v at may }

pub marks : (n pass : ℕ) (v : Role) → v.puts ≡ true → Pushes Ruled n pass v End (λ w. w ≡ marked v)
marks n pass v may items views room r at =
    let w = marked v in (
      w,
      putter_step items (items ++ End ∷ []) views pass v w r.gone r at may refl
          (ap (λ l. r.gone ++ l) (jobs_in-end items) ∙ r.whole pass v at may)
          (in_order-end items ∙ r.ordered) (λ c. not_both true refl c)
          (λ p u e b. no_jobs-end items ∙ r.ended p u e b)
          (let e = ends_in-end items in let m = r.marked pass v at may in omega arith),
      refl,
    )

pub takes_back : (pass : ℕ) (v : Role) → v.puts ≡ true → Pops Ruled pass v (TakesBack v)
takes_back pass v may (Job j) items views r at =
    let w = back_with v j in (
      w,
      putter_step (Job j ∷ items) items views pass v w (r.gone ++ j ∷ []) r at may refl
          (append_assoc r.gone (j ∷ []) (jobs_in items) ∙ r.whole pass v at may)
          r.ordered (λ c. not_both true refl c)
          (λ p u e b. absurd (false≢true (r.ended p u e b)))
          (r.marked pass v at may),
      refl,
    )
takes_back pass v may End items views r at =
    let w = unmarked v in
    let m = r.marked pass v at may in (
      w,
      putter_step (End ∷ items) items views pass v w r.gone r at may refl
          (r.whole pass v at may) (in_order-no_jobs items r.ordered) (λ c. not_both true refl c)
          (λ p u e b. r.ended p u e b) (omega arith),
      (refl, omega arith),
    )

pub takes : (pass : ℕ) (v : Role) → v.puts ≡ false → Pops Ruled pass v (λ x w. w ≡ taken v x)
takes pass v may (Job j) items views r at =
    let w = took_more v j in (
      w,
      taker_step (Job j ∷ items) items views pass v w (r.gone ++ j ∷ []) r at may
          (append_assoc r.gone (j ∷ []) (jobs_in items)) r.ordered (λ h. h) (λ h. absurd (false≢true h))
          (omega arith) (λ b. inl b),
      refl,
    )
takes pass v may End items views r at =
    let w = at_end v in (
      w,
      taker_step (End ∷ items) items views pass v w r.gone r at may
          refl (in_order-no_jobs items r.ordered) (λ h. absurd (false≢true h)) (λ h. h)
          (omega arith) (λ b. inr (refl, r.ordered)),
      refl,
    )

pub forks : (pass : ℕ) (v : Role) → v.puts ≡ true → v.closed ≡ false → Forks Ruled pass v v taking
forks pass v may opened items views r at =
    subst (λ vs. Ruled items (vs ++ taking ∷ [])) (sym (set_again views pass v at))
    record {
      putter = r.putter;
      sole = λ p u a b. ⊎_elim (λ q. r.sole p u q b)
          (λ q. not_both u.puts b (ap (λ (x : Role). x.puts) (sym q))) (at_snoc views taking u p a);
      gone = r.gone;
      whole = λ p u a b. ⊎_elim (λ q. r.whole p u q b)
          (λ q. not_both u.puts b (ap (λ (x : Role). x.puts) (sym q))) (at_snoc views taking u p a);
      ordered = r.ordered;
      open_ends = λ p u a b c. ⊎_elim (λ q. r.open_ends p u q b c)
          (λ q. not_both u.puts b (ap (λ (x : Role). x.puts) (sym q))) (at_snoc views taking u p a);
      open_passes = λ p o u x a b c d. ⊎_elim (λ q. r.open_passes pass o v x at may opened q)
          (λ q. ap (λ (x : Role). x.ended) (sym q)) (at_snoc views taking x o d);
      ended = λ p u a b. ⊎_elim (λ q. r.ended p u q b)
          (λ q. not_both u.ended b (ap (λ (x : Role). x.ended) (sym q))) (at_snoc views taking u p a);
      marked = λ p u a b. ⊎_elim (λ q. r.marked p u q b)
          (λ q. not_both u.puts b (ap (λ (x : Role). x.puts) (sym q))) (at_snoc views taking u p a);
    }
