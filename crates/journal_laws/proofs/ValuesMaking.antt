-- What a new instance is told to be: its variables, whether it failed, and that it was evaluated once.
use Rattle.std.proofs.Common.{◌≡◌, ℕ, ◌+◌, Bool, true, false, [], ◌∷◌, length, refl, ap, sym, ◌∙◌, arith}
use Rattle.std.specs.Prelude.{cond, filter, not, ◌||◌, ◌==◌, Option, Some, None, is_some, if◌then◌else◌}
use Rattle.std.proofs.lemmas.Bool.{eqb-true}
use Rattle.hmr_types.specs.declared.value.EvalFault.{EvalFault}
use Rattle.output_lines.specs.declared.words.InstanceStatus.TheVariants.{Unrun}
use Rattle.client_model.specs.Language.{Language, Evaluated}
use Rattle.client_model.specs.Instance.{Instance, numbered, is_done_status}
use Rattle.client_model.specs.Journal.{Happening, Journal, evaluated}
use Rattle.client_model.specs.Runtime.{Runtime, bag_of}
use Rattle.client_model.specs.Making.{Registry, Birth, born, register_in, status_after, is_failed, make_unrun, make_evaluated, evaluate, make}
use Rattle.client_model.proofs.Bagging.{bag_put}
use Rattle.client_model.proofs.Acts.{by_make}
use Rattle.journal_laws.specs.Values.{is_evaluation_of, evaluations_by}
use Rattle.journal_laws.proofs.ValuesWalk.{IsStepped}
use Rattle.journal_laws.proofs.ValuesRegistry.{registry_joins}
use Rattle.journal_laws.proofs.ValuesAdding.{Adds, IsIdle, idle_joined, or_false, values_in, times_in, adds_then, adds_run, adds_drop, adds_end, adds_quiet, adds_give_up}

is_new : (b : Birth) (r : Runtime) → numbered r.instances b.number ≡ None → (k : ℕ) → (b.number == k) ≡ true → numbered r.instances k ≡ None
is_new b r new k e = ap (numbered r.instances) (sym (eqb-true b.number k e)) ∙ new

-- An instance that isn't run.

unrun_failed : (c : Bool) (i : Instance) (old : Option Instance) → not (is_done_status i.status) ≡ true → is_failed (cond c (Some i) old) ≡ (is_failed old || (c || false))
unrun_failed true i old e = e ∙ by (is_failed old)
  where
    by : (b : Bool) → true ≡ (b || true)
    by true = refl
    by false = refl
unrun_failed false i old e = by (is_failed old)
  where
    by : (b : Bool) → b ≡ (b || false)
    by true = refl
    by false = refl

adds_unrun : (b : Birth) (r : Runtime) → numbered r.instances b.number ≡ None → Adds r (make_unrun b r)
adds_unrun b r new = record {
  values = λ k. values (b.number == k) (numbered r.instances k) (is_new b r new k);
  failures = λ k. unrun_failed (b.number == k) (born b Unrun [] []) (numbered r.instances k) refl;
  times = λ k. times (b.number == k) (numbered r.instances k) (is_new b r new k);
  bags = λ n. refl;
}
  where
    values : (c : Bool) (old : Option Instance) → (c ≡ true → old ≡ None) → values_in (cond c (Some (born b Unrun [] [])) old) ≡ values_in old
    values true old f = sym (ap values_in (f refl))
    values false old f = refl

    times : (c : Bool) (old : Option Instance) → (c ≡ true → old ≡ None) → times_in (cond c (Some (born b Unrun [] [])) old) ≡ times_in old + 0
    times true old f = omega (arith, ap times_in (f refl))
    times false old f = omega arith

-- An instance that is evaluated.

fault_fails : (fault : Option EvalFault) → not (is_done_status (status_after fault)) ≡ is_some fault
fault_fails None = refl
fault_fails (Some fault) = refl

fault_once : (fault : Option EvalFault) → evaluations_by (status_after fault) ≡ 1
fault_once None = refl
fault_once (Some fault) = refl

evaluated_failed : (c : Bool) (i : Instance) (old : Option Instance) (fault : Option EvalFault) → i.status ≡ status_after fault → (c ≡ true → old ≡ None) → is_failed (cond c (Some i) old) ≡ (is_failed old || ((if c then is_some fault else false) || false))
evaluated_failed true i old fault s f = ap (λ x. not (is_done_status x)) s ∙ fault_fails fault ∙ or_false (is_some fault) ∙ ap (λ o. is_failed o || (is_some fault || false)) (sym (f refl))
evaluated_failed false i old fault s f = or_false (is_failed old)

evaluated_values : (c : Bool) (i : Instance) (old : Option Instance) → values_in (cond c (Some i) old) ≡ (if c then i.values else values_in old)
evaluated_values true i old = refl
evaluated_values false i old = refl

evaluated_times : (c : Bool) (i : Instance) (old : Option Instance) (fault : Option EvalFault) → i.status ≡ status_after fault → (c ≡ true → old ≡ None) → (h : Happening) (told : Journal) → length told ≡ 0 → times_in (cond c (Some i) old) ≡ times_in old + length (cond c (h ∷ told) told)
evaluated_times true i old fault s f h told z = omega (arith, ap evaluations_by s, fault_once fault, ap times_in (f refl), z)
evaluated_times false i old fault s f h told z = omega (arith, z)

adds_evaluated : (b : Birth) (e : Evaluated) (g : Registry) (r : Runtime) → IsIdle g.journal → numbered r.instances b.number ≡ None → Adds r (make_evaluated b (bag_of r b.name) e g r)
adds_evaluated b e g r idle new =
    let newest : Instance = born b (status_after e.fault) e.vars g.handlers in
    record {
      values = λ k. evaluated_values (b.number == k) newest (numbered r.instances k) ∙ sym (idle.values k _);
      failures = λ k. evaluated_failed (b.number == k) newest (numbered r.instances k) e.fault refl (is_new b r new k) ∙ ap (λ c. is_failed (numbered r.instances k) || ((if b.number == k then is_some e.fault else false) || c)) (sym (idle.failures k));
      times = λ k. evaluated_times (b.number == k) newest (numbered r.instances k) e.fault refl (is_new b r new k) (evaluated b.number b.name (bag_of r b.name) e) (filter (is_evaluation_of k) g.journal) (idle.times k);
      bags = λ n. bag_put b.name e.bag r.bags n ∙ sym (idle.bags n _);
    }

adds_make : (language : Language) (b : Birth) (r : Runtime) → numbered r.instances b.number ≡ None → Adds r (make language b r)
adds_make language b r new = by_make (Adds r) language b r (adds_unrun b r new)
    (adds_evaluated b (evaluate language b r) (register_in b (evaluate language b r) r) r (registry_joins IsIdle idle_joined b (evaluate language b r) r) new)

pub all_add : (language : Language) → IsStepped language Adds
all_add language = record {
  quiet = adds_quiet;
  after = adds_then;
  run = λ spent_at k i spot h arguments r e g takes. adds_run spent_at i spot h _ r;
  drop = adds_drop;
  end = adds_end;
  give_up = adds_give_up;
  give_up_all = λ r. record { values = λ k. refl; failures = λ k. or_false (is_failed (numbered r.instances k)); times = λ k. omega arith; bags = λ n. refl };
  made = adds_make language;
  wrote = λ l r. record { values = λ k. refl; failures = λ k. or_false (is_failed (numbered r.instances k)); times = λ k. omega arith; bags = λ n. refl };
}
