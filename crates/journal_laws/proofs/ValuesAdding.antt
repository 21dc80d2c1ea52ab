-- What a client does with its instances and bags is what the journal of it adds: the variables of each
-- number's instance, whether it failed, how often it was evaluated, and the bag of each name.
use Rattle.std.proofs.Common.{◌≡◌, ℕ, ◌+◌, Bool, true, false, List, [], ◌∷◌, ◌++◌, length, refl, ap, sym, ◌∙◌, arith}
use Rattle.std.specs.Prelude.{cond, filter, fold, map, not, ◌||◌, ◌==◌, Option, Some, None, if◌then◌else◌}
use Rattle.std.specs.List.{list_any}
use Rattle.std.proofs.lemmas.Bool.{false≢true, eqb-true, eq-eqb}
use Rattle.std.proofs.lemmas.List.Sums.{fold-append}
use Rattle.std.proofs.lemmas.List.Folds.{list_any-append}
use Rattle.std.proofs.Math.Bool.{or_assoc}
use Rattle.hmr_types.specs.declared.value.Value.{Value}
use Rattle.output_lines.specs.declared.words.FaultPlace.{FaultPlace}
use Rattle.output_lines.specs.declared.words.InstanceFate.{InstanceFate}
use Rattle.core_model.specs.Names.{Name, same_name, at}
use Rattle.core_model.proofs.Tables.{at_without}
use Rattle.client_model.specs.Language.{Slots, Bag, Ran}
use Rattle.client_model.specs.Instance.{Instance, Handler, numbered, with_change, with_dropped, places_of, is_done_status}
use Rattle.client_model.specs.Journal.{Journal, dropped, ended, bag_after}
use Rattle.client_model.specs.Runtime.{Runtime, Did, and_then, bag_or_empty, bag_of}
use Rattle.client_model.specs.Running.{assigned, after_run, did_run, drop_each, end_instance, give_up_bag}
use Rattle.client_model.specs.Making.{is_failed}
use Rattle.client_model.proofs.Bagging.{no_bag, bag_put}
use Rattle.journal_laws.specs.Values.{values_after, is_failure_of, is_evaluation_of, evaluations_by}
use Rattle.journal_laws.proofs.ValuesRegistry.{IsJoined, drops_join}

-- the variables of what has a number, none where nothing has it
abbrev pub values_in : Option Instance → Slots
values_in None = []
values_in (Some i) = i.values

-- how often it was evaluated
abbrev pub times_in : Option Instance → ℕ
times_in None = 0
times_in (Some i) = evaluations_by i.status

abbrev pub times_told : ℕ → Journal → ℕ
times_told k journal = length (filter (is_evaluation_of k) journal)

abbrev pub failure_told : ℕ → Journal → Bool
failure_told k journal = list_any (is_failure_of k) journal

pub record Adds (r : Runtime) (did : Did) : Type 0 where
  pub values : (k : ℕ) → values_in (numbered did.0.instances k) ≡ fold (values_after k) (values_in (numbered r.instances k)) did.1
  pub failures : (k : ℕ) → is_failed (numbered did.0.instances k) ≡ (is_failed (numbered r.instances k) || failure_told k did.1)
  pub times : (k : ℕ) → times_in (numbered did.0.instances k) ≡ times_in (numbered r.instances k) + times_told k did.1
  pub bags : (n : Name) → bag_of did.0 n ≡ fold (bag_after n) (bag_of r n) did.1

pub or_false : (b : Bool) → b ≡ (b || false)
or_false true = refl
or_false false = refl

pub times_join : (k : ℕ) (a b : Journal) → times_told k (a ++ b) ≡ times_told k a + times_told k b
times_join k [] b = omega arith
times_join k (h ∷ a) b = by (is_evaluation_of k h) (times_join k a b)
  where
    by : (c : Bool) → times_told k (a ++ b) ≡ times_told k a + times_told k b → length (cond c (h ∷ filter (is_evaluation_of k) (a ++ b)) (filter (is_evaluation_of k) (a ++ b))) ≡ length (cond c (h ∷ filter (is_evaluation_of k) a) (filter (is_evaluation_of k) a)) + times_told k b
    by true e = omega (arith, e)
    by false e = e

pub adds_then : (r : Runtime) (did : Did) (next : Runtime → Did) → Adds r did → Adds did.0 (next did.0) → Adds r (and_then did next)
adds_then r did next h g = record {
  values = λ k. g.values k ∙ ap (λ slots. fold (values_after k) slots (next did.0).1) (h.values k) ∙ sym (fold-append (values_after k) (values_in (numbered r.instances k)) did.1 (next did.0).1);
  failures = λ k. g.failures k ∙ ap (λ b. b || failure_told k (next did.0).1) (h.failures k) ∙ or_assoc (is_failed (numbered r.instances k)) (failure_told k did.1) (failure_told k (next did.0).1) ∙ ap (λ b. is_failed (numbered r.instances k) || b) (sym (list_any-append (is_failure_of k) did.1 (next did.0).1));
  times = λ k. omega (arith, g.times k, h.times k, times_join k did.1 (next did.0).1);
  bags = λ n. g.bags n ∙ ap (λ bag. fold (bag_after n) bag (next did.0).1) (h.bags n) ∙ sym (fold-append (bag_after n) (bag_of r n) did.1 (next did.0).1);
}

-- Happenings that touch neither variables nor bags.

pub record IsIdle (journal : Journal) : Type 0 where
  pub values : (k : ℕ) (slots : Slots) → fold (values_after k) slots journal ≡ slots
  pub failures : (k : ℕ) → failure_told k journal ≡ false
  pub times : (k : ℕ) → times_told k journal ≡ 0
  pub bags : (n : Name) (bag : Bag) → fold (bag_after n) bag journal ≡ bag

pub idle_joined : IsJoined IsIdle
idle_joined = record {
  none = record { values = λ k slots. refl; failures = λ k. refl; times = λ k. refl; bags = λ n bag. refl };
  join = λ a b h g. record {
    values = λ k slots. fold-append (values_after k) slots a b ∙ g.values k (fold (values_after k) slots a) ∙ h.values k slots;
    failures = λ k. list_any-append (is_failure_of k) a b ∙ ap (λ c. c || failure_told k b) (h.failures k) ∙ g.failures k;
    times = λ k. omega (arith, times_join k a b, h.times k, g.times k);
    bags = λ n bag. fold-append (bag_after n) bag a b ∙ g.bags n (fold (bag_after n) bag a) ∙ h.bags n bag;
  };
  drop = λ k spot. record { values = λ j slots. refl; failures = λ j. refl; times = λ j. refl; bags = λ n bag. refl };
  register = λ k h. record { values = λ j slots. refl; failures = λ j. refl; times = λ j. refl; bags = λ n bag. refl };
  unhosted = λ k m label. record { values = λ j slots. refl; failures = λ j. refl; times = λ j. refl; bags = λ n bag. refl };
}

-- What changes the instance of a number.

pick : {X : Type 0} (g : Option Instance → X) (c : Bool) (i j : Instance) (o p : Option Instance) → g (Some i) ≡ g (Some j) → g o ≡ g p → g (cond c (Some i) o) ≡ g (cond c (Some j) p)
pick g true i j o p e f = e
pick g false i j o p e f = f

seen_same : {X : Type 0} (g : Option Instance → X) (f : Instance → Instance) → ((i : Instance) → (f i).number ≡ i.number) → ((i : Instance) → g (Some (f i)) ≡ g (Some i)) → (j k : ℕ) (instances : List Instance) → g (numbered (with_change j f instances) k) ≡ g (numbered instances k)
seen_same g f n v j k [] = refl
seen_same g f n v j k (i ∷ instances) = by (i.number == j) (seen_same g f n v j k instances)
  where
    by : (b : Bool) → g (numbered (with_change j f instances) k) ≡ g (numbered instances k) → g (cond ((if b then f i else i).number == k) (Some (if b then f i else i)) (numbered (with_change j f instances) k)) ≡ g (cond (i.number == k) (Some i) (numbered instances k))
    by true h = ap (λ m. g (cond (m == k) (Some (f i)) (numbered (with_change j f instances) k))) (n i) ∙ pick g (i.number == k) (f i) i _ _ (v i) h
    by false h = pick g (i.number == k) i i _ _ refl h

pub none_assigned : (changes : List (Name × Value)) → fold assigned [] changes ≡ []
none_assigned [] = refl
none_assigned (c ∷ changes) = none_assigned changes

same_both : (b : Bool) (slots : Slots) (more : Slots) → more ≡ slots → slots ≡ (if b then more else slots)
same_both true slots more e = sym e
same_both false slots more e = refl

apart : (i j k : ℕ) → (i == j) ≡ false → (i == k) ≡ true → (j == k) ≡ false
apart i j k e f = by (j == k) refl
  where
    by : (b : Bool) → (j == k) ≡ b → b ≡ false
    by true g = absurd (false≢true (sym e ∙ eq-eqb i j (eqb-true i k f ∙ sym (eqb-true j k g))))
    by false g = refl

-- a run assigns to the instance of its number
module _ (changes : List (Name × Value)) (f : Instance → Instance) (n : (i : Instance) → (f i).number ≡ i.number) (v : (i : Instance) → (f i).values ≡ fold assigned i.values changes) (j k : ℕ) where
  abbrev Assigns : Option Instance → Option Instance → Type 0
  Assigns new old = values_in new ≡ (if j == k then fold assigned (values_in old) changes else values_in old)

  assigns_here : (c : Bool) (i : Instance) (new old : Option Instance) → (i.number == j) ≡ true → (i.number == k) ≡ c → Assigns new old → Assigns (cond c (Some (f i)) new) (cond c (Some i) old)
  assigns_here true i new old e g h = v i ∙ ap (λ b. if b then fold assigned i.values changes else i.values) (sym (eq-eqb j k (sym (eqb-true i.number j e) ∙ eqb-true i.number k g)))
  assigns_here false i new old e g h = h

  assigns_elsewhere : (c : Bool) (i : Instance) (new old : Option Instance) → (i.number == j) ≡ false → (i.number == k) ≡ c → Assigns new old → Assigns (cond c (Some i) new) (cond c (Some i) old)
  assigns_elsewhere true i new old e g h = ap (λ b. if b then fold assigned i.values changes else i.values) (sym (apart i.number j k e g))
  assigns_elsewhere false i new old e g h = h

  assigns_one : (b : Bool) (i : Instance) (new old : Option Instance) → (i.number == j) ≡ b → Assigns new old → Assigns (cond ((if b then f i else i).number == k) (Some (if b then f i else i)) new) (cond (i.number == k) (Some i) old)
  assigns_one true i new old e h = ap (λ m. values_in (cond (m == k) (Some (f i)) new)) (n i) ∙ assigns_here (i.number == k) i new old e refl h
  assigns_one false i new old e h = assigns_elsewhere (i.number == k) i new old e refl h

  run_values : (instances : List Instance) → Assigns (numbered (with_change j f instances) k) (numbered instances k)
  run_values [] = same_both (j == k) [] (fold assigned [] changes) (none_assigned changes)
  run_values (i ∷ instances) = assigns_one (i.number == j) i (numbered (with_change j f instances) k) (numbered instances k) refl (run_values instances)

pub plus_none : (n : ℕ) → n ≡ n + 0
plus_none n = omega arith

pub adds_run : (spent_at : FaultPlace) (i : Instance) (spot : ℕ) (h : Handler) (left : Ran) (r : Runtime) → Adds r (did_run spent_at i spot h left r)
adds_run spent_at i spot h left r = record {
  values = λ k. run_values left.changes (after_run spot h.kind left) (λ j. refl) (λ j. refl) i.number k r.instances;
  failures = λ k. seen_same is_failed (after_run spot h.kind left) (λ j. refl) (λ j. refl) i.number k r.instances ∙ or_false (is_failed (numbered r.instances k));
  times = λ k. seen_same times_in (after_run spot h.kind left) (λ j. refl) (λ j. refl) i.number k r.instances ∙ plus_none (times_in (numbered r.instances k));
  bags = λ n. bag_put i.name left.bag r.bags n;
}

-- a change of an instance that keeps its variables, with what is idle
adds_change : (f : Instance → Instance) → ((i : Instance) → (f i).number ≡ i.number) → ((i : Instance) → (f i).values ≡ i.values) → ((i : Instance) → (f i).status ≡ i.status) → (j : ℕ) (r : Runtime) (journal : Journal) → IsIdle journal
    → Adds r (record r { instances = with_change j f r.instances }, journal)
adds_change f n v s j r journal idle = record {
  values = λ k. seen_same values_in f n v j k r.instances ∙ sym (idle.values k (values_in (numbered r.instances k)));
  failures = λ k. seen_same is_failed f n (λ i. ap (λ x. not (is_done_status x)) (s i)) j k r.instances ∙ or_false (is_failed (numbered r.instances k)) ∙ ap (λ b. is_failed (numbered r.instances k) || b) (sym (idle.failures k));
  times = λ k. seen_same times_in f n (λ i. ap evaluations_by (s i)) j k r.instances ∙ plus_none (times_in (numbered r.instances k)) ∙ ap (λ x. times_in (numbered r.instances k) + x) (sym (idle.times k));
  bags = λ m. sym (idle.bags m (bag_of r m));
}

pub adds_drop : (test : Handler → Bool) (k : ℕ) (r : Runtime) → Adds r (drop_each test k r)
adds_drop test k r = adds_change (λ i. record i { handlers = with_dropped test i.handlers }) (λ i. refl) (λ i. refl) (λ i. refl) k r (map (dropped k) (places_of test (numbered r.instances k))) (drops_join IsIdle idle_joined k (places_of test (numbered r.instances k)))

pub adds_end : (fate : InstanceFate) (k : ℕ) (m : Name) (r : Runtime) → Adds r (end_instance fate k m r)
adds_end fate k m r = adds_change (λ i. record i { fate = fate }) (λ i. refl) (λ i. refl) (λ i. refl) k r (ended k m fate ∷ []) (record { values = λ j slots. refl; failures = λ j. refl; times = λ j. refl; bags = λ n bag. refl })

-- what changes neither instances nor bags
pub adds_quiet : (r s : Runtime) → s.instances ≡ r.instances → s.bags ≡ r.bags → Adds r (s, [])
adds_quiet r s e f = record {
  values = λ k. ap (λ instances. values_in (numbered instances k)) e;
  failures = λ k. ap (λ instances. is_failed (numbered instances k)) e ∙ or_false (is_failed (numbered r.instances k));
  times = λ k. ap (λ instances. times_in (numbered instances k)) e ∙ plus_none (times_in (numbered r.instances k));
  bags = λ n. ap (λ bags. bag_or_empty (at bags n)) f;
}

pub adds_give_up : (m : Name) (r : Runtime) → Adds r (give_up_bag m r)
adds_give_up m r = record {
  values = λ k. refl;
  failures = λ k. or_false (is_failed (numbered r.instances k));
  times = λ k. plus_none (times_in (numbered r.instances k));
  bags = λ n. ap bag_or_empty (at_without m r.bags n) ∙ no_bag (same_name m n) (at r.bags n);
}
