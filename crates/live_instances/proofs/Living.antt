-- Instances that are the live ones of their names: a deed done to each of them leaves versions counted.
use Rattle.std.proofs.Common.{◌≡◌, ℕ, suc, ◌<◌, length, Bool, true, false, List, [], ◌∷◌, ◌++◌, refl, ap, sym, ◌∙◌, reverse, arith}
use Rattle.std.specs.Prelude.{◌&&◌, ◌==◌, cond, filter, if◌then◌else◌, IfSome, Option, Some, None, is_some}
use Rattle.std.proofs.Math.Path.{subst}
use Rattle.std.proofs.lemmas.Bool.{eqb-true, false≢true}
use Rattle.std.proofs.lemmas.Option.{none-some, same_Some}
use Rattle.std.proofs.lemmas.Grind.{reverse_onto}
use Rattle.hmr_types.specs.declared.value.Value.{Value}
use Rattle.output_lines.specs.declared.words.FaultPlace.TheVariants as place
use Rattle.output_lines.specs.declared.words.InstanceFate.TheVariants.{Pruned}
use Rattle.update_msgs.specs.Writable.{IsVersion}
use Rattle.core_model.specs.Names.{Name, same_name}
use Rattle.core_model.proofs.Naming.{true_same, same_true}
use Rattle.client_model.specs.Applying.{live_of, prune_instance}
use Rattle.client_model.specs.Firing.{event_arguments, hear_event}
use Rattle.client_model.specs.Instance.{Instance, Handler, accepts_dep, disposes, is_held, is_live, live_at, numbered, prunes, with_dropped}
use Rattle.client_model.specs.Language.{Language}
use Rattle.client_model.specs.Linking.{number_in}
use Rattle.client_model.specs.Runtime.{Runtime, for_each}
use Rattle.client_model.specs.Running.{drop_each, end_instance, give_up_bag, no_arguments, run_each}
use Rattle.live_instances.specs.Orderly.{NumbersFall, OnlyLive, Orderly, without_number}
use Rattle.live_instances.proofs.Order.{ended_number, ended_order, live_named, live_numbered, quiet_number, quiet_order}
use Rattle.live_instances.proofs.Counting.{IsCounted, IsQuiet, Runs, names_kept, run_counts, runs_then, some_kept}

-- it is the live one of its name
abbrev pub IsThere : Runtime → Instance → Type 0
IsThere r i = number_in (live_at r.instances i.name) ≡ Some i.number

-- all of a list are
abbrev pub AllThere : Runtime → List Instance → Type 0
AllThere r [] = Unit {0}
AllThere r (i ∷ is) = IsThere r i × AllThere r is

-- then it stands under its number
named_there : (r : Runtime) → Orderly r.instances → (i : Instance) → IsThere r i → IfSome (numbered r.instances i.number) (λ j. j.name ≡ i.name)
named_there r o i h = by (live_at r.instances i.name) refl h
  where
    by : (found : Option Instance) → live_at r.instances i.name ≡ found → number_in found ≡ Some i.number → IfSome (numbered r.instances i.number) (λ j. j.name ≡ i.name)
    by None e t = absurd (none-some i.number t)
    by (Some j) e t =
        subst (λ k. IfSome (numbered r.instances k) (λ x. x.name ≡ i.name)) (same_Some j.number i.number t)
        (subst (λ found. IfSome found (λ x. x.name ≡ i.name)) (sym (live_numbered i.name r.instances o.numbers j e))
        (same_true j.name i.name (live_named i.name r.instances j e)))

some_there : (r : Runtime) (i : Instance) → IsThere r i → is_some (number_in (live_at r.instances i.name)) ≡ true
some_there r i h = ap is_some h

there_on : (r s : Runtime) → IsQuiet r s → (is : List Instance) → AllThere r is → AllThere s is
there_on r s q [] h = tt
there_on r s q (i ∷ is) h = (q.live i.name ∙ h.0, there_on r s q is h.1)

-- each hears an event
pub heard_counts : (language : Language) (event : Name) (value : Value) (is : List Instance) (r : Runtime) → AllThere r is → Orderly r.instances → IsCounted r → IsCounted (for_each (hear_event language event value) is r).0
heard_counts language event value [] r h o c = c
heard_counts language event value (i ∷ is) r h o c =
    let s : Runtime = (hear_event language event value i r).0 in
    let runs : Runs r s i.name = run_counts language place.Dep (event_arguments event value) i.number i.name (accepts_dep event) r (named_there r o i h.0) in
    heard_counts language event value is s (there_on r s runs.quiet is h.1) (runs.quiet.orderly o) (runs.counted c o (some_there r i h.0))

-- handlers are dropped
drop_counts : (test : Handler → Bool) (k : ℕ) (n : Name) (r : Runtime) → Runs r (drop_each test k r).0 n
drop_counts test k n r = record {
  quiet = record {
    orderly = quiet_order k (λ i. record i { handlers = with_dropped test i.handlers }) (record { number = λ i. refl; name = λ i. refl; fate = λ i. refl }) r.instances;
    live = λ m. quiet_number k (λ i. record i { handlers = with_dropped test i.handlers }) (record { number = λ i. refl; name = λ i. refl; fate = λ i. refl }) m r.instances;
    names = names_kept (λ i. record i { handlers = with_dropped test i.handlers }) (λ i. refl) (λ i. refl) k r.instances;
  };
  counted = λ c o live. record {
    versions = some_kept (λ i. IsVersion i.version) (λ i. record i { handlers = with_dropped test i.handlers }) (λ i. refl) (λ i v. v) k r.instances c.versions;
    unsent = c.unsent;
  };
}

-- data is given up
bag_counts : (m n : Name) (r : Runtime) → Runs r (give_up_bag m r).0 n
bag_counts m n r = record {
  quiet = record { orderly = λ h. h; live = λ x. refl; names = λ k. refl };
  counted = λ c o live. record { versions = c.versions; unsent = c.unsent };
}

-- no number of a list
abbrev pub NotIn : ℕ → List Instance → Type 0
NotIn k [] = Unit {0}
NotIn k (i ∷ is) = ((i.number == k) ≡ false) × NotIn k is

-- no two have one number
abbrev pub Apart : List Instance → Type 0
Apart [] = Unit {0}
Apart (i ∷ is) = NotIn i.number is × Apart is

-- another one ended
there_after : (k : ℕ) (r s : Runtime) → ((n : Name) → number_in (live_at s.instances n) ≡ without_number k (number_in (live_at r.instances n))) → (is : List Instance) → NotIn k is → AllThere r is → AllThere s is
there_after k r s ends [] apart h = tt
there_after k r s ends (i ∷ is) apart h =
    (ends i.name ∙ ap (without_number k) h.0 ∙ ap (λ b. if b then None else Some i.number) apart.0, there_after k r s ends is apart.1 h.1)

module _ (language : Language) where
  -- before it ends
  abbrev dying : Instance → Runtime → Runtime
  dying i r = (give_up_bag i.name (drop_each is_held i.number (run_each language place.Prune no_arguments prunes i.number (run_each language place.Dispose no_arguments disposes i.number r).0).0).0).0

  dying_counts : (i : Instance) (r : Runtime) → Orderly r.instances → IsThere r i → Runs r (dying i r) i.name
  dying_counts i r o h =
      let a : Runtime = (run_each language place.Dispose no_arguments disposes i.number r).0 in
      let b : Runtime = (run_each language place.Prune no_arguments prunes i.number a).0 in
      let c : Runtime = (drop_each is_held i.number b).0 in
      let one : Runs r a i.name = run_counts language place.Dispose no_arguments i.number i.name disposes r (named_there r o i h) in
      let two : Runs a b i.name = run_counts language place.Prune no_arguments i.number i.name prunes a (named_there a (one.quiet.orderly o) i (one.quiet.live i.name ∙ h)) in
      runs_then r b (dying i r) i.name (runs_then r a b i.name one two)
      (runs_then b c (dying i r) i.name (drop_counts is_held i.number i.name b) (bag_counts i.name i.name c))

  -- each is pruned
  pub pruned_counts : (is : List Instance) (r : Runtime) → Apart is → AllThere r is → Orderly r.instances → IsCounted r → IsCounted (for_each (prune_instance language) is r).0
  pruned_counts [] r apart h o c = c
  pruned_counts (i ∷ is) r apart h o c =
      let s : Runtime = dying i r in
      let runs : Runs r s i.name = dying_counts i r o h.0 in
      let orderly : Orderly s.instances = runs.quiet.orderly o in
      let counted : IsCounted s = runs.counted c o (some_there r i h.0) in
      let t : Runtime = (end_instance Pruned i.number i.name s).0 in
      pruned_counts is t apart.1
      (there_after i.number s t (λ n. ended_number i.number (λ j. record j { fate = Pruned }) (record { number = λ j. refl; name = λ j. refl; dead = λ j. refl }) n s.instances (λ m. orderly.single n m)) is apart.0 (there_on r s runs.quiet is h.1))
      (ended_order i.number (λ j. record j { fate = Pruned }) (record { number = λ j. refl; name = λ j. refl; dead = λ j. refl }) s.instances orderly)
      (record { versions = some_kept (λ j. IsVersion j.version) (λ j. record j { fate = Pruned }) (λ j. refl) (λ j v. v) i.number s.instances counted.versions; unsent = counted.unsent })

-- the live ones of a runtime
module _ (test : Name → Bool) where
  abbrev meant : List Instance → List Instance
  meant is = filter (λ i. is_live i && test i.name) is

  none_in : (k : ℕ) (is : List Instance) → NumbersFall is → length is < k → NotIn k (meant is)
  none_in k [] falls h = tt
  none_in k (i ∷ is) falls h = by (is_live i && test i.name) (none_in k is falls.1 (omega (arith, h)))
    where
      other : (b : Bool) → (i.number == k) ≡ b → (i.number == k) ≡ false
      other false e = e
      other true e = let same : i.number ≡ k = eqb-true i.number k e in let top : i.number ≡ suc (length is) = falls.0 in absurd (omega (arith, same, top, h))

      by : (b : Bool) → NotIn k (meant is) → NotIn k (if b then i ∷ meant is else meant is)
      by true rest = (other (i.number == k) refl, rest)
      by false rest = rest

  apart_all : (is : List Instance) → NumbersFall is → Apart (meant is)
  apart_all [] falls = tt
  apart_all (i ∷ is) falls = by (is_live i && test i.name) (apart_all is falls.1)
    where
      by : (b : Bool) → Apart (meant is) → Apart (if b then i ∷ meant is else meant is)
      by true rest = (subst (λ k. NotIn k (meant is)) (sym falls.0) (none_in (suc (length is)) is falls.1 (omega arith)), rest)
      by false rest = rest

  pub live_apart : (r : Runtime) → Orderly r.instances → Apart (live_of test r)
  live_apart r o = apart_all r.instances o.numbers

  live_some : (js : List Instance) (n : Name) → is_some (number_in (live_at js n)) ≡ true → (j : Instance) → is_some (number_in (live_at (j ∷ js) n)) ≡ true
  live_some js n h j = by (is_live j && same_name j.name n)
    where
      by : (b : Bool) → is_some (number_in (cond b (Some j) (live_at js n))) ≡ true
      by true = refl
      by false = h

  both : (a b : Bool) → (a && b) ≡ true → a ≡ true
  both true b e = refl
  both false b e = absurd (false≢true e)

  -- of a list that is the end of all
  there_all : (r : Runtime) (js : List Instance) → ((n : Name) (k : ℕ) → number_in (live_at r.instances n) ≡ Some k → OnlyLive k n js)
      → ((n : Name) → is_some (number_in (live_at js n)) ≡ true → is_some (number_in (live_at r.instances n)) ≡ true) → AllThere r (meant js)
  there_all r [] only f = tt
  there_all r (j ∷ js) only f = by (there_all r js (λ n k e. (only n k e).1) (λ n h. f n (live_some js n h j))) (is_live j && test j.name) refl
    where
      mine : is_live j ≡ true → (is_live j && same_name j.name j.name) ≡ true
      mine e = ap (λ b. b && same_name j.name j.name) e ∙ true_same j.name j.name refl

      known : is_live j ≡ true → is_some (number_in (live_at r.instances j.name)) ≡ true
      known e = f j.name (ap (λ b. is_some (number_in (cond b (Some j) (live_at js j.name)))) (mine e))

      here : is_live j ≡ true → (o : Option ℕ) → number_in (live_at r.instances j.name) ≡ o → is_some o ≡ true → o ≡ Some j.number
      here e None t s = absurd (false≢true s)
      here e (Some k) t s = ap Some (sym (eqb-true j.number k ((only j.name k t).0 (mine e))))

      there : is_live j ≡ true → IsThere r j
      there e = here e (number_in (live_at r.instances j.name)) refl (known e)

      by : AllThere r (meant js) → (b : Bool) → (is_live j && test j.name) ≡ b → AllThere r (if b then j ∷ meant js else meant js)
      by rest true e = (there (both (is_live j) (test j.name) e), rest)
      by rest false e = rest

  pub live_there : (r : Runtime) → Orderly r.instances → AllThere r (live_of test r)
  live_there r o = there_all r r.instances o.single (λ n h. h)

there_append : (r : Runtime) (is js : List Instance) → AllThere r is → AllThere r js → AllThere r (is ++ js)
there_append r [] js h g = g
there_append r (i ∷ is) js h g = (h.0, there_append r is js h.1 g)

pub there_reversed : (r : Runtime) (is : List Instance) → AllThere r is → AllThere r (reverse is)
there_reversed r [] h = tt
there_reversed r (i ∷ is) h = subst (AllThere r) (sym (reverse_onto is i [])) (there_append r (reverse is) (i ∷ []) (there_reversed r is h.1) (h.0, tt))
