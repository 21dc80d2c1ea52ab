-- Once the live instances of some names ended, none is live under these names.
use Rattle.std.proofs.Common.{◌≡◌, ℕ, Bool, true, false, List, [], ◌∷◌, refl, ap, sym, ◌∙◌}
use Rattle.std.specs.Prelude.{◌==◌, ◌&&◌, cond, filter, Option, Some, None, is_some, if◌then◌else◌}
use Rattle.std.proofs.lemmas.Bool.{false≢true}
use Rattle.std.proofs.lemmas.Option.{none-some, same_Some}
use Rattle.output_lines.specs.declared.out_line.OutLine.{OutLine}
use Rattle.output_lines.specs.declared.words.FaultPlace.{FaultPlace}
use Rattle.output_lines.specs.declared.words.FaultPlace.TheVariants as place
use Rattle.output_lines.specs.declared.words.InstanceFate.{InstanceFate}
use Rattle.output_lines.specs.declared.words.InstanceFate.TheVariants.{Reloaded}
use Rattle.core_model.specs.Names.{Name, same_name}
use Rattle.core_model.proofs.Naming.{same_true}
use Rattle.client_model.proofs.Acts.{IsHandled, handled_run_each}
use Rattle.client_model.specs.Applying.{live_of, reload_instance, replace_instance, is_left_behind, fate_by}
use Rattle.client_model.specs.Instance.{Instance, Handler, is_held, is_live, is_live_fate, live_at, disposes, with_dropped}
use Rattle.client_model.specs.Language.{Ran}
use Rattle.client_model.specs.Linking.{number_in}
use Rattle.client_model.specs.Running.{after_run, did_run, drop_each, end_instance, run_deed, run_each, scope_of, no_arguments}
use Rattle.client_model.specs.Runtime.{Runtime, Did, bag_of, for_each}
use Rattle.module_language.specs.ModuleLanguage.{module_language}
use Rattle.page_state.specs.declared.page.Page.{Page}
use Rattle.page_state.specs.Live.{number_of}
use Rattle.live_instances.specs.Orderly.{Orderly, without_number}
use Rattle.page_state.specs.Standing.{StandsFor, Follows}
use Rattle.live_instances.proofs.Order.{itself, is_live_as, quiet_number, quiet_order, ended_number, ended_order}

-- what is live stays so
pub record KeepsLive (r : Runtime) (did : Did) : Type 0 where
  pub order : Orderly r.instances → Orderly did.0.instances
  pub live : (n : Name) → number_in (live_at did.0.instances n) ≡ number_in (live_at r.instances n)

-- each name loses this number
pub record Loses (k : ℕ) (r : Runtime) (did : Did) : Type 0 where
  pub order : Orderly r.instances → Orderly did.0.instances
  pub live : Orderly r.instances → (n : Name) → number_in (live_at did.0.instances n) ≡ without_number k (number_in (live_at r.instances n))

pub drop_keeps : (test : Handler → Bool) (k : ℕ) (r : Runtime) → KeepsLive r (drop_each test k r)
drop_keeps test k r = record {
  order = λ o. quiet_order k (λ i. record i { handlers = with_dropped test i.handlers }) (record { number = λ i. refl; name = λ i. refl; fate = λ i. refl }) r.instances o;
  live = λ n. quiet_number k (λ i. record i { handlers = with_dropped test i.handlers }) (record { number = λ i. refl; name = λ i. refl; fate = λ i. refl }) n r.instances;
}

run_keeps : (at : FaultPlace) (i : Instance) (spot : ℕ) (h : Handler) (left : Ran) (r : Runtime) → KeepsLive r (did_run at i spot h left r)
run_keeps at i spot h left r = record {
  order = λ o. quiet_order i.number (after_run spot h.kind left) (record { number = λ j. refl; name = λ j. refl; fate = λ j. refl }) r.instances o;
  live = λ n. quiet_number i.number (after_run spot h.kind left) (record { number = λ j. refl; name = λ j. refl; fate = λ j. refl }) n r.instances;
}

pub handled_keeps : IsHandled module_language KeepsLive
handled_keeps = record {
  nothing = λ r. record { order = λ o. o; live = λ n. refl };
  after = λ r did next one two. record { order = λ o. two.order (one.order o); live = λ n. two.live n ∙ one.live n };
  run = λ at k i spot h arguments r there is takes. run_keeps at i spot h (run_deed module_language h.deed (scope_of module_language r i) arguments (bag_of r i.name)) r;
  drop = drop_keeps;
  wrote = λ l r. record { order = λ o. o; live = λ n. refl };
}

pub end_loses : (fate : InstanceFate) → is_live_fate fate ≡ false → (k : ℕ) (m : Name) (r : Runtime) → Loses k r (end_instance fate k m r)
end_loses fate dead k m r = record {
  order = λ o. ended_order k (λ i. record i { fate = fate }) (record { number = λ i. refl; name = λ i. refl; dead = λ i. dead }) r.instances o;
  live = λ o n. ended_number k (λ i. record i { fate = fate }) (record { number = λ i. refl; name = λ i. refl; dead = λ i. dead }) n r.instances (λ j. o.single n j);
}

pub reload_loses : (i : Instance) (r : Runtime) → Loses i.number r (reload_instance i r)
reload_loses i r =
    let one : KeepsLive r (drop_each is_held i.number r) = drop_keeps is_held i.number r in
    let two : Loses i.number (drop_each is_held i.number r).0 (end_instance Reloaded i.number i.name (drop_each is_held i.number r).0) = end_loses Reloaded refl i.number i.name (drop_each is_held i.number r).0 in
    record { order = λ o. two.order (one.order o); live = λ o n. two.live (one.order o) n ∙ ap (without_number i.number) (one.live n) }

dead : (o : Option ℕ) → is_some o ≡ true → is_live_fate (fate_by o) ≡ false
dead None t = absurd (false≢true t)
dead (Some k) t = refl

pub replace_loses : (number : Name → Option ℕ) (i : Instance) → is_some (number i.name) ≡ true → (r : Runtime) → Loses i.number r (replace_instance module_language number i r)
replace_loses number i t r =
    let run : Did = run_each module_language place.Dispose no_arguments disposes i.number r in
    let drop : Did = drop_each is_left_behind i.number run.0 in
    let one : KeepsLive r run = handled_run_each module_language KeepsLive handled_keeps place.Dispose no_arguments (λ s h. refl) disposes i.number r in
    let two : KeepsLive run.0 drop = drop_keeps is_left_behind i.number run.0 in
    let three : Loses i.number drop.0 (end_instance (fate_by (number i.name)) i.number i.name drop.0) = end_loses (fate_by (number i.name)) (dead (number i.name) t) i.number i.name drop.0 in
    record { order = λ o. three.order (two.order (one.order o)); live = λ o n. three.live (two.order (one.order o)) n ∙ ap (without_number i.number) (two.live n ∙ one.live n) }

-- a number, none where it is one of theirs
abbrev without_each : List Instance → Option ℕ → Option ℕ
without_each [] o = o
without_each (i ∷ is) o = without_each is (without_number i.number o)

none_left : (is : List Instance) → without_each is None ≡ None
none_left [] = refl
none_left (i ∷ is) = none_left is

-- live instances whose names pass the test
abbrev meant : (Name → Bool) → List Instance → List Instance
meant test is = filter (λ i. is_live i && test i.name) is

left : (a b : Bool) → (a && b) ≡ true → a ≡ true
left true b h = refl
left false b h = absurd (false≢true h)

right : (a b : Bool) → (a && b) ≡ true → b ≡ true
right true b h = h
right false b h = absurd (false≢true h)

its_number_goes : (test : Name → Bool) (n : Name) → test n ≡ true → (is : List Instance) (j : Instance) → live_at is n ≡ Some j → without_each (meant test is) (Some j.number) ≡ None
its_number_goes test n t [] j e = absurd (none-some j e)
its_number_goes test n t (i ∷ is) j e = by (is_live_as n i) refl (its_number_goes test n t is j) e
  where
    passes : is_live_as n i ≡ true → (is_live i && test i.name) ≡ true
    passes l = ap (λ a. a && test i.name) (left (is_live i) (same_name i.name n) l) ∙ ap test (same_true i.name n (right (is_live i) (same_name i.name n) l)) ∙ t

    other : (b : Bool) → without_each (meant test is) (Some j.number) ≡ None → without_each (meant test is) (if b then None else Some j.number) ≡ None
    other true rest = none_left (meant test is)
    other false rest = rest

    with_it : (b : Bool) → without_each (meant test is) (Some j.number) ≡ None → without_each (cond b (i ∷ meant test is) (meant test is)) (Some j.number) ≡ None
    with_it true rest = other (j.number == i.number) rest
    with_it false rest = rest

    by : (c : Bool) → is_live_as n i ≡ c → (live_at is n ≡ Some j → without_each (meant test is) (Some j.number) ≡ None) → cond c (Some i) (live_at is n) ≡ Some j → without_each (meant test (i ∷ is)) (Some j.number) ≡ None
    by true l rest e =
        ap (λ b. without_each (cond b (i ∷ meant test is) (meant test is)) (Some j.number)) (passes l)
        ∙ ap (λ x. without_each (meant test is) (without_number i.number (Some x.number))) (sym (same_Some i j e))
        ∙ ap (λ b. without_each (meant test is) (if b then None else Some i.number)) (itself i.number)
        ∙ none_left (meant test is)
    by false l rest e = with_it (is_live i && test i.name) (rest e)

module _ (act : Instance → Runtime → Did) where
  each_loses : (test : Name → Bool) (is : List Instance) → ((i : Instance) → test i.name ≡ true → (r : Runtime) → Loses i.number r (act i r)) → (r : Runtime) → Orderly r.instances → (n : Name)
      → number_in (live_at (for_each act (meant test is) r).0.instances n) ≡ without_each (meant test is) (number_in (live_at r.instances n))
  each_loses test [] loses r o n = refl
  each_loses test (i ∷ is) loses r o n = by (is_live i && test i.name) refl (each_loses test is loses)
    where
      by : (b : Bool) → (is_live i && test i.name) ≡ b → ((s : Runtime) → Orderly s.instances → (n : Name) → number_in (live_at (for_each act (meant test is) s).0.instances n) ≡ without_each (meant test is) (number_in (live_at s.instances n)))
          → number_in (live_at (for_each act (cond b (i ∷ meant test is) (meant test is)) r).0.instances n) ≡ without_each (cond b (i ∷ meant test is) (meant test is)) (number_in (live_at r.instances n))
      by true t rest =
          let one : Loses i.number r (act i r) = loses i (right (is_live i) (test i.name) t) r in
          rest (act i r).0 (one.order o) n ∙ ap (without_each (meant test is)) (one.live o n)
      by false t rest = rest r o n

  module _ {F : Type 0} (test : Name → Bool) (p q : Page F) (told tells : List OutLine) (follows : Follows (λ r. for_each act (live_of test r) r) p q told tells)
      (loses : (i : Instance) → test i.name ≡ true → (r : Runtime) → Loses i.number r (act i r)) (r : Runtime) (s : StandsFor r p) (n : Name) where
    left_live : number_of q.live n ≡ without_each (live_of test r) (number_in (live_at r.instances n))
    left_live = sym ((follows.stands r s).instances.by_name n) ∙ each_loses test r.instances loses r s.instances.orderly n

    -- under a name that is meant none is live any more
    pub none_meant : test n ≡ true → number_of q.live n ≡ None
    none_meant t = left_live ∙ by (live_at r.instances n) refl
      where
        by : (x : Option Instance) → live_at r.instances n ≡ x → without_each (live_of test r) (number_in x) ≡ None
        by None e = none_left (live_of test r)
        by (Some j) e = its_number_goes test n t r.instances j e

    -- and where none was none is
    pub none_stays : number_of p.live n ≡ None → number_of q.live n ≡ None
    none_stays none = left_live ∙ ap (without_each (live_of test r)) (s.instances.by_name n ∙ none) ∙ none_left (live_of test r)
