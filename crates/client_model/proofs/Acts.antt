-- What holds of each thing that a client does, where it does it, holds of what it does with a plan: every
-- way through the end of old instances, the making of new ones, callbacks and prunes is gone once, here.
use Rattle.std.proofs.Common.{ℕ, Bool, true, false, List, [], ◌∷◌, ◌≡◌, refl}
use Rattle.std.specs.Prelude.{reverse, Option, Some, None, if◌then◌else◌, slice_get}
use Rattle.hmr_types.specs.declared.words.PlanKind.{PlanKind}
use Rattle.hmr_types.specs.declared.words.PlanKind.TheVariants.{Load, Reload, Update}
use Rattle.output_lines.specs.declared.words.FaultPlace.{FaultPlace}
use Rattle.output_lines.specs.declared.words.FaultPlace.TheVariants as place
use Rattle.output_lines.specs.declared.words.InstanceFate.TheVariants.{Reloaded, Pruned}
use Rattle.output_lines.specs.declared.words.InstanceFate.{InstanceFate}
use Rattle.output_lines.specs.declared.out_line.OutLine.{OutLine}
use Rattle.core_model.specs.Names.{Name, same_name, has}
use Rattle.core_model.specs.Page.{Plan}
use Rattle.client_model.specs.Language.{Language, Slots, Ran}
use Rattle.client_model.specs.Instance.{Instance, Handler, numbered, places_of, live_at, is_held, disposes, prunes, accepts_own, accepts_dep}
use Rattle.client_model.specs.Runtime.{Runtime, Did, nothing, and_then, for_each, write, bag_of}
use Rattle.client_model.specs.Running.{scope_of, run_deed, no_arguments, did_run, run_handler, run_of, run_each, drop_each, end_instance, give_up_bag, TakesNothing}
use Rattle.client_model.specs.Making.{Birth, make, make_unrun, make_run, has_failed_link}
use Rattle.client_model.specs.Applying.{is_left_behind, fate_by, itself_in, listed_in, reload_instance, reload_all, give_up_all_bags, live_of, replace_instance, replaced_instances, end_old, births, run_own, run_dep, tell_boundary, tell_all, set_aside, drop_set_aside, prune_instance}
use Rattle.client_model.specs.Firing.{hear_event, hear_all, event_arguments}
use Rattle.hmr_types.specs.declared.value.Value.{Value}
use Rattle.client_model.specs.Linking.{new_names, number_after, number_in}

-- the one or the other is done
pub did_if : (Q : Did → Type 0) (b : Bool) (did other : Did) → Q did → Q other → Q (if b then did else other)
did_if Q true did other f g = f
did_if Q false did other f g = g

-- a new instance isn't run, or it is
pub by_make : (Q : Did → Type 0) (language : Language) (b : Birth) (r : Runtime) → Q (make_unrun b r) → Q (make_run language b r) → Q (make language b r)
by_make Q language b r unrun run = did_if Q (has_failed_link r.instances b.links) (make_unrun b r) (make_run language b r) unrun run

-- a plan is applied, up to the moment at which the page is the plan's
abbrev pub before_finish : Language → Plan → Runtime → Did
before_finish language p r =
    and_then (and_then (and_then (end_old p.kind language p r)
    (for_each (make language) (births (new_names p r) p r)))
    (tell_all p.kind language p r))
    (drop_set_aside p r)

-- P holds of doing nothing, of one thing after another, and of each single thing that is done with handlers: a
-- run is of one that stands at its place of an instance
pub record IsHandled (language : Language) (P : Runtime → Did → Type 0) : Type 0 where
  pub nothing : (r : Runtime) → P r (r, [])
  pub after : (r : Runtime) (did : Did) (next : Runtime → Did) → P r did → P did.0 (next did.0) → P r (and_then did next)
  pub run : (spent_at : FaultPlace) (k : ℕ) (i : Instance) (spot : ℕ) (h : Handler) (arguments : List (Option Slots)) (r : Runtime) → numbered r.instances k ≡ Some i → slice_get i.handlers spot ≡ Some h → TakesNothing spent_at arguments
      → P r (did_run spent_at i spot h (run_deed language h.deed (scope_of language r i) arguments (bag_of r i.name)) r)
  pub drop : (test : Handler → Bool) (k : ℕ) (r : Runtime) → P r (drop_each test k r)
  pub wrote : (l : OutLine) (r : Runtime) → P r (write l r)

module _ (language : Language) (P : Runtime → Did → Type 0) (k : IsHandled language P) where
  pub handled_each : {X : Type 0} (act : X → Runtime → Did) → ((x : X) (s : Runtime) → P s (act x s)) → (xs : List X) (r : Runtime) → P r (for_each act xs r)
  handled_each act f [] r = k.nothing r
  handled_each act f (x ∷ xs) r = k.after r (act x r) (for_each act xs) (f x r) (handled_each act f xs (act x r).0)

  module _ (spent_at : FaultPlace) (arguments : Runtime → Handler → List (Option Slots)) (takes : (s : Runtime) (h : Handler) → TakesNothing spent_at (arguments s h)) where
    handled_handler : (number : ℕ) (i : Instance) (spot : ℕ) (r : Runtime) → numbered r.instances number ≡ Some i → (h : Option Handler) → slice_get i.handlers spot ≡ h → P r (run_handler language spent_at arguments i spot h r)
    handled_handler number i spot r e None g = k.nothing r
    handled_handler number i spot r e (Some h) g = k.run spent_at number i spot h (arguments r h) r e g (takes r h)

    handled_of : (number : ℕ) (spot : ℕ) (r : Runtime) (i : Option Instance) → numbered r.instances number ≡ i → P r (run_of language spent_at arguments i spot r)
    handled_of number spot r None e = k.nothing r
    handled_of number spot r (Some i) e = handled_handler number i spot r e (slice_get i.handlers spot) refl

    pub handled_run_each : (test : Handler → Bool) (number : ℕ) (r : Runtime) → P r (run_each language spent_at arguments test number r)
    handled_run_each test number r = handled_each (λ spot s. run_of language spent_at arguments (numbered s.instances number) spot s) (λ spot s. handled_of number spot s (numbered s.instances number) refl) (places_of test (numbered r.instances number)) r

  handled_own : (number : Option ℕ) (n : Name) (r : Runtime) → P r (run_own language number n r)
  handled_own None n r = k.nothing r
  handled_own (Some number) n r = handled_run_each place.Own (itself_in n) (λ s h. tt) accepts_own number r

  handled_dep : (number : Option ℕ) (n : Name) (r : Runtime) → P r (run_dep language number n r)
  handled_dep None n r = k.nothing r
  handled_dep (Some number) n r = handled_run_each place.Dep (listed_in n) (λ s h. tt) (accepts_dep n) number r

  pub handled_tell : (p : Plan) (before : Runtime) (pair : Name × Name) (r : Runtime) → P r (tell_boundary language p before pair r)
  handled_tell p before pair r =
      let own : Did = run_own language (number_in (live_at before.instances pair.1)) pair.1 r in
      let dep : Did = run_dep language (number_in (live_at r.instances pair.0)) pair.1 r in
      did_if (P r) (has (new_names p before) pair.1) (if same_name pair.0 pair.1 then own else dep) (if has before.page.forced pair.1 then dep else nothing r)
      (did_if (P r) (same_name pair.0 pair.1) own dep (handled_own (number_in (live_at before.instances pair.1)) pair.1 r) (handled_dep (number_in (live_at r.instances pair.0)) pair.1 r))
      (did_if (P r) (has before.page.forced pair.1) dep (nothing r) (handled_dep (number_in (live_at r.instances pair.0)) pair.1 r) (k.nothing r))

  pub handled_tell_all : (kind : PlanKind) (p : Plan) (before r : Runtime) → P r (tell_all kind language p before r)
  handled_tell_all Load p before r = k.nothing r
  handled_tell_all Reload p before r = k.nothing r
  handled_tell_all Update p before r = handled_each (tell_boundary language p before) (handled_tell p before) before.pairs r

  pub handled_set_aside : (p : Plan) (before r : Runtime) → P r (drop_set_aside p before r)
  handled_set_aside p before r = handled_each (λ i s. drop_each is_held i.number s) (λ i s. k.drop is_held i.number s) (set_aside p.kind p before) r

  -- each instance of a list hears an event
  pub handled_hear : (event : Name) (value : Value) (is : List Instance) (r : Runtime) → P r (for_each (hear_event language event value) is r)
  handled_hear event value is r = handled_each (hear_event language event value) (λ i s. handled_run_each place.Dep (event_arguments event value) (λ t h. tt) (accepts_dep event) i.number s) is r

  pub handled_lines : {X : Type 0} (l : X → Runtime → OutLine) (xs : List X) (r : Runtime) → P r (for_each (λ x s. write (l x s) s) xs r)
  handled_lines l xs r = handled_each (λ x s. write (l x s) s) (λ x s. k.wrote (l x s) s) xs r

  -- a replaced instance, up to its end
  pub handled_disposed : (i : Instance) (r : Runtime) → P r (and_then (run_each language place.Dispose no_arguments disposes i.number r) (drop_each is_left_behind i.number))
  handled_disposed i r =
      let disposed : Did = run_each language place.Dispose no_arguments disposes i.number r in
      k.after r disposed (drop_each is_left_behind i.number) (handled_run_each place.Dispose no_arguments (λ s h. refl) disposes i.number r) (k.drop is_left_behind i.number disposed.0)

  -- what ends instances, where it holds of an end
  pub handled_replace : (number : Name → Option ℕ) (i : Instance) → ((r : Runtime) → P r (end_instance (fate_by (number i.name)) i.number i.name r)) → (r : Runtime) → P r (replace_instance language number i r)
  handled_replace number i ends r =
      let left : Did = and_then (run_each language place.Dispose no_arguments disposes i.number r) (drop_each is_left_behind i.number) in
      k.after r left (end_instance (fate_by (number i.name)) i.number i.name) (handled_disposed i r) (ends left.0)

  pub handled_reload_all : ((number : ℕ) (m : Name) (r : Runtime) → P r (end_instance Reloaded number m r)) → ((r : Runtime) → P r (give_up_all_bags r)) → (r : Runtime) → P r (reload_all r)
  handled_reload_all ends gives_up r =
      let ended : Did = for_each reload_instance (live_of (λ n. true) r) r in
      k.after r ended give_up_all_bags (handled_each reload_instance one (live_of (λ n. true) r) r) (gives_up ended.0)
    where
      one : (i : Instance) (s : Runtime) → P s (reload_instance i s)
      one i s = k.after s (drop_each is_held i.number s) (end_instance Reloaded i.number i.name) (k.drop is_held i.number s) (ends i.number i.name (drop_each is_held i.number s).0)

  pub handled_prunes : ((number : ℕ) (m : Name) (r : Runtime) → P r (end_instance Pruned number m r)) → ((m : Name) (r : Runtime) → P r (give_up_bag m r)) → (is : List Instance) (r : Runtime) → P r (for_each (prune_instance language) is r)
  handled_prunes ends gives_up is r = handled_each (prune_instance language) one is r
    where
      one : (i : Instance) (s : Runtime) → P s (prune_instance language i s)
      one i s =
          let disposed : Did = run_each language place.Dispose no_arguments disposes i.number s in
          let pruned : Did = and_then disposed (run_each language place.Prune no_arguments prunes i.number) in
          let dropped : Did = and_then pruned (drop_each is_held i.number) in
          let emptied : Did = and_then dropped (give_up_bag i.name) in
          k.after s emptied (end_instance Pruned i.number i.name)
          (k.after s dropped (give_up_bag i.name)
          (k.after s pruned (drop_each is_held i.number)
          (k.after s disposed (run_each language place.Prune no_arguments prunes i.number) (handled_run_each place.Dispose no_arguments (λ t h. refl) disposes i.number s) (handled_run_each place.Prune no_arguments (λ t h. refl) prunes i.number disposed.0))
          (k.drop is_held i.number pruned.0))
          (gives_up i.name dropped.0))
          (ends i.number i.name emptied.0)

-- P holds of each single thing but a making
pub record IsWalked (language : Language) (P : Runtime → Did → Type 0) : Type 0 where
  pub handled : IsHandled language P
  pub end : (fate : InstanceFate) (k : ℕ) (m : Name) (r : Runtime) → P r (end_instance fate k m r)
  pub give_up : (m : Name) (r : Runtime) → P r (give_up_bag m r)
  pub give_up_all : (r : Runtime) → P r (give_up_all_bags r)

module _ (language : Language) (P : Runtime → Did → Type 0) (k : IsWalked language P) where
  walked_replace : (number : Name → Option ℕ) (i : Instance) (r : Runtime) → P r (replace_instance language number i r)
  walked_replace number i r = handled_replace language P k.handled number i (k.end (fate_by (number i.name)) i.number i.name) r

  walked_end_old : (kind : PlanKind) (p : Plan) (r : Runtime) → P r (end_old kind language p r)
  walked_end_old Load p r = k.handled.nothing r
  walked_end_old Reload p r = handled_reload_all language P k.handled (k.end Reloaded) k.give_up_all r
  walked_end_old Update p r = handled_each language P k.handled (replace_instance language (number_after p r)) (walked_replace (number_after p r)) (replaced_instances p r) r

  -- a plan is applied, where it holds of the making of the new instances
  pub walked_applying : (p : Plan) (r : Runtime) → P (end_old p.kind language p r).0 (for_each (make language) (births (new_names p r) p r) (end_old p.kind language p r).0) → P r (before_finish language p r)
  walked_applying p r made =
      let ended : Did = end_old p.kind language p r in
      let born : Did = and_then ended (for_each (make language) (births (new_names p r) p r)) in
      let told : Did = and_then born (tell_all p.kind language p r) in
      k.handled.after r told (drop_set_aside p r)
      (k.handled.after r born (tell_all p.kind language p r)
      (k.handled.after r ended (for_each (make language) (births (new_names p r) p r)) (walked_end_old p.kind p r) made)
      (handled_tell_all language P k.handled p.kind p r born.0))
      (handled_set_aside language P k.handled p r told.0)

  pub walked_pruning : (names : List Name) (r : Runtime) → P r (for_each (prune_instance language) (live_of (has names) r) r)
  walked_pruning names r = handled_prunes language P k.handled (k.end Pruned) k.give_up (live_of (has names) r) r

-- P holds of each single thing, whatever instance it is done to
pub record IsKept (P : Runtime → Did → Type 0) : Type 0 where
  pub nothing : (r : Runtime) → P r (r, [])
  pub after : (r : Runtime) (did : Did) (next : Runtime → Did) → P r did → P did.0 (next did.0) → P r (and_then did next)
  pub run : (spent_at : FaultPlace) (i : Instance) (spot : ℕ) (h : Handler) (left : Ran) (r : Runtime) → P r (did_run spent_at i spot h left r)
  pub drop : (test : Handler → Bool) (k : ℕ) (r : Runtime) → P r (drop_each test k r)
  pub end : (fate : InstanceFate) (k : ℕ) (m : Name) (r : Runtime) → P r (end_instance fate k m r)
  pub give_up : (m : Name) (r : Runtime) → P r (give_up_bag m r)
  pub give_up_all : (r : Runtime) → P r (give_up_all_bags r)
  pub made : (language : Language) (b : Birth) (r : Runtime) → P r (make language b r)
  pub wrote : (l : OutLine) (r : Runtime) → P r (write l r)

module _ (P : Runtime → Did → Type 0) (k : IsKept P) (language : Language) where
  handled : IsHandled language P
  handled = record {
    nothing = k.nothing;
    after = k.after;
    run = λ spent_at number i spot h arguments r e g none. k.run spent_at i spot h (run_deed language h.deed (scope_of language r i) arguments (bag_of r i.name)) r;
    drop = k.drop;
    wrote = k.wrote;
  }

  walk : IsWalked language P
  walk = record { handled = handled; end = k.end; give_up = k.give_up; give_up_all = k.give_up_all }

  pub kept_disposed : (i : Instance) (r : Runtime) → P r (and_then (run_each language place.Dispose no_arguments disposes i.number r) (drop_each is_left_behind i.number))
  kept_disposed i r = handled_disposed language P handled i r

  pub kept_replace : (number : Name → Option ℕ) (i : Instance) (r : Runtime) → P r (replace_instance language number i r)
  kept_replace number i r = walked_replace language P walk number i r

  pub kept_end_old : (kind : PlanKind) (p : Plan) (r : Runtime) → P r (end_old kind language p r)
  kept_end_old kind p r = walked_end_old language P walk kind p r

  pub kept_tell_all : (kind : PlanKind) (p : Plan) (before r : Runtime) → P r (tell_all kind language p before r)
  kept_tell_all kind p before r = handled_tell_all language P handled kind p before r

  pub kept_set_aside : (p : Plan) (before r : Runtime) → P r (drop_set_aside p before r)
  kept_set_aside p before r = handled_set_aside language P handled p before r

  pub kept_applying : (p : Plan) (r : Runtime) → P r (before_finish language p r)
  kept_applying p r = walked_applying language P walk p r (handled_each language P handled (make language) (k.made language) (births (new_names p r) p r) (end_old p.kind language p r).0)

  pub kept_pruning : (names : List Name) (r : Runtime) → P r (for_each (prune_instance language) (live_of (has names) r) r)
  kept_pruning names r = walked_pruning language P walk names r

  pub kept_hear : (event : Name) (value : Value) (r : Runtime) → P r (hear_all language event value r)
  kept_hear event value r = handled_hear language P handled event value (reverse (live_of (λ n. true) r)) r

  pub kept_lines : {X : Type 0} (l : X → Runtime → OutLine) (xs : List X) (r : Runtime) → P r (for_each (λ x s. write (l x s) s) xs r)
  kept_lines l xs r = handled_lines language P handled l xs r
