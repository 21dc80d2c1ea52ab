-- A plan that is applied, and a prune, as an instance of one number lives through them: one that is replaced
-- is set aside, may be called on itself, and then drops what is left; any other is only ended, called on a
-- dependency, or made.
use Rattle.std.proofs.Common.{◌≡◌, ℕ, suc, ◌≤◌, Bool, true, false, List, ◌++◌, length, refl, ap, sym, ◌∙◌, arith, Contains}
use Rattle.std.specs.Prelude.{filter, not, ◌&&◌, ◌==◌, Option, Some, None, is_some, option_map, if◌then◌else◌}
use Rattle.std.proofs.Math.Path.{subst}
use Rattle.std.proofs.lemmas.Bool.{false≢true, eqb-true}
use Rattle.std.proofs.lemmas.List.{length-map}
use Rattle.hmr_types.specs.declared.words.PlanKind.{PlanKind}
use Rattle.hmr_types.specs.declared.words.PlanKind.TheVariants.{Load, Reload, Update}
use Rattle.output_lines.specs.declared.words.FaultPlace.TheVariants as place
use Rattle.core_model.specs.Names.{Name, same_name, has, at}
use Rattle.core_model.specs.View.{Entry}
use Rattle.core_model.specs.Page.{Plan}
use Rattle.core_model.proofs.Naming.{both_true, same_true, filtered_from}
use Rattle.client_model.specs.Language.{Language}
use Rattle.client_model.specs.Instance.{Instance, Handler, numbered, live_at, is_live, is_held, accepts_own, accepts_dep}
use Rattle.client_model.specs.Runtime.{Runtime, Did, nothing, and_then, for_each}
use Rattle.client_model.specs.Order.{evaluation_order}
use Rattle.client_model.specs.Linking.{is_kept_kind, is_kept, new_names, number_after, number_in}
use Rattle.client_model.specs.Running.{drop_each}
use Rattle.client_model.specs.Making.{make}
use Rattle.client_model.specs.Applying.{itself_in, listed_in, reload_instance, give_up_all_bags, reload_all, live_of, replace_instance, replaced_instances, end_old, births, run_own, run_dep, tell_boundary, tell_all, set_aside, prune_instance}
use Rattle.client_model.proofs.Acts.{did_if}
use Rattle.world_laws.proofs.Members.{map_in}
use Rattle.world_laws.proofs.Frames.{frame, frames, live_one, number_low, found_in}
use Rattle.world_laws.proofs.Holding.{HoldsOf, live_is}
use Rattle.world_laws.proofs.Births.{number_new}
use Rattle.journal_laws.proofs.HandlerShapes.{Shape, shape, Word, Quiet, quiet_then, At, Known, Takes, takes_then, takes_each, quiet_takes, forgets, known_takes, does_takes}
use Rattle.journal_laws.proofs.HandlerActs.{run_shape, run_words, drop_shape, drop_words, runs_are, runs_elsewhere, drop_does, drop_quiet}
use Rattle.journal_laws.proofs.HandlerLists.{none_filtered, apart_filtered, keep_if, numbered_filtered, each_none, each_one}
use Rattle.journal_laws.proofs.HandlerLives.{IsLife, reload_quiet, replace_quiet, prune_quiet, reload_takes, replace_takes, prune_takes}
use Rattle.journal_laws.proofs.HandlerBirths.{old_stays, new_comes}
use Rattle.journal_laws.proofs.Numbers.{number_found, Apart, apart_numbered, there, number_of, rising_from, births_rise}

module _ (k : ℕ) (A : Shape → List Word → Type 0) (language : Language) where
  -- its callbacks on itself are run, or those of another
  own_takes : ((x : Shape) (ws : List Word) → A x ws → A (run_shape accepts_own x) (ws ++ run_words place.Own accepts_own x)) → (number : Option ℕ) (n : Name) (s : Runtime) → Takes k (At A) (At A) s (run_own language number n s)
  own_takes keeps None n s = quiet_takes k (At A) s (nothing s) (record { shapes = refl; words = refl })
  own_takes keeps (Some m) n s = by (m == k) refl
    where
      by : (b : Bool) → (m == k) ≡ b → Takes k (At A) (At A) s (run_own language (Some m) n s)
      by true e = subst (λ j. Takes k (At A) (At A) s (run_own language (Some j) n s)) (sym (eqb-true m k e)) (does_takes k A A (run_shape accepts_own) (run_words place.Own accepts_own) s (run_own language (Some k) n s) (runs_are language place.Own (itself_in n) k accepts_own s) keeps)
      by false e = quiet_takes k (At A) s (run_own language (Some m) n s) (runs_elsewhere language place.Own (itself_in n) k accepts_own m e s)

  dep_takes : ((n : Name) (x : Shape) (ws : List Word) → A x ws → A (run_shape (accepts_dep n) x) (ws ++ run_words place.Dep (accepts_dep n) x)) → (number : Option ℕ) (n : Name) (s : Runtime) → Takes k (At A) (At A) s (run_dep language number n s)
  dep_takes keeps None n s = quiet_takes k (At A) s (nothing s) (record { shapes = refl; words = refl })
  dep_takes keeps (Some m) n s = by (m == k) refl
    where
      by : (b : Bool) → (m == k) ≡ b → Takes k (At A) (At A) s (run_dep language (Some m) n s)
      by true e = subst (λ j. Takes k (At A) (At A) s (run_dep language (Some j) n s)) (sym (eqb-true m k e)) (does_takes k A A (run_shape (accepts_dep n)) (run_words place.Dep (accepts_dep n)) s (run_dep language (Some k) n s) (runs_are language place.Dep (listed_in n) k (accepts_dep n) s) (keeps n))
      by false e = quiet_takes k (At A) s (run_dep language (Some m) n s) (runs_elsewhere language place.Dep (listed_in n) k (accepts_dep n) m e s)

-- A plan.

replaced_new : (kind : PlanKind) (replaced : Bool) (old : Option Entry) → kind ≡ Update → not (is_kept_kind kind replaced old) ≡ true → is_some old ≡ true → replaced ≡ true
replaced_new kind true old e kept h = refl
replaced_new kind false old e kept h = absurd (false≢true (ap not (sym h) ∙ subst (λ x. not (is_kept_kind x false old) ≡ true) e kept))

some_framed : (is : List Instance) (n : Name) (i : Instance) → live_at is n ≡ Some i → is_some (live_one (frames is) n) ≡ true
some_framed is n i e = ap is_some (live_is is n ∙ ap (option_map frame) e)

module _ (language : Language) (k : ℕ) (r : Runtime) (holds : HoldsOf r) (p : Plan) where
  abbrev is_replaced : Instance → Bool
  is_replaced i = is_live i && (has p.replaced i.name && has (new_names p r) i.name)

  apart : Apart r.instances
  apart = apart_numbered r.instances holds.numbered

  replaced_of : (i : Instance) (n : Name) → p.kind ≡ Update → has (new_names p r) n ≡ true → live_at r.instances n ≡ Some i → is_replaced i ≡ true
  replaced_of i n kind new e =
      let live : Contains r.instances i × ((is_live i && same_name i.name n) ≡ true) = found_in (λ j. is_live j && same_name j.name n) r.instances i e in
      let both : (is_live i ≡ true) × (same_name i.name n ≡ true) = both_true (is_live i) (same_name i.name n) live.1 in
      let same : i.name ≡ n = same_true i.name n both.1 in
      let kept = (filtered_from (λ m. not (is_kept p r.page.view m)) (evaluation_order r.roots p r.page.view) n new).0 in
      let replaced : has p.replaced n ≡ true = replaced_new p.kind (has p.replaced n) (at r.page.view n) kind kept (sym (holds.live n) ∙ some_framed r.instances n i e) in
      ap (λ b. b && (has p.replaced i.name && has (new_names p r) i.name)) both.0 ∙ ap (λ m. has p.replaced m && has (new_names p r) m) same ∙ ap (λ b. b && has (new_names p r) n) replaced ∙ new

  module _ (Young : List Handler → List Word → Type 0) (Whole Aside : Shape → List Word → Type 0) (life : IsLife Young Whole Aside) where
    -- Who is told.

    tell_aside : (pair : Name × Name) (s : Runtime) → Takes k (At Aside) (At Aside) s (tell_boundary language p r pair s)
    tell_aside pair s =
        let own : Did = run_own language (number_in (live_at r.instances pair.1)) pair.1 s in
        let dep : Did = run_dep language (number_in (live_at s.instances pair.0)) pair.1 s in
        let told_dep : Takes k (At Aside) (At Aside) s dep = dep_takes k Aside language life.dep_aside (number_in (live_at s.instances pair.0)) pair.1 s in
        did_if (Takes k (At Aside) (At Aside) s) (has (new_names p r) pair.1) (if same_name pair.0 pair.1 then own else dep) (if has r.page.forced pair.1 then dep else nothing s)
        (did_if (Takes k (At Aside) (At Aside) s) (same_name pair.0 pair.1) own dep (own_takes k Aside language life.own (number_in (live_at r.instances pair.1)) pair.1 s) told_dep)
        (did_if (Takes k (At Aside) (At Aside) s) (has r.page.forced pair.1) dep (nothing s) told_dep (quiet_takes k (At Aside) s (nothing s) (record { shapes = refl; words = refl })))

    own_elsewhere : p.kind ≡ Update → numbered (replaced_instances p r) k ≡ None → (n : Name) → has (new_names p r) n ≡ true → (s : Runtime) → Quiet k s (run_own language (number_in (live_at r.instances n)) n s)
    own_elsewhere kind none n new s = by (live_at r.instances n) refl
      where
        other : (i : Instance) → live_at r.instances n ≡ Some i → (b : Bool) → (i.number == k) ≡ b → b ≡ false
        other i e false f = refl
        other i e true f =
            let found_there : numbered r.instances k ≡ Some i = ap (numbered r.instances) (sym (eqb-true i.number k f)) ∙ there r.instances apart i (found_in (λ j. is_live j && same_name j.name n) r.instances i e).0 in
            let kept : numbered (replaced_instances p r) k ≡ Some i = numbered_filtered is_replaced r.instances apart k ∙ ap (keep_if is_replaced) found_there ∙ ap (λ b. if b then Some i else None) (replaced_of i n kind new e) in
            absurd (false≢true (ap is_some (sym none ∙ kept)))

        by : (o : Option Instance) → live_at r.instances n ≡ o → Quiet k s (run_own language (number_in o) n s)
        by None e = record { shapes = refl; words = refl }
        by (Some i) e = runs_elsewhere language place.Own (itself_in n) k accepts_own i.number (other i e (i.number == k) refl) s

    tell_whole : p.kind ≡ Update → numbered (replaced_instances p r) k ≡ None → (pair : Name × Name) (s : Runtime) → Takes k (At Whole) (At Whole) s (tell_boundary language p r pair s)
    tell_whole kind none pair s = by (has (new_names p r) pair.1) refl
      where
        dep : Did
        dep = run_dep language (number_in (live_at s.instances pair.0)) pair.1 s

        own : Did
        own = run_own language (number_in (live_at r.instances pair.1)) pair.1 s

        told_dep : Takes k (At Whole) (At Whole) s dep
        told_dep = dep_takes k Whole language life.dep (number_in (live_at s.instances pair.0)) pair.1 s

        by : (b : Bool) → has (new_names p r) pair.1 ≡ b → Takes k (At Whole) (At Whole) s (if b then (if same_name pair.0 pair.1 then run_own language (number_in (live_at r.instances pair.1)) pair.1 s else run_dep language (number_in (live_at s.instances pair.0)) pair.1 s) else (if has r.page.forced pair.1 then run_dep language (number_in (live_at s.instances pair.0)) pair.1 s else nothing s))
        by true e = did_if (Takes k (At Whole) (At Whole) s) (same_name pair.0 pair.1) own dep (quiet_takes k (At Whole) s own (own_elsewhere kind none pair.1 e s)) told_dep
        by false e = did_if (Takes k (At Whole) (At Whole) s) (has r.page.forced pair.1) dep (nothing s) told_dep (quiet_takes k (At Whole) s (nothing s) (record { shapes = refl; words = refl }))

    -- The parts of a plan's application.

    abbrev dropping : PlanKind → Runtime → Did
    dropping kind s = for_each (λ i t. drop_each is_held i.number t) (set_aside kind p r) s

    abbrev steps : PlanKind → Did
    steps kind = and_then (and_then (and_then (end_old kind language p r) (for_each (make language) (births (new_names p r) p r))) (tell_all kind language p r)) (dropping kind)

    in_turn : (A B C D E : Option Shape → List Word → Type 0) (kind : PlanKind) → Takes k A B r (end_old kind language p r) → ((s : Runtime) → Takes k B C s (for_each (make language) (births (new_names p r) p r) s)) → ((s : Runtime) → Takes k C D s (tell_all kind language p r s)) → ((s : Runtime) → Takes k D E s (dropping kind s)) → Takes k A E r (steps kind)
    in_turn A B C D E kind ended born told drops =
        let ending : Did = end_old kind language p r in
        let making : Runtime → Did = for_each (make language) (births (new_names p r) p r) in
        takes_then k A D E r (and_then (and_then ending making) (tell_all kind language p r)) (dropping kind)
        (takes_then k A C D r (and_then ending making) (tell_all kind language p r) (takes_then k A B C r ending making ended born) told) drops

    tells_whole : (kind : PlanKind) → p.kind ≡ kind → numbered (set_aside kind p r) k ≡ None → (s : Runtime) → Takes k (At Whole) (At Whole) s (tell_all kind language p r s)
    tells_whole Load e none s = quiet_takes k (At Whole) s (nothing s) (record { shapes = refl; words = refl })
    tells_whole Reload e none s = quiet_takes k (At Whole) s (nothing s) (record { shapes = refl; words = refl })
    tells_whole Update e none s = takes_each k (At Whole) (tell_boundary language p r) (tell_whole e none) r.pairs s

    drops_none : (kind : PlanKind) → numbered (set_aside kind p r) k ≡ None → (s : Runtime) → Takes k (At Whole) (At Whole) s (dropping kind s)
    drops_none kind none s = quiet_takes k (At Whole) s (dropping kind s) (each_none k (λ i t. drop_each is_held i.number t) (λ i t other. drop_quiet k is_held i.number other t) (set_aside kind p r) none s)

    -- One that wasn't there.

    none_aside : numbered r.instances k ≡ None → (kind : PlanKind) → numbered (set_aside kind p r) k ≡ None
    none_aside e Load = refl
    none_aside e Reload = refl
    none_aside e Update = none_filtered is_replaced r.instances k e

    none_ended : numbered r.instances k ≡ None → (kind : PlanKind) → Quiet k r (end_old kind language p r)
    none_ended e Load = record { shapes = refl; words = refl }
    none_ended e Reload = quiet_then k r (for_each reload_instance (live_of (λ n. true) r) r) give_up_all_bags (each_none k reload_instance (reload_quiet k) (live_of (λ n. true) r) (none_filtered (λ i. is_live i && true) r.instances k e) r) (λ s. record { shapes = refl; words = refl })
    none_ended e Update = each_none k (replace_instance language (number_after p r)) (replace_quiet k language (number_after p r)) (replaced_instances p r) (none_filtered is_replaced r.instances k e) r

    new_lives : numbered r.instances k ≡ None → (kind : PlanKind) → p.kind ≡ kind → Takes k (At Whole) (At Whole) r (steps kind)
    new_lives e kind f = known_takes k (At Whole) (At Whole) None r (steps kind) (ap (option_map shape) e)
        (in_turn (Known None (At Whole)) (Known None (At Whole)) (At Whole) (At Whole) (At Whole) kind
        (quiet_takes k (Known None (At Whole)) r (end_old kind language p r) (none_ended e kind))
        (new_comes language k Young Whole Aside life (births (new_names p r) p r) (suc (length r.instances)) (births_rise p r))
        (tells_whole kind f (none_aside e kind))
        (drops_none kind (none_aside e kind)))

    -- One that was there.

    module _ (i : Instance) (known : numbered r.instances k ≡ Some i) where
      same : i.number ≡ k
      same = number_found r.instances k i known

      old_births : (A : Option Shape → List Word → Type 0) (s : Runtime) → Takes k A A s (for_each (make language) (births (new_names p r) p r) s)
      old_births A s =
          let bs = births (new_names p r) p r in
          let low : i.number ≤ length (frames r.instances) = number_low (frames r.instances) holds.numbered (frame i) (map_in frame r.instances i (found_in (λ j. j.number == k) r.instances i known).0) in
          quiet_takes k A s (for_each (make language) bs s) (old_stays language k bs (rising_from (suc k) (suc (length r.instances)) bs (omega (arith, low, same, length-map r.instances frame)) (births_rise p r)) s)

      listed : (q : Instance → Bool) (b : Bool) → q i ≡ b → numbered (filter q r.instances) k ≡ (if b then Some i else None)
      listed q b e = numbered_filtered q r.instances apart k ∙ ap (keep_if q) known ∙ ap (λ c. if c then Some i else None) e

      reloads : Takes k (Known (Some (shape i)) (At Whole)) (At Whole) r (reload_all r)
      reloads = takes_then k (Known (Some (shape i)) (At Whole)) (At Whole) (At Whole) r (for_each reload_instance (live_of (λ n. true) r) r) give_up_all_bags (by (is_live i && true) refl) (λ s. quiet_takes k (At Whole) s (give_up_all_bags s) (record { shapes = refl; words = refl }))
        where
          by : (b : Bool) → (is_live i && true) ≡ b → Takes k (Known (Some (shape i)) (At Whole)) (At Whole) r (for_each reload_instance (live_of (λ n. true) r) r)
          by true e = each_one k reload_instance (reload_quiet k) (Known (Some (shape i)) (At Whole)) (At Whole) (live_of (λ n. true) r) (apart_filtered (λ j. is_live j && true) r.instances apart) i (listed (λ j. is_live j && true) true e)
              (λ s. reload_takes k Young Whole Aside life i (shape i) s same (both_true (is_live i) true e).0) r
          by false e = forgets k (At Whole) (Some (shape i)) r (for_each reload_instance (live_of (λ n. true) r) r) (each_none k reload_instance (reload_quiet k) (live_of (λ n. true) r) (listed (λ j. is_live j && true) false e) r)

      ended : (kind : PlanKind) → numbered (set_aside kind p r) k ≡ None → Takes k (Known (Some (shape i)) (At Whole)) (At Whole) r (end_old kind language p r)
      ended Load none = forgets k (At Whole) (Some (shape i)) r (nothing r) (record { shapes = refl; words = refl })
      ended Reload none = reloads
      ended Update none = forgets k (At Whole) (Some (shape i)) r (end_old Update language p r) (each_none k (replace_instance language (number_after p r)) (replace_quiet k language (number_after p r)) (replaced_instances p r) none r)

      old_lives : (kind : PlanKind) → p.kind ≡ kind → numbered (set_aside kind p r) k ≡ None → Takes k (Known (Some (shape i)) (At Whole)) (At Whole) r (steps kind)
      old_lives kind f none = in_turn (Known (Some (shape i)) (At Whole)) (At Whole) (At Whole) (At Whole) (At Whole) kind (ended kind none) (old_births (At Whole)) (tells_whole kind f none) (drops_none kind none)

      aside_lives : is_replaced i ≡ true → Takes k (Known (Some (shape i)) (At Whole)) (At Whole) r (steps Update)
      aside_lives e =
          let rest = both_true (is_live i) (has p.replaced i.name && has (new_names p r) i.name) e in
          let new : has (new_names p r) i.name ≡ true = (both_true (has p.replaced i.name) (has (new_names p r) i.name) rest.1).1 in
          in_turn (Known (Some (shape i)) (At Whole)) (At Aside) (At Aside) (At Aside) (At Whole) Update
          (each_one k (replace_instance language (number_after p r)) (replace_quiet k language (number_after p r)) (Known (Some (shape i)) (At Whole)) (At Aside) (replaced_instances p r) (apart_filtered is_replaced r.instances apart) i (listed is_replaced true e)
          (λ s. replace_takes k Young Whole Aside life language (number_after p r) (number_of p r i.name) i (shape i) s same (number_new p r i.name new) rest.0) r)
          (old_births (At Aside))
          (λ s. takes_each k (At Aside) (tell_boundary language p r) tell_aside r.pairs s)
          (λ s. each_one k (λ j t. drop_each is_held j.number t) (λ j t other. drop_quiet k is_held j.number other t) (At Aside) (At Whole) (replaced_instances p r) (apart_filtered is_replaced r.instances apart) i (listed is_replaced true e)
          (λ t. subst (λ m. Takes k (At Aside) (At Whole) t (drop_each is_held m t)) (sym same) (does_takes k Aside Whole (drop_shape is_held) (drop_words is_held) t (drop_each is_held k t) (drop_does k is_held t) life.laid)) s)

      there_lives : (kind : PlanKind) → p.kind ≡ kind → Takes k (Known (Some (shape i)) (At Whole)) (At Whole) r (steps kind)
      there_lives Load f = old_lives Load f refl
      there_lives Reload f = old_lives Reload f refl
      there_lives Update f = by (is_replaced i) refl
        where
          by : (b : Bool) → is_replaced i ≡ b → Takes k (Known (Some (shape i)) (At Whole)) (At Whole) r (steps Update)
          by true e = aside_lives e
          by false e = old_lives Update f (listed is_replaced false e)

    -- a plan is applied, up to the moment at which the page is the plan's
    pub plan_lives : Takes k (At Whole) (At Whole) r (steps p.kind)
    plan_lives = by (numbered r.instances k) refl
      where
        by : (o : Option Instance) → numbered r.instances k ≡ o → Takes k (At Whole) (At Whole) r (steps p.kind)
        by None e = new_lives e p.kind refl
        by (Some i) e = known_takes k (At Whole) (At Whole) (Some (shape i)) r (steps p.kind) (ap (option_map shape) e) (there_lives i e p.kind refl)

-- A prune.

module _ (language : Language) (names : List Name) (k : ℕ) (r : Runtime) (holds : HoldsOf r) (Young : List Handler → List Word → Type 0) (Whole Aside : Shape → List Word → Type 0) (life : IsLife Young Whole Aside) where
  abbrev leaves : Instance → Bool
  leaves i = is_live i && has names i.name

  pub prune_lives : Takes k (At Whole) (At Whole) r (for_each (prune_instance language) (live_of (has names) r) r)
  prune_lives = by (numbered r.instances k) refl
    where
      a : Apart r.instances
      a = apart_numbered r.instances holds.numbered

      leaving : (i : Instance) → numbered r.instances k ≡ Some i → (b : Bool) → leaves i ≡ b → Takes k (At Whole) (At Whole) r (for_each (prune_instance language) (live_of (has names) r) r)
      leaving i known true e = known_takes k (At Whole) (At Whole) (Some (shape i)) r (for_each (prune_instance language) (live_of (has names) r) r) (ap (option_map shape) known)
          (each_one k (prune_instance language) (prune_quiet k language) (Known (Some (shape i)) (At Whole)) (At Whole) (live_of (has names) r) (apart_filtered leaves r.instances a) i (numbered_filtered leaves r.instances a k ∙ ap (keep_if leaves) known ∙ ap (λ c. if c then Some i else None) e)
          (λ s. prune_takes k Young Whole Aside life language i (shape i) s (number_found r.instances k i known) (both_true (is_live i) (has names i.name) e).0) r)
      leaving i known false e = quiet_takes k (At Whole) r (for_each (prune_instance language) (live_of (has names) r) r) (each_none k (prune_instance language) (prune_quiet k language) (live_of (has names) r) (numbered_filtered leaves r.instances a k ∙ ap (keep_if leaves) known ∙ ap (λ c. if c then Some i else None) e) r)

      by : (o : Option Instance) → numbered r.instances k ≡ o → Takes k (At Whole) (At Whole) r (for_each (prune_instance language) (live_of (has names) r) r)
      by None e = quiet_takes k (At Whole) r (for_each (prune_instance language) (live_of (has names) r) r) (each_none k (prune_instance language) (prune_quiet k language) (live_of (has names) r) (none_filtered leaves r.instances k e) r)
      by (Some i) e = leaving i e (leaves i) refl
