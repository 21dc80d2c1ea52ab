-- Between messages, a name without a live instance has no data.
use Rattle.std.proofs.Common.{◌≡◌, ◌⊎◌, inl, inr, ℕ, Bool, true, false, List, [], ◌∷◌, refl, ap, sym, ◌∙◌}
use Rattle.std.specs.Prelude.{map, cond, filter, ◌&&◌, ◌||◌, Option, Some, None, is_some, option_map, if◌then◌else◌}
use Rattle.std.proofs.Math.Path.{subst}
use Rattle.std.proofs.lemmas.Bool.{false≢true}
use Rattle.hmr_types.specs.declared.words.PlanKind.{PlanKind}
use Rattle.hmr_types.specs.declared.words.PlanKind.TheVariants.{Load, Reload, Update}
use Rattle.output_lines.specs.declared.words.FaultPlace.TheVariants as place
use Rattle.core_model.specs.Names.{Name, same_name, has}
use Rattle.core_model.specs.Page.{Plan}
use Rattle.core_model.proofs.Naming.{both_true, or_left, or_right, same_true, and_last}
use Rattle.client_model.specs.Language.{Language}
use Rattle.client_model.specs.Instance.{Instance, live_at, is_live, accepts_own, accepts_dep, is_held}
use Rattle.client_model.specs.Linking.{next_needed, new_names, number_after, number_in}
use Rattle.client_model.specs.Runtime.{Runtime, Opening, Did, for_each, nothing, bag_of}
use Rattle.client_model.specs.Running.{drop_each}
use Rattle.client_model.specs.Making.{make}
use Rattle.client_model.specs.Applying.{live_of, births, end_old, replaced_instances, itself_in, listed_in, run_own, run_dep, replace_instance, tell_boundary, tell_all, set_aside, apply, prune_instance, prune}
use Rattle.client_model.specs.Past.{Past, runtime_after}
use Rattle.client_model.proofs.Takes.{Quiet, IsTaken, met_does}
use Rattle.world_laws.proofs.Members.{map_in}
use Rattle.world_laws.proofs.Frames.{Frame, frame, frames, live_one, live_cut, Numbered, ended_by, names_in}
use Rattle.world_laws.proofs.Ending.{ended_names, ends_prune, same_hear, same_tell, same_tell_all, same_set_aside}
use Rattle.world_laws.proofs.Births.{Ready, birth_frame, new_frame, news, olds, frames_after, births_are, news_names, applied_frames, live_after, numbered_after}
use Rattle.world_laws.proofs.Holding.{HoldsOf, LeadsTo, live_is, number_is, number_at, live_leads, lead_cut, lead_made, is_ready}
use Rattle.world_laws.proofs.Messages.{run_holds}
use Rattle.journal_laws.specs.Runs.{OfEachRun}
use Rattle.journal_laws.specs.Data.{NoneIsLeft}
use Rattle.journal_laws.proofs.DataHearing.{hear_spares}
use Rattle.journal_laws.proofs.DataSparing.{name_at, named_in, AreNamed, some_of, filter_in, spares_all, prunes_empty, replacing, pruning_own, spares_run_each, spares_births}

-- the same, of frames
abbrev pub NoneLeft : Runtime → Type 0
NoneLeft r = (n : Name) → live_one (frames r.instances) n ≡ None → bag_of r n ≡ []

-- The live instances of some names.

pub none_of : (test : Name → Bool) (n : Name) → test n ≡ false → (is : List Instance) → some_of n (filter (λ i. is_live i && test i.name) is) ≡ false
none_of test n e [] = refl
none_of test n e (i ∷ is) = by (is_live i && test i.name) refl (none_of test n e is)
  where
    apart : (b : Bool) → same_name i.name n ≡ b → test i.name ≡ true → b ≡ false
    apart true same t = absurd (false≢true (sym e ∙ ap test (sym (same_true i.name n same)) ∙ t))
    apart false same t = refl

    by : (b : Bool) → (is_live i && test i.name) ≡ b → some_of n (filter (λ j. is_live j && test j.name) is) ≡ false → some_of n (cond b (i ∷ filter (λ j. is_live j && test j.name) is) (filter (λ j. is_live j && test j.name) is)) ≡ false
    by true t rest = ap (λ b. b || some_of n (filter (λ j. is_live j && test j.name) is)) (apart (same_name i.name n) refl (both_true (is_live i) _ t).1) ∙ rest
    by false t rest = rest

some_step : (n : Name) (i : Instance) (xs : List Instance) (o : Option Frame) (live same tested : Bool) → same_name i.name n ≡ same → (same ≡ true → tested ≡ true) → (is_some o ≡ true → some_of n xs ≡ true) → is_some (cond (live && same) (Some (frame i)) o) ≡ true → some_of n (cond (live && tested) (i ∷ xs) xs) ≡ true
some_step n i xs o true true tested e f rest h = ap (λ b. some_of n (cond b (i ∷ xs) xs)) (f refl) ∙ or_left (same_name i.name n) _ e
some_step n i xs o true false true e f rest h = or_right (same_name i.name n) _ (rest h)
some_step n i xs o true false false e f rest h = rest h
some_step n i xs o false same tested e f rest h = rest h

pub live_listed : (test : Name → Bool) (n : Name) → test n ≡ true → (is : List Instance) → is_some (live_one (frames is) n) ≡ true → some_of n (filter (λ i. is_live i && test i.name) is) ≡ true
live_listed test n e [] h = h
live_listed test n e (i ∷ is) h = some_step n i (filter (λ j. is_live j && test j.name) is) (live_one (frames is) n) (is_live i) (same_name i.name n) (test i.name) refl (λ s. ap test (same_true i.name n s) ∙ e) (live_listed test n e is) h

pub live_named : (test : Name → Bool) (r : Runtime) → Numbered (frames r.instances) → AreNamed (frames r.instances) (live_of test r)
live_named test r d i c = named_in (frames r.instances) d (frame i) (map_in frame r.instances i (filter_in (λ j. is_live j && test j.name) r.instances i c).0)

if_none : {X : Type 0} (b : Bool) (o : Option X) → b ≡ false → (if b then None else o) ≡ None → o ≡ None
if_none true o e h = absurd (false≢true (sym e))
if_none false o e h = h

-- A prune.

module _ (language : Language) (names : List Name) (r : Runtime) (d : Numbered (frames r.instances)) (empty : NoneLeft r) where
  pub prune_leaves_none : NoneLeft (prune language names r).0
  prune_leaves_none n e = by (has names n) refl (sym (live_cut (has names) (frames r.instances) d n) ∙ ap (λ fs. live_one fs n) (sym (ends_prune language names r)) ∙ e)
    where
      live_case : (o : Option Frame) → live_one (frames r.instances) n ≡ o → has names n ≡ true → (bag_of r n ≡ []) ⊎ (some_of n (live_of (has names) r) ≡ true)
      live_case None f t = inl (empty n f)
      live_case (Some g) f t = inr (live_listed (has names) n t r.instances (ap is_some f))

      by : (b : Bool) → has names n ≡ b → (if b then None else live_one (frames r.instances) n) ≡ None → bag_of (prune language names r).0 n ≡ []
      by true t h = prunes_empty language n (live_of (has names) r) r (live_named (has names) r d) (live_case (live_one (frames r.instances) n) refl t)
      by false t h = spares_all (prune_instance language) (pruning_own language) n (live_of (has names) r) r (live_named (has names) r d) (none_of (has names) n t r.instances) ∙ empty n h

-- A plan.

pub lead_name : (fs : List Frame) → Numbered fs → (x : Name) (k : ℕ) → LeadsTo fs x k → name_at fs k ≡ Some x
lead_name fs d x k l = ap (name_at fs) (sym l.number) ∙ named_in fs d l.to l.there ∙ ap Some l.name

drops_leave : (is : List Instance) (r : Runtime) (n : Name) → bag_of (for_each (λ i s. drop_each is_held i.number s) is r).0 n ≡ bag_of r n
drops_leave [] r n = refl
drops_leave (i ∷ is) r n = drops_leave is (drop_each is_held i.number r).0 n

module _ (language : Language) (p : Plan) (r : Runtime) (d : Numbered (frames r.instances)) where
  pub ended_spares : (n : Name) → has (new_names p r) n ≡ false → bag_of (end_old Update language p r).0 n ≡ bag_of r n
  ended_spares n new = spares_all (replace_instance language (number_after p r)) (replacing language (number_after p r)) n (replaced_instances p r) r (live_named (ended_names Update p r) r d) (none_of (ended_names Update p r) n (and_last (has p.replaced n) (has (new_names p r) n) new) r.instances)

  ended_empty : (kind : PlanKind) (n : Name) → NoneLeft r → has (new_names p r) n ≡ false → (if ended_names kind p r n then None else live_one (frames r.instances) n) ≡ None → bag_of (end_old kind language p r).0 n ≡ []
  ended_empty Load n empty new e = empty n e
  ended_empty Reload n empty new e = refl
  ended_empty Update n empty new e = ended_spares n new ∙ empty n (if_none (has p.replaced n && has (new_names p r) n) (live_one (frames r.instances) n) (and_last (has p.replaced n) (has (new_names p r) n) new) e)

module _ (language : Language) (p : Plan) (r : Runtime) (plan_is : r.page.plan ≡ Some p) (needed : next_needed p r ≡ None) (h : HoldsOf r) where
  ready : Ready p r
  ready = is_ready p r plan_is needed h

  abbrev ended_by_plan : Did
  ended_by_plan = end_old p.kind language p r

  abbrev born_by_plan : Did
  born_by_plan = for_each (make language) (births (new_names p r) p r) ended_by_plan.0

  abbrev told_by_plan : Did
  told_by_plan = tell_all p.kind language p r born_by_plan.0

  frames_born : frames born_by_plan.0.instances ≡ frames_after p r
  frames_born = sym (same_tell_all p.kind language p r born_by_plan.0) ∙ sym (same_set_aside language p r told_by_plan.0) ∙ applied_frames language p r ready

  pub births_names : names_in (map birth_frame (births (new_names p r) p r)) ≡ new_names p r
  births_names = ap names_in (births_are p r ready (new_names p r) (λ n t. t)) ∙ news_names p r

  module _ (n : Name) (new : has (new_names p r) n ≡ false) (gone : live_one (frames_after p r) n ≡ None) where
    new_apart : (m : Name) → has (new_names p r) m ≡ true → same_name m n ≡ false
    new_apart m t = by (same_name m n) refl
      where
        by : (b : Bool) → same_name m n ≡ b → b ≡ false
        by true s = absurd (false≢true (sym new ∙ ap (has (new_names p r)) (sym (same_true m n s)) ∙ t))
        by false s = refl

    old_name : (m : Name) (k : ℕ) → number_in (live_at r.instances m) ≡ Some k → name_at (frames_after p r) k ≡ Some m
    old_name m k e = lead_name (frames_after p r) (numbered_after p r h.numbered) m k
        (lead_made (news p r) (olds p r) m k (lead_cut (ended_by (ended_names p.kind p r) (frames r.instances)) (frames r.instances) m k
        (live_leads (frames r.instances) m k (live_one (frames r.instances) m) refl (sym (number_is r.instances m) ∙ e))))

    spares_own : (number : Option ℕ) (m : Name) (s : Runtime) → ((k : ℕ) → number ≡ Some k → name_at (frames s.instances) k ≡ Some m) → same_name m n ≡ false → bag_of (run_own language number m s).0 n ≡ bag_of s n
    spares_own None m s e apart = refl
    spares_own (Some k) m s e apart = spares_run_each language place.Own (itself_in m) n accepts_own k m s (e k refl) apart

    spares_dep : (number : Option ℕ) (x m : Name) (s : Runtime) → ((k : ℕ) → number ≡ Some k → (name_at (frames s.instances) k ≡ Some m) × (same_name m n ≡ false)) → bag_of (run_dep language number x s).0 n ≡ bag_of s n
    spares_dep None x m s e = refl
    spares_dep (Some k) x m s e = spares_run_each language place.Dep (listed_in x) n (accepts_dep x) k m s (e k refl).0 (e k refl).1

    live_apart : (m : Name) (k : ℕ) (s : Runtime) → frames s.instances ≡ frames_after p r → number_in (live_at s.instances m) ≡ Some k → same_name m n ≡ false
    live_apart m k s f e = by (same_name m n) refl
      where
        by : (b : Bool) → same_name m n ≡ b → b ≡ false
        by true same = absurd (false≢true (sym (ap (λ fs. is_some (number_at (live_one fs n))) f ∙ ap (λ o. is_some (number_at o)) gone) ∙ ap (λ x. is_some (number_at (live_one (frames s.instances) x))) (sym (same_true m n same)) ∙ ap is_some (sym (number_is s.instances m) ∙ e)))
        by false same = refl

    live_name : (m : Name) (k : ℕ) (s : Runtime) → frames s.instances ≡ frames_after p r → number_in (live_at s.instances m) ≡ Some k → name_at (frames s.instances) k ≡ Some m
    live_name m k s f e = lead_name (frames s.instances) (subst Numbered (sym f) (numbered_after p r h.numbered)) m k (live_leads (frames s.instances) m k (live_one (frames s.instances) m) refl (sym (number_is s.instances m) ∙ e))

    spares_tell : (pair : Name × Name) (s : Runtime) → frames s.instances ≡ frames_after p r → bag_of (tell_boundary language p r pair s).0 n ≡ bag_of s n
    spares_tell pair s f = by (has (new_names p r) pair.1) (same_name pair.0 pair.1) (has r.page.forced pair.1) refl
      where
        own : Did
        own = run_own language (number_in (live_at r.instances pair.1)) pair.1 s

        dep : Did
        dep = run_dep language (number_in (live_at s.instances pair.0)) pair.1 s

        own_spares : has (new_names p r) pair.1 ≡ true → bag_of own.0 n ≡ bag_of s n
        own_spares t = spares_own (number_in (live_at r.instances pair.1)) pair.1 s (λ k e. ap (λ fs. name_at fs k) f ∙ old_name pair.1 k e) (new_apart pair.1 t)

        dep_spares : bag_of dep.0 n ≡ bag_of s n
        dep_spares = spares_dep (number_in (live_at s.instances pair.0)) pair.1 pair.0 s (λ k e. (live_name pair.0 k s f e, live_apart pair.0 k s f e))

        by : (a b c : Bool) → has (new_names p r) pair.1 ≡ a → bag_of (if a then (if b then own else dep) else (if c then dep else nothing s)).0 n ≡ bag_of s n
        by true true c e = own_spares e
        by true false c e = dep_spares
        by false b true e = dep_spares
        by false b false e = refl

    spares_pairs : (pairs : List (Name × Name)) (s : Runtime) → frames s.instances ≡ frames_after p r → bag_of (for_each (tell_boundary language p r) pairs s).0 n ≡ bag_of s n
    spares_pairs [] s f = refl
    spares_pairs (pair ∷ pairs) s f = spares_pairs pairs (tell_boundary language p r pair s).0 (same_tell language p r pair s ∙ f) ∙ spares_tell pair s f

    spares_telling : (kind : PlanKind) (s : Runtime) → frames s.instances ≡ frames_after p r → bag_of (tell_all kind language p r s).0 n ≡ bag_of s n
    spares_telling Load s f = refl
    spares_telling Reload s f = refl
    spares_telling Update s f = spares_pairs r.pairs s f

    spares_plan : bag_of (apply language p r).0 n ≡ bag_of ended_by_plan.0 n
    spares_plan = drops_leave (set_aside p.kind p r) told_by_plan.0 n ∙ spares_telling p.kind born_by_plan.0 frames_born
        ∙ spares_births language n (births (new_names p r) p r) ended_by_plan.0 (ap (λ names. has names n) births_names ∙ new)

  pub apply_leaves_none : NoneLeft r → NoneLeft (apply language p r).0
  apply_leaves_none empty n e = by (has (new_names p r) n) refl gone (sym (live_after p r h.numbered n) ∙ gone)
    where
      gone : live_one (frames_after p r) n ≡ None
      gone = ap (λ fs. live_one fs n) (sym (applied_frames language p r ready)) ∙ e

      by : (b : Bool) → has (new_names p r) n ≡ b → live_one (frames_after p r) n ≡ None → (if b then Some (new_frame p r n) else (if ended_names p.kind p r n then None else live_one (frames r.instances) n)) ≡ None → bag_of (apply language p r).0 n ≡ []
      by true new gone f = absurd (false≢true (sym (ap is_some f)))
      by false new gone f = spares_plan n new gone ∙ ended_empty language p r h.numbered p.kind n empty new f

-- Every message.

none_framed : (o : Option Instance) → o ≡ None → option_map frame o ≡ None
none_framed o e = ap (option_map frame) e

module _ (language : Language) where
  abbrev KeepsNone : Runtime → Did → Type 0
  KeepsNone r did = HoldsOf r → NoneLeft r → NoneLeft did.0

  quiet_none : (r : Runtime) (did : Did) → Quiet r did → KeepsNone r did
  quiet_none r did q h empty n e = ap (λ bags. bag_of (record r { bags = bags }) n) q.bags ∙ empty n (ap (λ is. live_one (frames is) n) (sym q.instances) ∙ e)

  none_taken : IsTaken language KeepsNone
  none_taken = record {
    quiet = quiet_none;
    prunes = λ names r none loaded h empty. prune_leaves_none language names r h.numbered empty;
    applies = λ p r e due counted h empty. apply_leaves_none language p r e due.0 h empty;
    hears = λ event value r loaded idle h empty n e. let gone : live_one (frames r.instances) n ≡ None = ap (λ fs. live_one fs n) (sym (same_hear language event value r)) ∙ e in hear_spares language event value n r h.numbered gone ∙ empty n gone;
  }

  pub none_left : (opening : Opening) (past : Past) → NoneLeft (runtime_after language opening past)
  none_left opening [] = λ n e. refl
  none_left opening (came ∷ past) =
      let r : Runtime = runtime_after language opening past in
      met_does language KeepsNone none_taken r came (run_holds language opening past) (none_left opening past)

  pub none_is_left : OfEachRun language NoneIsLeft
  none_is_left opening past n e = none_left opening past n (live_is (runtime_after language opening past).instances n ∙ none_framed (live_at (runtime_after language opening past).instances n) e)
