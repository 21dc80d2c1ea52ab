-- An invalidation is of the version of the live module whose handler asked for it: whatever runs, a module
-- of its name is live then. So where each instance has the version of a counted edit, each unsent
-- invalidation has one.
use Rattle.std.proofs.Common.{◌≡◌, ◌⊎◌, inl, inr, ℕ, suc, ◌≤◌, ◌<◌, Bool, true, false, List, [], ◌∷◌, length, refl, ap, sym, ◌∙◌, arith, Contains}
use Rattle.std.specs.Prelude.{filter, reverse, map, cond, slice_get, ◌&&◌, ◌==◌, Option, Some, None, is_some, option_map, if◌then◌else◌, ⊤}
use Rattle.std.proofs.Math.Path.{subst}
use Rattle.std.proofs.lemmas.Bool.{false≢true, eqb-true}
use Rattle.std.proofs.lemmas.List.{length-map}
use Rattle.std.proofs.lemmas.List.Elements.{Contains-append_cases}
use Rattle.std.proofs.lemmas.List.Sorted.{IsPermutation-reverse, IsPermutation-sym, Contains-permutation}
use Rattle.hmr_types.specs.declared.words.PlanKind.{PlanKind}
use Rattle.hmr_types.specs.declared.words.PlanKind.TheVariants.{Load, Reload, Update}
use Rattle.hmr_types.specs.declared.value.Value.{Value}
use Rattle.output_lines.specs.declared.words.FaultPlace.{FaultPlace}
use Rattle.output_lines.specs.declared.words.FaultPlace.TheVariants as place
use Rattle.update_msgs.specs.Writable.{IsVersion}
use Rattle.core_model.specs.Names.{Name, same_name, has}
use Rattle.core_model.specs.Page.{Plan}
use Rattle.core_model.proofs.Naming.{both_true, same_true, true_same}
use Rattle.client_model.specs.Language.{Language, Slots, Ran}
use Rattle.client_model.specs.Instance.{Instance, Handler, is_live, is_live_fate, numbered, live_at, places_of, is_held, disposes, prunes, accepts_own, accepts_dep}
use Rattle.client_model.specs.Runtime.{Runtime, Invalidation, Did, nothing, for_each, bag_of}
use Rattle.client_model.specs.Running.{scope_of, run_deed, invalidation, version_in, run_handler, run_of, run_each, no_arguments, drop_each}
use Rattle.client_model.specs.Linking.{new_names, number_after, number_in}
use Rattle.client_model.specs.Making.{Birth, make}
use Rattle.client_model.specs.Applying.{fate_by, itself_in, listed_in, live_of, reload_instance, replace_instance, prune_instance, end_old, births, run_own, run_dep, tell_boundary, tell_all, set_aside, apply, prune}
use Rattle.client_model.specs.Firing.{hear_event, hear_all, event_arguments}
use Rattle.client_model.proofs.Acts.{did_if, by_make}
use Rattle.world_laws.specs.Unsent.{AreUnsentVersions}
use Rattle.world_laws.proofs.Members.{none_in, in_cases, head_in, tail_in, filter_from, map_in, MadeOf, map_from}
use Rattle.world_laws.proofs.Frames.{Frame, frame, frames, dead, is_of, live_one, Numbered, cut, cut_numbered, ended_by, found_in}
use Rattle.world_laws.proofs.Births.{Ready, new_frame, news, olds, frames_after, born_frames, applied_frames, number_new, numbered_after, live_after}
use Rattle.world_laws.proofs.Ending.{Cuts, cuts_replace, cuts_prune, same_of, same_run_each, same_tell, ended_names}
use Rattle.world_laws.proofs.Holding.{LeadsTo, lead_cut, lead_made, live_is}
use Rattle.world_laws.proofs.Making.{same_numbered}

-- each has the version of a counted edit
abbrev pub AllVersioned : List Frame → Type 0
AllVersioned fs = (f : Frame) → Contains fs f → IsVersion f.version

pub cut_versioned : (ends : ℕ → Bool) (fs : List Frame) → AllVersioned fs → AllVersioned (cut ends fs)
cut_versioned ends fs all f c =
    let m : MadeOf (λ g. if ends g.number then dead g else g) fs f =
    map_from (λ g. if ends g.number then dead g else g) fs f c in
    subst (λ (g : Frame). IsVersion g.version) m.makes (by (ends m.of.number) m.of (all m.of m.there))
  where
    by : (b : Bool) (g : Frame) → IsVersion g.version → IsVersion (if b then dead g else g).version
    by true g v = v
    by false g v = v

-- Names that are live.

live_there : (fs : List Frame) (n : Name) (f : Frame) → Contains fs f → is_of n f ≡ true →
    is_some (live_one fs n) ≡ true
live_there [] n f c e = absurd (none_in f c)
live_there (g ∷ fs) n f c e = by (is_of n g) refl (live_there fs n f) (in_cases g fs f c)
  where
    by : (b : Bool) → is_of n g ≡ b → (Contains fs f → is_of n f ≡ true → is_some (live_one fs n) ≡ true) →
        (g ≡ f) ⊎ Contains fs f → is_some (cond b (Some g) (live_one fs n)) ≡ true
    by true s rest k = refl
    by false s rest (inl same) = absurd (false≢true (sym s ∙ ap (is_of n) same ∙ e))
    by false s rest (inr t) = rest t e

-- one of this number is there, and it is live
record Stands (fs : List Frame) (k : ℕ) : Type 0 where
  to : Frame
  there : Contains fs to
  number : to.number ≡ k
  live : to.live ≡ true

-- where one of this number is there, its name is live
abbrev NameLives : List Frame → ℕ → Type 0
NameLives fs k = (f : Frame) → Contains fs f → f.number ≡ k → is_some (live_one fs f.name) ≡ true

stands_lives : (fs : List Frame) (k : ℕ) → Numbered fs → Stands fs k → NameLives fs k
stands_lives fs k d s f c e =
    let live : f.live ≡ true =
    sym (ap (λ (g : Frame). g.live) (same_numbered fs d s.to f s.there c (s.number ∙ sym e)))
    ∙ s.live in
    live_there fs f.name f c (ap (λ b. b && same_name f.name f.name) live ∙ true_same f.name f.name refl)

stands_cut : (k l : ℕ) (fs : List Frame) → l < k → Stands fs l → Stands (cut (λ j. j == k) fs) l
stands_cut k l fs less s =
    by (s.to.number == k) refl (map_in (λ f. if f.number == k then dead f else f) fs s.to s.there)
  where
    by : (b : Bool) → (s.to.number == k) ≡ b →
        Contains (cut (λ j. j == k) fs) (if b then dead s.to else s.to) → Stands (cut (λ j. j == k) fs) l
    by true e c = absurd (omega (arith, eqb-true s.to.number k e, s.number, less))
    by false e c = record { to = s.to; there = c; number = s.number; live = s.live }

stands_listed : (test : Name → Bool) (is : List Instance) (i : Instance) →
    Contains (filter (λ j. is_live j && test j.name) is) i →
    (test i.name ≡ true) × Stands (frames is) i.number
stands_listed test is i c =
    let k = filter_from (λ j. is_live j && test j.name) is i c in
    let parts = both_true (is_live i) (test i.name) k.0 in
    (parts.1, record { to = frame i; there = map_in frame is i k.1; number = refl; live = parts.0 })

stands_found : (is : List Instance) (n : Name) (i : Instance) → live_at is n ≡ Some i →
    Stands (frames is) i.number
stands_found is n i e =
    let k = found_in (λ j. is_live j && same_name j.name n) is i e in
    record {
      to = frame i;
      there = map_in frame is i k.0;
      number = refl;
      live = (both_true (is_live i) (same_name i.name n) k.1).0;
    }

live_version : (r : Runtime) (n : Name) → AllVersioned (frames r.instances) →
    is_some (live_one (frames r.instances) n) ≡ true → IsVersion (version_in (live_at r.instances n))
live_version r n all live = by (live_at r.instances n) refl
  where
    by : (o : Option Instance) → live_at r.instances n ≡ o → IsVersion (version_in o)
    by None e =
        absurd (false≢true (sym (ap is_some (live_is r.instances n ∙ ap (option_map frame) e)) ∙ live))
    by (Some i) e =
        all (frame i)
        (map_in frame r.instances i (found_in (λ j. is_live j && same_name j.name n) r.instances i e).0)

-- Runs of handlers.

module _ (language : Language) (at : FaultPlace) (arguments : Runtime → Handler → List (Option Slots)) where
  run_versions : (i : Instance) (spot : ℕ) (h : Option Handler) (r : Runtime) →
      is_some (live_one (frames r.instances) i.name) ≡ true → AllVersioned (frames r.instances) →
      AreUnsentVersions r → AreUnsentVersions (run_handler language at arguments i spot h r).0
  run_versions i spot None r live all u = u
  run_versions i spot (Some h) r live all u =
      λ m c. by m (Contains-append_cases r.unsent (map (invalidation r i.name) left.invalidations) m c)
    where
      left : Ran
      left = run_deed language h.deed (scope_of language r i) (arguments r h) (bag_of r i.name)

      by : (m : Invalidation) →
          Contains r.unsent m ⊎ Contains (map (invalidation r i.name) left.invalidations) m →
          IsVersion m.version
      by m (inl c) = u m c
      by m (inr c) =
          let k : MadeOf (invalidation r i.name) left.invalidations m =
          map_from (invalidation r i.name) left.invalidations m c in
          subst (λ (x : Invalidation). IsVersion x.version) k.makes (live_version r i.name all live)

  of_versions : (k spot : ℕ) (r : Runtime) (o : Option Instance) → numbered r.instances k ≡ o →
      NameLives (frames r.instances) k → AllVersioned (frames r.instances) → AreUnsentVersions r →
      AreUnsentVersions (run_of language at arguments o spot r).0
  of_versions k spot r None e lives all u = u
  of_versions k spot r (Some i) e lives all u =
      let found = found_in (λ j. j.number == k) r.instances i e in
      run_versions i spot (slice_get i.handlers spot) r
      (lives (frame i) (map_in frame r.instances i found.0) (eqb-true i.number k found.1)) all u

  places_versions : (k : ℕ) (places : List ℕ) (r : Runtime) → NameLives (frames r.instances) k →
      AllVersioned (frames r.instances) → AreUnsentVersions r →
      AreUnsentVersions
      (for_each (λ spot s. run_of language at arguments (numbered s.instances k) spot s) places r).0
  places_versions k [] r lives all u = u
  places_versions k (spot ∷ places) r lives all u =
      let s : Runtime = (run_of language at arguments (numbered r.instances k) spot r).0 in
      let same : frames r.instances ≡ frames s.instances =
      sym (same_of language at arguments (numbered r.instances k) spot r) in
      places_versions k places s (subst (λ fs. NameLives fs k) same lives) (subst AllVersioned same all)
      (of_versions k spot r (numbered r.instances k) refl lives all u)

  each_versions : (test : Handler → Bool) (k : ℕ) (r : Runtime) → NameLives (frames r.instances) k →
      AllVersioned (frames r.instances) → AreUnsentVersions r →
      AreUnsentVersions (run_each language at arguments test k r).0
  each_versions test k r lives all u =
      places_versions k (places_of test (numbered r.instances k)) r lives all u

-- Falling numbers.

abbrev Fall : ℕ → List Instance → Type 0
Fall b [] = ⊤
Fall b (i ∷ is) = (i.number < b) × Fall i.number is

fall_below : (b c : ℕ) (is : List Instance) → b ≤ c → Fall b is → Fall c is
fall_below b c [] l f = tt
fall_below b c (i ∷ is) l f = (omega (arith, l, f.0), f.1)

all_below : (b : ℕ) (is : List Instance) → Fall b is → (i : Instance) → Contains is i → i.number < b
all_below b [] f i c = absurd (none_in i c)
all_below b (x ∷ is) f i c = by (all_below x.number is f.1 i) (in_cases x is i c)
  where
    by : (Contains is i → i.number < x.number) → (x ≡ i) ⊎ Contains is i → i.number < b
    by rest (inl e) = omega (arith, f.0, ap (λ (j : Instance). j.number) e)
    by rest (inr t) = omega (arith, f.0, rest t)

fall_filtered : (q : Instance → Bool) (b : ℕ) (is : List Instance) → Fall b is → Fall b (filter q is)
fall_filtered q b [] f = tt
fall_filtered q b (i ∷ is) f = by (q i) (fall_filtered q i.number is f.1)
  where
    by : (c : Bool) → Fall i.number (filter q is) → Fall b (cond c (i ∷ filter q is) (filter q is))
    by true rest = (f.0, rest)
    by false rest = fall_below i.number b (filter q is) (omega (arith, f.0)) rest

numbers_fall : (is : List Instance) → Numbered (frames is) → Fall (suc (length is)) is
numbers_fall [] d = tt
numbers_fall (i ∷ is) d = (
  omega (arith, d.0, length-map is frame),
  fall_below (suc (length is)) i.number is
      (omega (arith, d.0, length-map is frame)) (numbers_fall is d.1),
)

-- Ends.

-- each of a list is ended while it is live
module _ (good : Instance → Bool) (act : Instance → Runtime → Did)
    (cuts : (i : Instance) (s : Runtime) → good i ≡ true → Cuts i.number s (act i s))
    (keeps : (i : Instance) (s : Runtime) → NameLives (frames s.instances) i.number →
    AllVersioned (frames s.instances) → AreUnsentVersions s → AreUnsentVersions (act i s).0) where
  ends_versions : (b : ℕ) (is : List Instance) (s : Runtime) → Fall b is →
      ((i : Instance) → Contains is i → (good i ≡ true) × Stands (frames s.instances) i.number) →
      Numbered (frames s.instances) → AllVersioned (frames s.instances) → AreUnsentVersions s →
      AreUnsentVersions (for_each act is s).0
  ends_versions b [] s f h d all u = u
  ends_versions b (i ∷ is) s f h d all u =
      let first = h i (head_in i is) in
      let after : cut (λ j. j == i.number) (frames s.instances) ≡ frames (act i s).0.instances =
      sym (cuts i s first.0) in
      ends_versions i.number is (act i s).0 f.1
      (λ j c. let k = h j (tail_in i is j c) in (
        k.0,
        subst (λ fs. Stands fs j.number) after
            (stands_cut i.number j.number (frames s.instances) (all_below i.number is f.1 j c) k.1),
      ))
      (subst Numbered after (cut_numbered (λ j. j == i.number) (frames s.instances) d))
      (subst AllVersioned after (cut_versioned (λ j. j == i.number) (frames s.instances) all))
      (keeps i s (stands_lives (frames s.instances) i.number d first.1) all u)

  live_versions : (test : Name → Bool) → ((i : Instance) → test i.name ≡ true → good i ≡ true) →
      (r : Runtime) → Numbered (frames r.instances) → AllVersioned (frames r.instances) →
      AreUnsentVersions r → AreUnsentVersions (for_each act (live_of test r) r).0
  live_versions test fits r d all u =
      ends_versions (suc (length r.instances)) (live_of test r) r
      (fall_filtered (λ j. is_live j && test j.name) (suc (length r.instances)) r.instances
      (numbers_fall r.instances d))
      (λ i c. let k = stands_listed test r.instances i c in (fits i k.0, k.1)) d all u

module _ (language : Language) where
  prune_versions : (i : Instance) (r : Runtime) → NameLives (frames r.instances) i.number →
      AllVersioned (frames r.instances) → AreUnsentVersions r →
      AreUnsentVersions (prune_instance language i r).0
  prune_versions i r lives all u =
      let disposed : Did = run_each language place.Dispose no_arguments disposes i.number r in
      let same : frames r.instances ≡ frames disposed.0.instances =
      sym (same_run_each language place.Dispose no_arguments disposes i.number r) in
      each_versions language place.Prune no_arguments prunes i.number disposed.0
      (subst (λ fs. NameLives fs i.number) same lives) (subst AllVersioned same all)
      (each_versions language place.Dispose no_arguments disposes i.number r lives all u)

  pub pruned_versions : (names : List Name) (r : Runtime) → Numbered (frames r.instances) →
      AllVersioned (frames r.instances) → AreUnsentVersions r →
      AreUnsentVersions (prune language names r).0
  pruned_versions names r d all u =
      live_versions (λ i. true) (prune_instance language) (λ i s g. cuts_prune language i s) prune_versions
      (has names) (λ i h. refl) r d all u

  reloaded_versions : (is : List Instance) (r : Runtime) → AreUnsentVersions r →
      AreUnsentVersions (for_each reload_instance is r).0
  reloaded_versions [] r u = u
  reloaded_versions (i ∷ is) r u = reloaded_versions is (reload_instance i r).0 u

  ended_versions : (kind : PlanKind) (p : Plan) (r : Runtime) → Numbered (frames r.instances) →
      AllVersioned (frames r.instances) → AreUnsentVersions r →
      AreUnsentVersions (end_old kind language p r).0
  ended_versions Load p r d all u = u
  ended_versions Reload p r d all u = reloaded_versions (live_of (λ n. true) r) r u
  ended_versions Update p r d all u =
      live_versions (λ i. has (new_names p r) i.name) (replace_instance language (number_after p r))
      (λ i s new. cuts_replace language (number_after p r) i s
      (ap (λ o. is_live_fate (fate_by o)) (number_new p r i.name new)))
      (λ i s lives all u. each_versions language place.Dispose no_arguments disposes i.number s lives all u)
      (λ n. has p.replaced n && has (new_names p r) n)
      (λ i h. (both_true (has p.replaced i.name) (has (new_names p r) i.name) h).1) r d all u

  -- New instances, and what is dropped.

  made_versions : (bs : List Birth) (r : Runtime) → AreUnsentVersions r →
      AreUnsentVersions (for_each (make language) bs r).0
  made_versions [] r u = u
  made_versions (b ∷ bs) r u =
      made_versions bs (make language b r).0 (by_make (λ did. AreUnsentVersions did.0) language b r u u)

  dropped_versions : (is : List Instance) (r : Runtime) → AreUnsentVersions r →
      AreUnsentVersions (for_each (λ i s. drop_each is_held i.number s) is r).0
  dropped_versions [] r u = u
  dropped_versions (i ∷ is) r u = dropped_versions is (drop_each is_held i.number r).0 u

  -- Boundaries are told.

  module _ (p : Plan) (before : Runtime) (d : Numbered (frames before.instances))
      (all : AllVersioned (frames_after p before)) where
    dep_versions : (x : Name) (s : Runtime) → frames s.instances ≡ frames_after p before →
        AreUnsentVersions s → (n : Name) (o : Option Instance) → live_at s.instances n ≡ o →
        AreUnsentVersions (run_dep language (number_in o) x s).0
    dep_versions x s same u n None e = u
    dep_versions x s same u n (Some i) e =
        each_versions language place.Dep (listed_in x) (accepts_dep x) i.number s
        (stands_lives (frames s.instances) i.number (subst Numbered (sym same) (numbered_after p before d))
        (stands_found s.instances n i e)) (subst AllVersioned (sym same) all) u

    -- the old instance of a name that has a new one: the name is live
    old_lives : (x : Name) (i : Instance) → live_at before.instances x ≡ Some i →
        has (new_names p before) x ≡ true → NameLives (frames_after p before) i.number
    old_lives x i e new f c number =
        let old : Option Frame =
        if ended_names p.kind p before x then None else live_one (frames before.instances) x in
        let found = found_in (λ j. is_live j && same_name j.name x) before.instances i e in
        let led : LeadsTo (frames before.instances) x i.number = record {
          to = frame i;
          there = map_in frame before.instances i found.0;
          number = refl;
          name = same_true i.name x (both_true (is_live i) (same_name i.name x) found.1).1;
        } in
        let lead : LeadsTo (frames_after p before) x i.number =
        lead_made (news p before) (olds p before) x i.number
        (lead_cut (ended_by (ended_names p.kind p before) (frames before.instances))
        (frames before.instances) x i.number led) in
        let named : x ≡ f.name =
        sym lead.name
        ∙ ap (λ (g : Frame). g.name)
        (same_numbered (frames_after p before) (numbered_after p before d) lead.to f lead.there c
        (lead.number ∙ sym number)) in
        subst (λ n. is_some (live_one (frames_after p before) n) ≡ true) named
        (ap is_some (live_after p before d x)
        ∙ ap (λ b. is_some (if b then Some (new_frame p before x) else old)) new)

    own_versions : (x : Name) (s : Runtime) → frames s.instances ≡ frames_after p before →
        AreUnsentVersions s → has (new_names p before) x ≡ true → (o : Option Instance) →
        live_at before.instances x ≡ o → AreUnsentVersions (run_own language (number_in o) x s).0
    own_versions x s same u new None e = u
    own_versions x s same u new (Some i) e =
        each_versions language place.Own (itself_in x) accepts_own i.number s
        (subst (λ fs. NameLives fs i.number) (sym same) (old_lives x i e new))
        (subst AllVersioned (sym same) all) u

    tell_versions : (pair : Name × Name) (s : Runtime) → frames s.instances ≡ frames_after p before →
        AreUnsentVersions s → AreUnsentVersions (tell_boundary language p before pair s).0
    tell_versions pair s same u = by (has (new_names p before) pair.1) refl
      where
        own : Did
        own = run_own language (number_in (live_at before.instances pair.1)) pair.1 s

        dep : Did
        dep = run_dep language (number_in (live_at s.instances pair.0)) pair.1 s

        dep_is : AreUnsentVersions dep.0
        dep_is = dep_versions pair.1 s same u pair.0 (live_at s.instances pair.0) refl

        by : (b : Bool) → has (new_names p before) pair.1 ≡ b →
            AreUnsentVersions
            (if b then (if same_name pair.0 pair.1 then own else dep)
            else (if has before.page.forced pair.1 then dep else nothing s)).0
        by true new =
            did_if (λ did. AreUnsentVersions did.0) (same_name pair.0 pair.1) own dep
            (own_versions pair.1 s same u new (live_at before.instances pair.1) refl) dep_is
        by false new =
            did_if (λ did. AreUnsentVersions did.0) (has before.page.forced pair.1) dep (nothing s) dep_is
            u

    pairs_versions : (pairs : List (Name × Name)) (s : Runtime) →
        frames s.instances ≡ frames_after p before → AreUnsentVersions s →
        AreUnsentVersions (for_each (tell_boundary language p before) pairs s).0
    pairs_versions [] s same u = u
    pairs_versions (pair ∷ pairs) s same u =
        pairs_versions pairs (tell_boundary language p before pair s).0
        (same_tell language p before pair s ∙ same) (tell_versions pair s same u)

    told_versions : (kind : PlanKind) (s : Runtime) → frames s.instances ≡ frames_after p before →
        AreUnsentVersions s → AreUnsentVersions (tell_all kind language p before s).0
    told_versions Load s same u = u
    told_versions Reload s same u = u
    told_versions Update s same u = pairs_versions before.pairs s same u

  -- A plan is applied, where the instances that it leaves have versions.
  pub applied_versions : (p : Plan) (r : Runtime) → Ready p r → Numbered (frames r.instances) →
      AllVersioned (frames r.instances) → AllVersioned (frames (apply language p r).0.instances) →
      AreUnsentVersions r → AreUnsentVersions (apply language p r).0
  applied_versions p r ready d all after u =
      let ended : Did = end_old p.kind language p r in
      let born : Did = for_each (make language) (births (new_names p r) p r) ended.0 in
      let told : Did = tell_all p.kind language p r born.0 in
      dropped_versions (set_aside p.kind p r) told.0
      (told_versions p r d (subst AllVersioned (applied_frames language p r ready) after) p.kind born.0
      (born_frames language p r ready)
      (made_versions (births (new_names p r) p r) ended.0 (ended_versions p.kind p r d all u)))

  -- An event is heard.

  hears_versions : (event : Name) (value : Value) (is : List Instance) (s : Runtime) →
      ((i : Instance) → Contains is i → Stands (frames s.instances) i.number) →
      Numbered (frames s.instances) → AllVersioned (frames s.instances) → AreUnsentVersions s →
      AreUnsentVersions (for_each (hear_event language event value) is s).0
  hears_versions event value [] s h d all u = u
  hears_versions event value (i ∷ is) s h d all u =
      let same : frames s.instances ≡ frames (hear_event language event value i s).0.instances =
      sym (same_run_each language place.Dep (event_arguments event value) (accepts_dep event) i.number
      s) in
      hears_versions event value is (hear_event language event value i s).0
      (λ j c. subst (λ fs. Stands fs j.number) same (h j (tail_in i is j c))) (subst Numbered same d)
      (subst AllVersioned same all)
      (each_versions language place.Dep (event_arguments event value) (accepts_dep event) i.number s
      (stands_lives (frames s.instances) i.number d (h i (head_in i is))) all u)

  pub heard_versions : (event : Name) (value : Value) (r : Runtime) → Numbered (frames r.instances) →
      AllVersioned (frames r.instances) → AreUnsentVersions r →
      AreUnsentVersions (hear_all language event value r).0
  heard_versions event value r d all u =
      let lives : List Instance = live_of (λ n. true) r in
      hears_versions event value (reverse lives) r
      (λ i c.
      (stands_listed (λ n. true) r.instances i
      (Contains-permutation (reverse lives) lives i
      (IsPermutation-sym lives (reverse lives) (IsPermutation-reverse lives)) c)).1) d all u
