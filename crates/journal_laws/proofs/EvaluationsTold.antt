-- Each thing that a client does tells of it right: an evaluation, an instance that isn't run, the run of a
-- handler. So does the journal of all that happened.
use Rattle.std.proofs.Common.{◌≡◌, ℕ, Bool, true, false, List, [], ◌∷◌, ◌++◌, refl, ap, sym, ◌∙◌, Contains}
use Rattle.std.specs.Prelude.{fold, slice_get, ◌==◌, Option, Some, None, if◌then◌else◌}
use Rattle.std.proofs.Math.Path.{subst}
use Rattle.output_lines.specs.declared.words.FaultPlace.{FaultPlace}
use Rattle.output_lines.specs.declared.words.InstanceFate.{InstanceFate}
use Rattle.output_lines.specs.declared.words.InstanceStatus.TheVariants.{Unrun}
use Rattle.core_model.specs.Names.{Name}
use Rattle.client_model.specs.Language.{Language, Slots, Bag, Ran, Evaluated}
use Rattle.client_model.specs.Instance.{Instance, Handler, Deed, numbered, with_dropped, places_of}
use Rattle.client_model.specs.Journal.{Journal, made, evaluated, not_run, ran}
use Rattle.client_model.specs.Runtime.{Runtime, Opening, Did, and_then, bag_of}
use Rattle.client_model.specs.Running.{assigned, imported_slots, end_after, after_run, scope_of, run_deed, did_run, drop_each, end_instance, TakesNothing}
use Rattle.client_model.specs.Making.{Registry, Birth, born, register_in, status_after, is_failed, has_failed_link, make_unrun, make_run, evaluate, make}
use Rattle.client_model.specs.Past.{Past, met, runtime_after, journal_of}
use Rattle.world_laws.proofs.Members.{head_in}
use Rattle.world_laws.proofs.Frames.{found_in}
use Rattle.journal_laws.specs.Values.{values_left, imports_left, IsEvaluationOf, IsUnrun, IsRunOf}
use Rattle.journal_laws.proofs.ValuesWalk.{IsStepped}
use Rattle.journal_laws.proofs.ValuesRegistry.{IsJoined, drops_join, registry_joins}
use Rattle.journal_laws.proofs.ValuesTaking.{steps_met}
use Rattle.journal_laws.proofs.ValuesAdding.{Adds, values_in, times_in, adds_then, none_assigned, or_false, plus_none}
use Rattle.journal_laws.proofs.ValuesMaking.{all_add}
use Rattle.journal_laws.proofs.ValuesLeft.{Reads, reads_on, reads_run, numbered_run}
use Rattle.journal_laws.proofs.EvaluationsLater.{Core, core_of, Stay, stay_same, stay_then, stay_more, stay_change, deeds_ended, deeds_dropped, unset_so, run_later}
use Rattle.journal_laws.proofs.EvaluationsRight.{AreRight, rights_later, rights_join, right_at, imported_are, links_are}
use Rattle.journal_laws.proofs.Numbers.{number_found}

pub record Tells (language : Language) (r : Runtime) (did : Did) : Type 0 where
  pub adds : Adds r did
  pub stay : Stay r.instances did.0.instances
  pub right : (seen : Journal) → Reads r seen → AreRight language did.0 seen did.1

abbrev with_deeds : Instance → List Deed → Core
with_deeds i deeds = record (core_of i) { deeds = deeds }

module _ (language : Language) where
  abbrev adding : IsStepped language Adds
  adding = all_add language

  tells_then : (r : Runtime) (did : Did) (next : Runtime → Did) → Tells language r did → Tells language did.0 (next did.0) → Tells language r (and_then did next)
  tells_then r did next h g = record {
    adds = adds_then r did next h.adds g.adds;
    stay = stay_then r.instances did.0.instances (next did.0).0.instances h.stay g.stay;
    right = λ seen reads. rights_join language (next did.0).0 seen did.1 (next did.0).1
        (rights_later language did.0 (next did.0).0 g.stay seen did.1 (h.right seen reads))
        (g.right (seen ++ did.1) (reads_on r did seen reads h.adds));
  }

  tells_quiet : (r s : Runtime) → s.instances ≡ r.instances → s.bags ≡ r.bags → Tells language r (s, [])
  tells_quiet r s e f = record { adds = adding.quiet r s e f; stay = stay_same r.instances s.instances e; right = λ seen reads. tt }

  -- Runs.

  run_is : (k : ℕ) (i : Instance) (spot : ℕ) (h : Handler) (arguments : List (Option Slots)) (at : FaultPlace) (r : Runtime) → numbered r.instances k ≡ Some i → slice_get i.handlers spot ≡ Some h → TakesNothing at arguments
      → (seen : Journal) → Reads r seen → IsRunOf language r seen i.number spot i.name at (run_deed language h.deed (scope_of language r i) arguments (bag_of r i.name))
  run_is k i spot h arguments at r e g takes seen reads =
      let number : i.number ≡ k = number_found r.instances k i e in
      let own : i.values ≡ values_left seen i.number = sym (ap values_in e) ∙ reads.values k ∙ ap (values_left seen) (sym number) in
      record {
        instance = i;
        made = (found_in (λ j. j.number == k) r.instances i e).0;
        number = refl;
        name = refl;
        handler = h;
        stands = g;
        arguments = arguments;
        takes = takes;
        value = ap (λ values. run_deed language h.deed (values ++ imported_slots language r.instances i.links i.name i.text) arguments (bag_of r i.name)) own
            ∙ ap (λ slots. run_deed language h.deed (values_left seen i.number ++ slots) arguments (bag_of r i.name)) (imported_are r seen reads (language.bindings i.name i.text) i.links)
            ∙ ap (λ bag. run_deed language h.deed (values_left seen i.number ++ imports_left language seen i) arguments bag) (reads.bags i.name);
      }

  tells_run : (at : FaultPlace) (k : ℕ) (i : Instance) (spot : ℕ) (h : Handler) (arguments : List (Option Slots)) (r : Runtime) → numbered r.instances k ≡ Some i → slice_get i.handlers spot ≡ Some h → TakesNothing at arguments
      → Tells language r (did_run at i spot h (run_deed language h.deed (scope_of language r i) arguments (bag_of r i.name)) r)
  tells_run at k i spot h arguments r e g takes =
      let left : Ran = run_deed language h.deed (scope_of language r i) arguments (bag_of r i.name) in
      let did : Did = did_run at i spot h left r in
      let stay : Stay r.instances did.0.instances = stay_change (after_run spot h.kind left) (λ j. ap (with_deeds j) (deeds_ended spot (end_after h.kind) j.handlers)) (λ j z. ap (λ values. fold assigned values left.changes) z ∙ none_assigned left.changes) i.number r.instances in
      record {
        adds = adding.run at k i spot h arguments r e g takes;
        stay = stay;
        right = λ seen reads. (run_later language r did.0 stay seen i.number i.name spot at left (run_is k i spot h arguments at r e g takes seen reads), tt);
      }

  -- Handlers and fates.

  idle_rights : IsJoined (λ journal. (r : Runtime) (seen : Journal) → AreRight language r seen journal)
  idle_rights = record {
    none = λ r seen. tt;
    join = λ a b h g r seen. rights_join language r seen a b (h r seen) (g r (seen ++ a));
    drop = λ k spot r seen. (tt, tt);
    register = λ k h r seen. (tt, tt);
    unhosted = λ k m label r seen. (tt, tt);
  }

  abbrev Silent : Journal → Type 0
  Silent journal = (r : Runtime) (seen : Journal) → AreRight language r seen journal

  tells_drop : (test : Handler → Bool) (k : ℕ) (r : Runtime) → Tells language r (drop_each test k r)
  tells_drop test k r = record {
    adds = adding.drop test k r;
    stay = stay_change (λ i. record i { handlers = with_dropped test i.handlers }) (λ i. ap (with_deeds i) (deeds_dropped test i.handlers)) (λ i z. z) k r.instances;
    right = λ seen reads. drops_join Silent idle_rights k (places_of test (numbered r.instances k)) (drop_each test k r).0 seen;
  }

  tells_end : (fate : InstanceFate) (k : ℕ) (m : Name) (r : Runtime) → Tells language r (end_instance fate k m r)
  tells_end fate k m r = record { adds = adding.end fate k m r; stay = stay_change (λ i. record i { fate = fate }) (λ i. refl) (λ i z. z) k r.instances; right = λ seen reads. (tt, tt) }

  -- New instances.

  -- the journal so far, with the new instance
  reads_made : (r : Runtime) (seen : Journal) (i : Instance) → Reads r seen → Reads r (seen ++ made i ∷ [])
  reads_made r seen i reads = reads_on r (r, made i ∷ []) seen reads (record { values = λ k. refl; failures = λ k. or_false (is_failed (numbered r.instances k)); times = λ k. plus_none (times_in (numbered r.instances k)); bags = λ n. refl })

  tells_unrun : (b : Birth) (r : Runtime) → Adds r (make_unrun b r) → has_failed_link r.instances b.links ≡ true → Tells language r (make_unrun b r)
  tells_unrun b r adds failed =
      let i : Instance = born b Unrun [] [] in
      record {
        adds = adds;
        stay = stay_more i r.instances;
        right = λ seen reads. (
          tt,
          (
            record { instance = i; made = head_in i r.instances; number = refl; name = refl; status = refl; links = sym (links_are r (seen ++ made i ∷ []) (reads_made r seen i reads) b.links) ∙ failed; empty = refl },
            tt,
          ),
        );
      }

  evaluation_is : (b : Birth) (handlers : List Handler) (r s : Runtime) → has_failed_link r.instances b.links ≡ false → (seen : Journal) → Reads r seen → Contains s.instances (born b (status_after (evaluate language b r).fault) (evaluate language b r).vars handlers)
      → IsEvaluationOf language s seen b.number b.name (evaluate language b r)
  evaluation_is b handlers r s sound seen reads c =
      let i : Instance = born b (status_after (evaluate language b r).fault) (evaluate language b r).vars handlers in
      record {
        instance = i;
        made = c;
        number = refl;
        name = refl;
        status = refl;
        links = sym (links_are r seen reads b.links) ∙ sound;
        value = ap (λ slots. language.evaluated b.name b.text slots (bag_of r b.name)) (imported_are r seen reads (language.bindings b.name b.text) b.links)
            ∙ ap (λ bag. language.evaluated b.name b.text (imports_left language seen i) bag) (reads.bags b.name);
      }

  tells_evaluated : (b : Birth) (r : Runtime) → Adds r (make_run language b r) → has_failed_link r.instances b.links ≡ false → Tells language r (make_run language b r)
  tells_evaluated b r adds sound =
      let e : Evaluated = evaluate language b r in
      let g : Registry = register_in b e r in
      let i : Instance = born b (status_after e.fault) e.vars g.handlers in
      let s : Runtime = (make_run language b r).0 in
      record {
        adds = adds;
        stay = stay_more i r.instances;
        right = λ seen reads. (
          tt,
          (
            evaluation_is b g.handlers r s sound (seen ++ made i ∷ []) (reads_made r seen i reads) (head_in i r.instances),
            registry_joins Silent idle_rights b e r s ((seen ++ made i ∷ []) ++ evaluated b.number b.name (bag_of r b.name) e ∷ []),
          ),
        );
      }

  tells_make : (b : Birth) (r : Runtime) → numbered r.instances b.number ≡ None → Tells language r (make language b r)
  tells_make b r new = by (has_failed_link r.instances b.links) refl (adding.made b r new)
    where
      by : (c : Bool) → has_failed_link r.instances b.links ≡ c → Adds r (if c then make_unrun b r else make_run language b r) → Tells language r (if c then make_unrun b r else make_run language b r)
      by true failed adds = tells_unrun b r adds failed
      by false sound adds = tells_evaluated b r adds sound

  all_tell : IsStepped language (Tells language)
  all_tell = record {
    quiet = tells_quiet;
    after = tells_then;
    run = tells_run;
    drop = tells_drop;
    end = tells_end;
    give_up = λ m r. record { adds = adding.give_up m r; stay = stay_same r.instances r.instances refl; right = λ seen reads. (tt, tt) };
    give_up_all = λ r. record { adds = adding.give_up_all r; stay = stay_same r.instances r.instances refl; right = λ seen reads. (tt, tt) };
    made = tells_make;
    wrote = λ l r. record { adds = adding.wrote l r; stay = stay_same r.instances r.instances refl; right = λ seen reads. (tt, tt) };
  }

  -- Messages.

  module _ (opening : Opening) where
    right_run : (past : Past) → AreRight language (runtime_after language opening past) [] (journal_of language opening past)
    right_run [] = tt
    right_run (came ∷ past) =
        let r : Runtime = runtime_after language opening past in
        let told : Tells language r (met language came r) = steps_met language (Tells language) all_tell r came (numbered_run language opening past) in
        rights_join language (met language came r).0 [] (journal_of language opening past) (met language came r).1
        (rights_later language r (met language came r).0 told.stay [] (journal_of language opening past) (right_run past))
        (told.right (journal_of language opening past) (reads_run language opening past))

    pub evaluations_run : (past : Past) (front back : Journal) (k : ℕ) (n : Name) (before : Bag) (e : Evaluated) → journal_of language opening past ≡ front ++ evaluated k n before e ∷ back → IsEvaluationOf language (runtime_after language opening past) front k n e
    evaluations_run past front back k n before e split = right_at language (runtime_after language opening past) [] front (evaluated k n before e) back (subst (AreRight language (runtime_after language opening past) []) split (right_run past))

    pub unrun_run : (past : Past) (front back : Journal) (k : ℕ) (n : Name) → journal_of language opening past ≡ front ++ not_run k n ∷ back → IsUnrun (runtime_after language opening past) front k n
    unrun_run past front back k n split = unset_so (runtime_after language opening past) front k n (right_at language (runtime_after language opening past) [] front (not_run k n) back (subst (AreRight language (runtime_after language opening past) []) split (right_run past)))

    pub runs_run : (past : Past) (front back : Journal) (k spot : ℕ) (n : Name) (at : FaultPlace) (before : Bag) (left : Ran) → journal_of language opening past ≡ front ++ ran k spot n at before left ∷ back → IsRunOf language (runtime_after language opening past) front k spot n at left
    runs_run past front back k spot n at before left split = right_at language (runtime_after language opening past) [] front (ran k spot n at before left) back (subst (AreRight language (runtime_after language opening past) []) split (right_run past))
