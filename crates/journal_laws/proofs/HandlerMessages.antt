-- What is kept through each step of an instance's life holds of every instance after all that comes to a client.
use Rattle.std.proofs.Common.{◌≡◌, ap, ℕ, Bool, true, false, List, [], ◌∷◌, refl, sym, Contains}
use Rattle.std.specs.Prelude.{option_map, reverse, ◌==◌}
use Rattle.std.proofs.Math.Path.{subst}
use Rattle.core_model.specs.Names.{Name, has}
use Rattle.core_model.specs.Page.{Plan}
use Rattle.client_model.specs.Language.{Language}
use Rattle.client_model.specs.Instance.{Instance, Handler, accepts_dep}
use Rattle.client_model.specs.Running.{run_each}
use Rattle.client_model.specs.Firing.{event_arguments, hear_event}
use Rattle.hmr_types.specs.declared.value.Value.{Value}
use Rattle.output_lines.specs.declared.words.FaultPlace.TheVariants as place
use Rattle.std.proofs.lemmas.Bool.{eqb-true}
use Rattle.client_model.specs.Journal.{Journal}
use Rattle.client_model.specs.Runtime.{Runtime, Opening, Did, for_each}
use Rattle.client_model.specs.Applying.{apply, live_of, finish, prune_instance, leave_page, prune}
use Rattle.client_model.specs.Past.{Past, met, runtime_after, journal_of}
use Rattle.client_model.proofs.Acts.{before_finish}
use Rattle.client_model.proofs.Takes.{AreLines, IsTaken, lines_by, met_does}
use Rattle.world_laws.proofs.Holding.{HoldsOf}
use Rattle.world_laws.proofs.Messages.{run_holds}
use Rattle.journal_laws.proofs.HandlerShapes.{Shape, shape, Word, seen, words, words_then, Quiet, At, Takes, takes_then, takes_each, quiet_takes, does_takes}
use Rattle.journal_laws.proofs.HandlerActs.{run_shape, run_words, runs_are, runs_elsewhere}
use Rattle.journal_laws.proofs.HandlerLives.{IsLife}
use Rattle.journal_laws.proofs.HandlerPlans.{plan_lives, prune_lives}
use Rattle.journal_laws.proofs.Numbers.{apart_numbered, there}

module _ (Young : List Handler → List Word → Type 0) (Whole Aside : Shape → List Word → Type 0) (life : IsLife Young Whole Aside) (language : Language) (k : ℕ) where
  abbrev Lives : Runtime → Did → Type 0
  Lives r did = Takes k (At Whole) (At Whole) r did

  quietly : (r : Runtime) (did : Did) → Quiet k r did → Lives r did
  quietly r did q = quiet_takes k (At Whole) r did q

  no_words : (journal : Journal) → AreLines journal → words k journal ≡ []
  no_words journal lines = lines_by (λ told. words k told ≡ []) refl (λ l told none. none) journal lines

  apply_lives : (p : Plan) (r : Runtime) → HoldsOf r → Lives r (apply language p r)
  apply_lives p r h = takes_then k (At Whole) (At Whole) (At Whole) r (before_finish language p r) (finish p) (plan_lives language k r h p Young Whole Aside life) (λ s. quietly s (finish p s) (record { shapes = refl; words = refl }))

  prune_all : (names : List Name) (r : Runtime) → HoldsOf r → Lives r (prune language names r)
  prune_all names r h = takes_then k (At Whole) (At Whole) (At Whole) r (for_each (prune_instance language) (live_of (has names) r) r) (leave_page names) (prune_lives language names k r h Young Whole Aside life) (λ s. quietly s (leave_page names s) (record { shapes = refl; words = refl }))

  -- its callbacks that list the event are run, or those of another
  hears : (event : Name) (value : Value) (i : Instance) (s : Runtime) → Lives s (hear_event language event value i s)
  hears event value i s = by (i.number == k) refl
    where
      by : (b : Bool) → (i.number == k) ≡ b → Lives s (hear_event language event value i s)
      by true e = subst (λ j. Lives s (run_each language place.Dep (event_arguments event value) (accepts_dep event) j s)) (sym (eqb-true i.number k e))
          (does_takes k Whole Whole (run_shape (accepts_dep event)) (run_words place.Dep (accepts_dep event)) s (run_each language place.Dep (event_arguments event value) (accepts_dep event) k s) (runs_are language place.Dep (event_arguments event value) k (accepts_dep event) s) (life.dep event))
      by false e = quietly s (hear_event language event value i s) (runs_elsewhere language place.Dep (event_arguments event value) k (accepts_dep event) i.number e s)

  lives_taken : IsTaken language (λ r did. HoldsOf r → Lives r did)
  lives_taken = record {
    quiet = λ r did q h. quietly r did (record { shapes = ap (λ is. seen is k) q.instances; words = no_words did.1 q.lines });
    prunes = λ names r none loaded h. prune_all names r h;
    applies = λ p r e due counted h. apply_lives p r h;
    hears = λ event value r loaded idle h. takes_each k (At Whole) (hear_event language event value) (hears event value) (reverse (live_of (λ n. true) r)) r;
  }

  pub run_lives : (opening : Opening) (past : Past) → At Whole (seen (runtime_after language opening past).instances k) (words k (journal_of language opening past))
  run_lives opening [] = refl
  run_lives opening (came ∷ past) = subst (At Whole (seen (runtime_after language opening (came ∷ past)).instances k)) (sym (words_then k (journal_of language opening past) (met language came (runtime_after language opening past)).1))
      (met_does language (λ r did. HoldsOf r → Lives r did) lives_taken (runtime_after language opening past) came (run_holds language opening past) (words k (journal_of language opening past)) (run_lives opening past))

-- what holds at each instance's number
pub of_each : (Young : List Handler → List Word → Type 0) (Whole Aside : Shape → List Word → Type 0) → IsLife Young Whole Aside → (language : Language) (opening : Opening) (past : Past) (i : Instance) → Contains (runtime_after language opening past).instances i → Whole (shape i) (words i.number (journal_of language opening past))
of_each Young Whole Aside life language opening past i c =
    let r : Runtime = runtime_after language opening past in
    subst (λ o. At Whole (option_map shape o) (words i.number (journal_of language opening past))) (there r.instances (apart_numbered r.instances (run_holds language opening past).numbered) i c) (run_lives Young Whole Aside life language i.number opening past)
