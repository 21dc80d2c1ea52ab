-- An event that is heard runs each listener of the live instances once.
use Rattle.std.proofs.Common.{◌≡◌, ℕ, Bool, true, false, List, [], ◌∷◌, ◌++◌, refl, sym, ap, ◌∙◌}
use Rattle.std.specs.Prelude.{◌==◌, ◌&&◌, ◌||◌, cond, filter, flat_map, map, not, reverse, Option, Some, None, is_some, option_map, if◌then◌else◌}
use Rattle.std.proofs.Math.Path.{subst}
use Rattle.std.proofs.lemmas.Bool.{false≢true, eqb-true}
use Rattle.std.proofs.lemmas.Grind.{flat_map-append, reverse_onto}
use Rattle.std.proofs.lemmas.List.{append_assoc}
use Rattle.hmr_types.specs.declared.value.Value.{Value}
use Rattle.output_lines.specs.declared.out_line.OutLine.{OutLine}
use Rattle.output_lines.specs.declared.words.FaultPlace.{FaultPlace}
use Rattle.output_lines.specs.declared.words.FaultPlace.TheVariants as place
use Rattle.core_model.specs.Names.{Name}
use Rattle.client_model.specs.Firing.{busy, did_hear, event_arguments, fire, hear_all, hear_event, is_stopped, unheard}
use Rattle.client_model.specs.Instance.{Instance, accepts_dep, is_live, numbered, places_from}
use Rattle.client_model.specs.Journal.{Happening, Journal, made, evaluated, not_run, registered, no_host, ran, dropped, ended, gave_up, gave_up_all, told}
use Rattle.client_model.specs.Language.{Language}
use Rattle.client_model.specs.Running.{run_each}
use Rattle.client_model.specs.Runtime.{Runtime, Did, and_then, for_each}
use Rattle.world_model.specs.Turning.{lines_heard}
use Rattle.journal_laws.proofs.HandlerActs.{run_words, runs_are, runs_elsewhere}
use Rattle.journal_laws.proofs.HandlerLists.{apart_filtered, each_none, each_one, keep_if, numbered_filtered}
use Rattle.journal_laws.proofs.HandlerShapes.{Shape, shape, Word, gained, used, lost, fell, word_of, words, words_of, Quiet, quiet_then, Takes, takes_then, quiet_takes}
use Rattle.journal_laws.proofs.Numbers.{Apart, number_found}
use Rattle.event_runs.specs.Listening.{ListenersRan, listeners_of, run_to, runs_in}

-- What is told of an instance has the places of its runs.

abbrev place_in : Word → List ℕ
place_in (gained h) = []
place_in (used spot n at) = spot ∷ []
place_in (lost spot) = []
place_in (fell fate) = []

module _ (k : ℕ) where
  unused : (b : Bool) (w : Word) → place_in w ≡ [] → flat_map place_in (if b then w ∷ [] else []) ≡ []
  unused true w e = ap (λ l. l ++ []) e
  unused false w e = refl

  used_by : (b : Bool) (spot : ℕ) (n : Name) (at : FaultPlace) → (if b then spot ∷ [] else []) ≡ flat_map place_in (if b then used spot n at ∷ [] else [])
  used_by true spot n at = refl
  used_by false spot n at = refl

  one_run : (t : Happening) → run_to k t ≡ flat_map place_in (word_of k t)
  one_run (made i) = refl
  one_run (evaluated j n bag e) = refl
  one_run (not_run j n) = refl
  one_run (registered j h) = sym (unused (j == k) (gained h) refl)
  one_run (no_host j n label) = refl
  one_run (ran j spot n at bag left) = used_by (j == k) spot n at
  one_run (dropped j spot) = sym (unused (j == k) (lost spot) refl)
  one_run (ended j n fate) = sym (unused (j == k) (fell fate) refl)
  one_run (gave_up n) = refl
  one_run gave_up_all = refl
  one_run (told l) = refl

  all_runs : (journal : Journal) → runs_in journal k ≡ flat_map place_in (words k journal)
  all_runs [] = refl
  all_runs (t ∷ journal) =
      ap (λ l. l ++ runs_in journal k) (one_run t) ∙ ap (λ l. flat_map place_in (word_of k t) ++ l) (all_runs journal)
      ∙ sym (flat_map-append place_in (word_of k t) (words k journal))

places_used : (n : Name) (at : FaultPlace) (spots : List ℕ) → flat_map place_in (map (λ spot. used spot n at) spots) ≡ spots
places_used n at [] = refl
places_used n at (spot ∷ spots) = ap (λ l. spot ∷ l) (places_used n at spots)

-- Acts on each of a list, from its end.

each_more : (act : Instance → Runtime → Did) (xs ys : List Instance) (r : Runtime) → for_each act (xs ++ ys) r ≡ and_then (for_each act xs r) (for_each act ys)
each_more act [] ys r = refl
each_more act (x ∷ xs) ys r =
    let did : Did = act x r in
    let rest : Did = for_each act xs did.0 in
    let last : Did = for_each act ys rest.0 in
    ap (λ (m : Did). and_then did (λ s. m)) (each_more act xs ys did.0)
    ∙ ap (λ t. (last.0, t)) (sym (append_assoc did.1 rest.1 last.1))

module _ (k : ℕ) (act : Instance → Runtime → Did) (quiet : (i : Instance) (s : Runtime) → (i.number == k) ≡ false → Quiet k s (act i s)) where
  back : (j : Instance) (is : List Instance) (s : Runtime) → for_each act (reverse (j ∷ is)) s ≡ and_then (for_each act (reverse is) s) (for_each act (j ∷ []))
  back j is s = ap (λ l. for_each act l s) (reverse_onto is j []) ∙ each_more act (reverse is) (j ∷ []) s

  other_quiet : (j : Instance) → (j.number == k) ≡ false → (s : Runtime) → Quiet k s (for_each act (j ∷ []) s)
  other_quiet j f = each_none k act quiet (j ∷ []) (ap (λ b. cond b (Some j) None) f)

  none_back : (is : List Instance) → numbered is k ≡ None → (s : Runtime) → Quiet k s (for_each act (reverse is) s)
  none_back [] e s = record { shapes = refl; words = refl }
  none_back (j ∷ is) e s = by (j.number == k) refl (none_back is) e
    where
      by : (b : Bool) → (j.number == k) ≡ b → (numbered is k ≡ None → (t : Runtime) → Quiet k t (for_each act (reverse is) t)) → cond b (Some j) (numbered is k) ≡ None → Quiet k s (for_each act (reverse (j ∷ is)) s)
      by true f rest e = absurd (false≢true (sym (ap is_some e)))
      by false f rest e = subst (Quiet k s) (sym (back j is s))
          (quiet_then k s (for_each act (reverse is) s) (for_each act (j ∷ [])) (rest e s) (other_quiet j f))

  one_back : (A B : Option Shape → List Word → Type 0) (is : List Instance) → Apart is → (i : Instance) → numbered is k ≡ Some i → ((s : Runtime) → Takes k A B s (act i s)) → (s : Runtime) → Takes k A B s (for_each act (reverse is) s)
  one_back A B [] a i e here s = absurd (false≢true (ap is_some e))
  one_back A B (j ∷ is) a i e here s = by (j.number == k) refl (λ f. one_back A B is a.1 i f here) e
    where
      by : (b : Bool) → (j.number == k) ≡ b → (numbered is k ≡ Some i → (t : Runtime) → Takes k A B t (for_each act (reverse is) t)) → cond b (Some j) (numbered is k) ≡ Some i → Takes k A B s (for_each act (reverse (j ∷ is)) s)
      by true f rest e = subst (Takes k A B s) (sym (back j is s))
          (takes_then k A A B s (for_each act (reverse is) s) (for_each act (j ∷ []))
          (quiet_takes k A s (for_each act (reverse is) s) (none_back is (ap (numbered is) (sym (eqb-true j.number k f)) ∙ a.0) s))
          (each_one k act quiet A B (j ∷ []) (refl, tt) i (ap (λ b. cond b (Some j) None) f ∙ e) here))
      by false f rest e = subst (Takes k A B s) (sym (back j is s))
          (takes_then k A B B s (for_each act (reverse is) s) (for_each act (j ∷ [])) (rest e s)
          (λ t. quiet_takes k B t (for_each act (j ∷ []) t) (other_quiet j f t)))

-- The listeners.

and_true : (b : Bool) → (b && true) ≡ b
and_true true = refl
and_true false = refl

module _ (language : Language) (event : Name) (value : Value) (r : Runtime) (apart : Apart r.instances) (k : ℕ) where
  abbrev act : Instance → Runtime → Did
  act i s = hear_event language event value i s

  abbrev lives : Instance → Bool
  lives i = is_live i && true

  abbrev told_of : Instance → List Word
  told_of i = run_words place.Dep (accepts_dep event) (shape i)

  quiet : (i : Instance) (s : Runtime) → (i.number == k) ≡ false → Quiet k s (act i s)
  quiet i s other = runs_elsewhere language place.Dep (event_arguments event value) k (accepts_dep event) i.number other s

  -- nothing was told of it before
  abbrev Before : Instance → Option Shape → List Word → Type 0
  Before i o ws = (o ≡ Some (shape i)) × (ws ≡ [])

  abbrev After : Instance → Option Shape → List Word → Type 0
  After i o ws = ws ≡ told_of i

  here : (i : Instance) → i.number ≡ k → (s : Runtime) → Takes k (Before i) (After i) s (act i s)
  here i same s = λ ws a.
      ap (λ us. us ++ words k (act i s).1) a.1
      ∙ ap (λ j. words k (run_each language place.Dep (event_arguments event value) (accepts_dep event) j s).1) same
      ∙ (runs_are language place.Dep (event_arguments event value) k (accepts_dep event) s).words
      ∙ ap (words_of (run_words place.Dep (accepts_dep event))) a.0

  abbrev said : List Word
  said = words k (hear_all language event value r).1

  none_said : numbered (filter lives r.instances) k ≡ None → said ≡ []
  none_said e = (none_back k act quiet (filter lives r.instances) e r).words

  some_said : (i : Instance) → numbered r.instances k ≡ Some i → numbered (filter lives r.instances) k ≡ Some i → said ≡ told_of i
  some_said i e f = one_back k act quiet (Before i) (After i) (filter lives r.instances) (apart_filtered lives r.instances apart) i f
      (here i (number_found r.instances k i e)) r [] (ap (option_map shape) e, refl)

  live_by : (i : Instance) (b : Bool) → is_live i ≡ b → numbered r.instances k ≡ Some i → numbered (filter lives r.instances) k ≡ (if b && true then Some i else None)
      → flat_map place_in said ≡ (if b then places_from 0 (accepts_dep event) i.handlers else [])
  live_by i true l e f = ap (flat_map place_in) (some_said i e f) ∙ places_used i.name place.Dep (places_from 0 (accepts_dep event) i.handlers)
  live_by i false l e f = ap (flat_map place_in) (none_said f)

  ran_by : (o : Option Instance) → numbered r.instances k ≡ o → numbered (filter lives r.instances) k ≡ keep_if lives o → flat_map place_in said ≡ listeners_of event o
  ran_by None e f = ap (flat_map place_in) (none_said f)
  ran_by (Some i) e f = live_by i (is_live i) refl e f

  one_ran : runs_in (hear_all language event value r).1 k ≡ listeners_of event (numbered r.instances k)
  one_ran = all_runs k (hear_all language event value r).1 ∙ ran_by (numbered r.instances k) refl (numbered_filtered lives r.instances apart k)

-- of an event that is heard
heard_all : (stopped unfit : Bool) (r : Runtime) (did : Did) (lines : List OutLine)
    → lines_heard (if stopped then unheard is_stopped r else (if unfit then unheard busy r else did_hear did)).answer ≡ Some lines
    → (if stopped then unheard is_stopped r else (if unfit then unheard busy r else did_hear did)).journal ≡ did.1
heard_all true unfit r did lines e = absurd (false≢true (ap is_some e))
heard_all false true r did lines e = absurd (false≢true (ap is_some e))
heard_all false false r did lines e = refl

pub listeners_ran : (language : Language) (event : Name) (value : Value) (r : Runtime) (lines : List OutLine) → Apart r.instances → lines_heard (fire language event value r).answer ≡ Some lines
    → ListenersRan event r.instances (fire language event value r).journal
listeners_ran language event value r lines apart e k =
    ap (λ journal. runs_in journal k) (heard_all r.stopped (not r.page.loaded || is_some r.page.plan) r (hear_all language event value r) lines e)
    ∙ one_ran language event value r apart k
