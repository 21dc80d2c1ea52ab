-- What the runs and drops of handlers do to the instance of one number, exactly, and what is told of it:
-- each handler that passes the test is run once at its place, or dropped once. Its fate falls once.
use Rattle.std.proofs.Common.{◌≡◌, ℕ, suc, Bool, true, false, List, [], ◌∷◌, ◌++◌, length, refl, ap, sym, ◌∙◌, arith}
use Rattle.std.specs.Prelude.{map, ◌==◌, Option, Some, None, is_some, option_map, slice_get, if◌then◌else◌}
use Rattle.std.proofs.Math.Path.{subst}
use Rattle.std.proofs.lemmas.Bool.{false≢true, eq-eqb}
use Rattle.std.proofs.lemmas.List.{append_assoc, length-append}
use Rattle.std.proofs.lemmas.Option.{same_Some}
use Rattle.output_lines.specs.declared.words.FaultPlace.{FaultPlace}
use Rattle.output_lines.specs.declared.words.InstanceFate.{InstanceFate}
use Rattle.output_lines.specs.declared.words.HandlerEnd.{HandlerEnd}
use Rattle.core_model.specs.Names.{Name}
use Rattle.client_model.specs.Language.{Language, Slots, Ran}
use Rattle.client_model.specs.Instance.{Instance, Handler, numbered, with_change, ended_as, with_end, with_dropped, places_from, places_of}
use Rattle.client_model.specs.Journal.{dropped}
use Rattle.client_model.specs.Runtime.{Runtime, Did, for_each, bag_of}
use Rattle.client_model.specs.Running.{scope_of, run_deed, end_after, after_run, did_run, run_handler, run_of, run_each, drop_each, end_instance, give_up_bag}
use Rattle.journal_laws.proofs.HandlerShapes.{Shape, shape, seen, Word, used, lost, fell, words, words_of, itself, seen_here, seen_elsewhere, Quiet, Does, Leaves, Becomes, words_then, quiet_each}
use Rattle.journal_laws.proofs.Numbers.{number_found}

-- the handlers, those that pass the test run
abbrev pub run_in : (Handler → Bool) → List Handler → List Handler
run_in test hs = map (λ h. if test h then ended_as (end_after h.kind) h else h) hs

abbrev pub run_shape : (Handler → Bool) → Shape → Shape
run_shape test x = record x { handlers = run_in test x.handlers }

abbrev pub run_words : FaultPlace → (Handler → Bool) → Shape → List Word
run_words at test x = map (λ spot. used spot x.name at) (places_from 0 test x.handlers)

abbrev pub drop_shape : (Handler → Bool) → Shape → Shape
drop_shape test x = record x { handlers = with_dropped test x.handlers }

abbrev pub drop_words : (Handler → Bool) → Shape → List Word
drop_words test x = map lost (places_from 0 test x.handlers)

abbrev pub end_shape : InstanceFate → Shape → Shape
end_shape fate x = record x { fate = fate }

-- Places.

got_at : (before : List Handler) (h : Handler) (after : List Handler) → slice_get (before ++ h ∷ after) (length before) ≡ Some h
got_at [] h after = refl
got_at (b ∷ before) h after = got_at before h after

ended_at : (end : HandlerEnd) (before : List Handler) (h : Handler) (after : List Handler) → with_end (length before) end (before ++ h ∷ after) ≡ before ++ ended_as end h ∷ after
ended_at end [] h after = refl
ended_at end (b ∷ before) h after = ap (λ hs. b ∷ hs) (ended_at end before h after)

-- Runs.

module _ (language : Language) (at : FaultPlace) (arguments : Runtime → Handler → List (Option Slots)) (k : ℕ) where
  abbrev ran_at : ℕ → Handler → Shape → Shape
  ran_at spot h x = record x { handlers = with_end spot (end_after h.kind) x.handlers }

  run_here : (i : Instance) (spot : ℕ) (h : Handler) (left : Ran) (s : Runtime) → i.number ≡ k → numbered s.instances k ≡ Some i → Leaves k (ran_at spot h (shape i)) (used spot i.name at ∷ []) (did_run at i spot h left s)
  run_here i spot h left s same e = record {
    shapes = subst (λ m. seen (with_change m (after_run spot h.kind left) s.instances) k ≡ Some (ran_at spot h (shape i))) (sym same)
        (seen_here (after_run spot h.kind left) (λ j. refl) k (ran_at spot h) (λ j. refl) s.instances
        ∙ ap (λ o. option_map (ran_at spot h) (option_map shape o)) e);
    words = ap (λ b. (if b then used spot i.name at ∷ [] else []) ++ []) (eq-eqb i.number k same);
  }

  ran_of : (spot : ℕ) (x : Shape) (h : Handler) (s : Runtime) (o : Option Instance) → numbered s.instances k ≡ o → option_map shape o ≡ Some x → slice_get x.handlers spot ≡ Some h → Leaves k (ran_at spot h x) (used spot x.name at ∷ []) (run_of language at arguments o spot s)
  ran_of spot x h s None e f g = absurd (false≢true (ap is_some f))
  ran_of spot x h s (Some i) e f g = by (same_Some (shape i) x f)
    where
      by : shape i ≡ x → Leaves k (ran_at spot h x) (used spot x.name at ∷ []) (run_handler language at arguments i spot (slice_get i.handlers spot) s)
      by same =
          let got : slice_get i.handlers spot ≡ Some h = ap (λ (z : Shape). slice_get z.handlers spot) same ∙ g in
          subst (λ z. Leaves k (ran_at spot h z) (used spot z.name at ∷ []) (run_handler language at arguments i spot (slice_get i.handlers spot) s)) same
          (subst (λ o. Leaves k (ran_at spot h (shape i)) (used spot i.name at ∷ []) (run_handler language at arguments i spot o s)) (sym got)
          (run_here i spot h (run_deed language h.deed (scope_of language s i) (arguments s h) (bag_of s i.name)) s (number_found s.instances k i e) e))

  abbrev run_at : ℕ → Runtime → Did
  run_at spot s = run_of language at arguments (numbered s.instances k) spot s

  abbrev with_handlers : Name → InstanceFate → List Handler → Shape
  with_handlers n fate hs = record { name = n; fate = fate; handlers = hs }

  -- the rest of the handlers, once one more is done with
  abbrev Later : (Handler → Bool) → Name → InstanceFate → List Handler → List Handler → ℕ → Type 0
  Later test n fate before rest spot = (h : Handler) (t : Runtime) → seen t.instances k ≡ Some (with_handlers n fate (before ++ h ∷ rest)) → Leaves k (with_handlers n fate ((before ++ h ∷ []) ++ run_in test rest)) (map (λ p. used p n at) (places_from (suc spot) test rest)) (for_each run_at (places_from (suc spot) test rest) t)

  -- those before a place are done with
  ran_rest : (test : Handler → Bool) (n : Name) (fate : InstanceFate) (before rest : List Handler) (spot : ℕ) (s : Runtime) → length before ≡ spot → seen s.instances k ≡ Some (with_handlers n fate (before ++ rest))
      → Leaves k (with_handlers n fate (before ++ run_in test rest)) (map (λ p. used p n at) (places_from spot test rest)) (for_each run_at (places_from spot test rest) s)
  ran_rest test n fate before [] spot s l e = record { shapes = e; words = refl }
  ran_rest test n fate before (h ∷ rest) spot s l e = by (test h)
      (λ h' t f. ran_rest test n fate (before ++ h' ∷ []) rest (suc spot) t (omega (arith, l, length-append before (h' ∷ []))) (f ∙ ap (λ hs. Some (with_handlers n fate hs)) (sym (append_assoc before (h' ∷ []) rest))))
    where
      regroup : (h' : Handler) → Some (with_handlers n fate ((before ++ h' ∷ []) ++ run_in test rest)) ≡ Some (with_handlers n fate (before ++ h' ∷ run_in test rest))
      regroup h' = ap (λ hs. Some (with_handlers n fate hs)) (append_assoc before (h' ∷ []) (run_in test rest))

      one : Leaves k (ran_at spot h (with_handlers n fate (before ++ h ∷ rest))) (used spot n at ∷ []) (run_at spot s)
      one = ran_of spot (with_handlers n fate (before ++ h ∷ rest)) h s (numbered s.instances k) refl e (ap (slice_get (before ++ h ∷ rest)) (sym l) ∙ got_at before h rest)

      one_ended : seen (run_at spot s).0.instances k ≡ Some (with_handlers n fate (before ++ ended_as (end_after h.kind) h ∷ rest))
      one_ended = one.shapes ∙ ap (λ p. Some (with_handlers n fate (with_end p (end_after h.kind) (before ++ h ∷ rest)))) (sym l) ∙ ap (λ hs. Some (with_handlers n fate hs)) (ended_at (end_after h.kind) before h rest)

      by : (b : Bool) → Later test n fate before rest spot → Leaves k (with_handlers n fate (before ++ (if b then ended_as (end_after h.kind) h else h) ∷ run_in test rest)) (map (λ p. used p n at) (if b then spot ∷ places_from (suc spot) test rest else places_from (suc spot) test rest)) (for_each run_at (if b then spot ∷ places_from (suc spot) test rest else places_from (suc spot) test rest) s)
      by true later =
          let next = later (ended_as (end_after h.kind) h) (run_at spot s).0 one_ended in
          record {
            shapes = next.shapes ∙ regroup (ended_as (end_after h.kind) h);
            words = words_then k (run_at spot s).1 (for_each run_at (places_from (suc spot) test rest) (run_at spot s).0).1 ∙ ap (λ ws. ws ++ words k (for_each run_at (places_from (suc spot) test rest) (run_at spot s).0).1) one.words ∙ ap (λ ws. used spot n at ∷ ws) next.words;
          }
      by false later = let next = later h s e in record { shapes = next.shapes ∙ regroup h; words = next.words }

  run_does : (test : Handler → Bool) (r : Runtime) → Does k (run_shape test) (run_words at test) r (run_each language at arguments test k r)
  run_does test r = by (numbered r.instances k) refl
    where
      by : (o : Option Instance) → numbered r.instances k ≡ o → Does k (run_shape test) (run_words at test) r (for_each run_at (places_of test o) r)
      by None e = record { shapes = ap (option_map shape) e ∙ ap (λ o. option_map (run_shape test) (option_map shape o)) (sym e); words = ap (λ o. words_of (run_words at test) (option_map shape o)) (sym e) }
      by (Some i) e =
          let did = ran_rest test i.name i.fate [] i.handlers 0 r refl (ap (option_map shape) e) in
          record { shapes = did.shapes ∙ ap (λ o. option_map (run_shape test) (option_map shape o)) (sym e); words = did.words ∙ ap (λ o. words_of (run_words at test) (option_map shape o)) (sym e) }

  -- Those of another number leave it.

  run_elsewhere : (i : Instance) (spot : ℕ) (h : Handler) (left : Ran) (s : Runtime) → (i.number == k) ≡ false → Quiet k s (did_run at i spot h left s)
  run_elsewhere i spot h left s other = record {
    shapes = seen_elsewhere (after_run spot h.kind left) (λ j. refl) k i.number other s.instances;
    words = ap (λ b. (if b then used spot i.name at ∷ [] else []) ++ []) other;
  }

  handler_elsewhere : (i : Instance) (spot : ℕ) (o : Option Handler) (s : Runtime) → (i.number == k) ≡ false → Quiet k s (run_handler language at arguments i spot o s)
  handler_elsewhere i spot None s other = record { shapes = refl; words = refl }
  handler_elsewhere i spot (Some h) s other = run_elsewhere i spot h (run_deed language h.deed (scope_of language s i) (arguments s h) (bag_of s i.name)) s other

  run_quiet : (test : Handler → Bool) (m : ℕ) → (m == k) ≡ false → (r : Runtime) → Quiet k r (run_each language at arguments test m r)
  run_quiet test m other r = quiet_each k (λ spot s. run_of language at arguments (numbered s.instances m) spot s) (λ spot s. by spot s (numbered s.instances m) refl) (places_of test (numbered r.instances m)) r
    where
      by : (spot : ℕ) (s : Runtime) (o : Option Instance) → numbered s.instances m ≡ o → Quiet k s (run_of language at arguments o spot s)
      by spot s None e = record { shapes = refl; words = refl }
      by spot s (Some i) e = handler_elsewhere i spot (slice_get i.handlers spot) s (ap (λ j. j == k) (number_found s.instances m i e) ∙ other)

-- what runs of an instance's handlers do to that of number k: its own are run, or nothing is
pub runs_are : (language : Language) (at : FaultPlace) (arguments : Runtime → Handler → List (Option Slots)) (k : ℕ) (test : Handler → Bool) (r : Runtime) → Does k (run_shape test) (run_words at test) r (run_each language at arguments test k r)
runs_are language at arguments k = run_does language at arguments k

pub runs_elsewhere : (language : Language) (at : FaultPlace) (arguments : Runtime → Handler → List (Option Slots)) (k : ℕ) (test : Handler → Bool) (m : ℕ) → (m == k) ≡ false → (r : Runtime) → Quiet k r (run_each language at arguments test m r)
runs_elsewhere language at arguments k = run_quiet language at arguments k

-- Drops, and fates.

module _ (k : ℕ) where
  pub drops_told : (places : List ℕ) → words k (map (dropped k) places) ≡ map lost places
  drops_told [] = refl
  drops_told (p ∷ places) = ap (λ b. (if b then lost p ∷ [] else []) ++ words k (map (dropped k) places)) (itself k) ∙ ap (λ ws. lost p ∷ ws) (drops_told places)

  pub drops_untold : (m : ℕ) → (m == k) ≡ false → (places : List ℕ) → words k (map (dropped m) places) ≡ []
  drops_untold m other [] = refl
  drops_untold m other (p ∷ places) = ap (λ b. (if b then lost p ∷ [] else []) ++ words k (map (dropped m) places)) other ∙ drops_untold m other places

  pub drop_does : (test : Handler → Bool) (r : Runtime) → Does k (drop_shape test) (drop_words test) r (drop_each test k r)
  drop_does test r = record {
    shapes = seen_here (λ i. record i { handlers = with_dropped test i.handlers }) (λ j. refl) k (drop_shape test) (λ j. refl) r.instances;
    words = drops_told (places_of test (numbered r.instances k)) ∙ by (numbered r.instances k);
  }
    where
      by : (o : Option Instance) → map lost (places_of test o) ≡ words_of (drop_words test) (option_map shape o)
      by None = refl
      by (Some i) = refl

  pub drop_quiet : (test : Handler → Bool) (m : ℕ) → (m == k) ≡ false → (r : Runtime) → Quiet k r (drop_each test m r)
  drop_quiet test m other r = record {
    shapes = seen_elsewhere (λ i. record i { handlers = with_dropped test i.handlers }) (λ j. refl) k m other r.instances;
    words = drops_untold m other (places_of test (numbered r.instances m));
  }

  pub end_becomes : (x : Shape) (fate : InstanceFate) (n : Name) (r : Runtime) → Becomes k x (end_shape fate x) (fell fate ∷ []) r (end_instance fate k n r)
  end_becomes x fate n r e = record {
    shapes = seen_here (λ i. record i { fate = fate }) (λ j. refl) k (end_shape fate) (λ j. refl) r.instances ∙ ap (option_map (end_shape fate)) e;
    words = ap (λ b. (if b then fell fate ∷ [] else []) ++ []) (itself k);
  }

  pub end_quiet : (fate : InstanceFate) (m : ℕ) (n : Name) → (m == k) ≡ false → (r : Runtime) → Quiet k r (end_instance fate m n r)
  end_quiet fate m n other r = record {
    shapes = seen_elsewhere (λ i. record i { fate = fate }) (λ j. refl) k m other r.instances;
    words = ap (λ b. (if b then fell fate ∷ [] else []) ++ []) other;
  }

  pub give_up_quiet : (n : Name) (r : Runtime) → Quiet k r (give_up_bag n r)
  give_up_quiet n r = record { shapes = refl; words = refl }
