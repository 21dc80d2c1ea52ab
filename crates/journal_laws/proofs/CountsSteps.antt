-- What each step of an instance's life tells, counted; and the fate that an instance is told.
use Rattle.std.proofs.Common.{◌≡◌, ℕ, zero, suc, ◌+◌, ◌<◌, Bool, true, false, List, [], ◌∷◌, ◌++◌, length, refl, ap, ◌∙◌, arith}
use Rattle.std.specs.Prelude.{map, filter, flat_map, cond, ◌==◌, Option, Some, None, slice_get, if◌then◌else◌}
use Rattle.std.proofs.lemmas.Bool.{eq-eqb}
use Rattle.std.proofs.lemmas.Grind.{flat_map-append}
use Rattle.std.proofs.lemmas.List.{append-nil}
use Rattle.output_lines.specs.declared.words.FaultPlace.{FaultPlace}
use Rattle.output_lines.specs.declared.words.FaultPlace.TheVariants as place
use Rattle.output_lines.specs.declared.words.InstanceFate.{InstanceFate}
use Rattle.output_lines.specs.declared.words.InstanceFate.TheVariants.{Replaced, Pruned, Reloaded}
use Rattle.core_model.specs.Names.{Name}
use Rattle.client_model.specs.Language.{Language}
use Rattle.client_model.specs.Instance.{Handler, is_live_fate, is_held, disposes, prunes, accepts_own, accepts_dep, places_from}
use Rattle.client_model.specs.Making.{is_displaced_by}
use Rattle.client_model.specs.Applying.{is_left_behind}
use Rattle.client_model.specs.Runtime.{Opening}
use Rattle.client_model.specs.Past.{Past, runtime_after, journal_of}
use Rattle.world_laws.proofs.Frames.{apart}
use Rattle.journal_laws.specs.Counts.{told_fate, AreFated}
use Rattle.journal_laws.proofs.HandlerShapes.{Shape, Word, gained, used, lost, fell}
use Rattle.journal_laws.proofs.HandlerActs.{run_shape, run_words, drop_words}
use Rattle.journal_laws.proofs.HandlerLives.{IsLife}
use Rattle.journal_laws.proofs.HandlerMessages.{of_each}
use Rattle.journal_laws.proofs.HandlerEnds.{live_fate}
use Rattle.journal_laws.proofs.CountsWords.{is_use, is_loss, is_use_at, gain, fall, count_of, falls_are}

-- how often the place is among these
abbrev pub times : ℕ → List ℕ → ℕ
times spot places = length (filter (λ p. p == spot) places)

count_same : (b : Bool) (w : Word) (p : ℕ) (ws : List Word) (ps : List ℕ) → length ws ≡ length ps → length (cond b (w ∷ ws) ws) ≡ length (cond b (p ∷ ps) ps)
count_same true w p ws ps e = ap suc e
count_same false w p ws ps e = e

module _ (n : Name) (at : FaultPlace) where
  pub uses_used : (spot : ℕ) (places : List ℕ) → count_of (is_use spot) (map (λ p. used p n at) places) ≡ times spot places
  uses_used spot [] = refl
  uses_used spot (p ∷ places) = count_same (p == spot) (used p n at) p (filter (is_use spot) (map (λ q. used q n at) places)) (filter (λ q. q == spot) places) (uses_used spot places)

  pub losses_used : (spot : ℕ) (places : List ℕ) → count_of (is_loss spot) (map (λ p. used p n at) places) ≡ 0
  losses_used spot [] = refl
  losses_used spot (p ∷ places) = losses_used spot places

  pub uses_used_at : (test : FaultPlace → Bool) (places : List ℕ) → count_of (is_use_at test) (map (λ p. used p n at) places) ≡ (if test at then length places else 0)
  uses_used_at test [] = by (test at)
    where
      by : (b : Bool) → ◌≡◌ {A = ℕ} 0 (if b then 0 else 0)
      by true = refl
      by false = refl
  uses_used_at test (p ∷ places) = by (test at) (uses_used_at test places)
    where
      by : (b : Bool) → count_of (is_use_at test) (map (λ q. used q n at) places) ≡ (if b then length places else 0) → length (cond b (used p n at ∷ filter (is_use_at test) (map (λ q. used q n at) places)) (filter (is_use_at test) (map (λ q. used q n at) places))) ≡ (if b then suc (length places) else 0)
      by true e = ap suc e
      by false e = e

  pub gains_used : (places : List ℕ) → flat_map gain (map (λ p. used p n at) places) ≡ []
  gains_used [] = refl
  gains_used (p ∷ places) = gains_used places

  pub falls_used : (places : List ℕ) → flat_map fall (map (λ p. used p n at) places) ≡ []
  falls_used [] = refl
  falls_used (p ∷ places) = falls_used places

pub uses_lost : (spot : ℕ) (places : List ℕ) → count_of (is_use spot) (map lost places) ≡ 0
uses_lost spot [] = refl
uses_lost spot (p ∷ places) = uses_lost spot places

pub losses_lost : (spot : ℕ) (places : List ℕ) → count_of (is_loss spot) (map lost places) ≡ times spot places
losses_lost spot [] = refl
losses_lost spot (p ∷ places) = count_same (p == spot) (lost p) p (filter (is_loss spot) (map lost places)) (filter (λ q. q == spot) places) (losses_lost spot places)

pub uses_lost_at : (test : FaultPlace → Bool) (places : List ℕ) → count_of (is_use_at test) (map lost places) ≡ 0
uses_lost_at test [] = refl
uses_lost_at test (p ∷ places) = uses_lost_at test places

pub gains_lost : (places : List ℕ) → flat_map gain (map lost places) ≡ []
gains_lost [] = refl
gains_lost (p ∷ places) = gains_lost places

pub falls_lost : (places : List ℕ) → flat_map fall (map lost places) ≡ []
falls_lost [] = refl
falls_lost (p ∷ places) = falls_lost places

-- Places that pass a test.

-- once where the handler is there and passes the test
abbrev pub passes : (Handler → Bool) → Option Handler → ℕ
passes test None = 0
passes test (Some h) = if test h then 1 else 0

module _ (test : Handler → Bool) where
  none_below : (k spot : ℕ) → spot < k → (hs : List Handler) → times spot (places_from k test hs) ≡ 0
  none_below k spot l [] = refl
  none_below k spot l (h ∷ hs) = by (test h) (none_below (suc k) spot (omega (arith, l)) hs)
    where
      by : (b : Bool) → times spot (places_from (suc k) test hs) ≡ 0 → times spot (if b then k ∷ places_from (suc k) test hs else places_from (suc k) test hs) ≡ 0
      by true e = ap (λ c. length (cond c (k ∷ filter (λ p. p == spot) (places_from (suc k) test hs)) (filter (λ p. p == spot) (places_from (suc k) test hs)))) (apart k spot (λ e. omega (arith, l, e))) ∙ e
      by false e = e

  times_from : (k j spot : ℕ) → spot ≡ k + j → (hs : List Handler) → times spot (places_from k test hs) ≡ passes test (slice_get hs j)
  times_from k j spot e [] = refl
  times_from k zero spot e (h ∷ hs) = by (test h)
    where
      none : times spot (places_from (suc k) test hs) ≡ 0
      none = none_below (suc k) spot (omega (arith, e)) hs

      by : (b : Bool) → times spot (if b then k ∷ places_from (suc k) test hs else places_from (suc k) test hs) ≡ (if b then 1 else 0)
      by true = ap (λ c. length (cond c (k ∷ filter (λ p. p == spot) (places_from (suc k) test hs)) (filter (λ p. p == spot) (places_from (suc k) test hs)))) (eq-eqb k spot (omega (arith, e))) ∙ ap suc none
      by false = none
  times_from k (suc j) spot e (h ∷ hs) = by (test h) (times_from (suc k) j spot (omega (arith, e)) hs)
    where
      by : (b : Bool) → times spot (places_from (suc k) test hs) ≡ passes test (slice_get hs j) → times spot (if b then k ∷ places_from (suc k) test hs else places_from (suc k) test hs) ≡ passes test (slice_get hs j)
      by true f = ap (λ c. length (cond c (k ∷ filter (λ p. p == spot) (places_from (suc k) test hs)) (filter (λ p. p == spot) (places_from (suc k) test hs)))) (apart k spot (λ g. omega (arith, e, g))) ∙ f
      by false f = f

  pub times_at : (spot : ℕ) (hs : List Handler) → times spot (places_from 0 test hs) ≡ passes test (slice_get hs spot)
  times_at spot hs = times_from 0 spot spot (omega arith) hs

-- Fates.

abbrev falls : List Word → List InstanceFate
falls ws = flat_map fall ws

falls_then : (vs ws : List Word) → falls (vs ++ ws) ≡ falls vs ++ falls ws
falls_then vs ws = flat_map-append fall vs ws

abbrev pub Unfallen : List Handler → List Word → Type 0
Unfallen hs ws = falls ws ≡ []

abbrev pub Fallen : Shape → List Word → Type 0
Fallen x ws = falls ws ≡ told_fate x.fate

-- nothing of it tells a fate
more : (vs ws : List Word) (fates : List InstanceFate) → falls ws ≡ [] → falls vs ≡ fates → falls (vs ++ ws) ≡ fates
more vs ws fates e f = falls_then vs ws ∙ ap (λ us. falls vs ++ us) e ∙ append-nil (falls vs) ∙ f

runs_more : (at : FaultPlace) (test : Handler → Bool) (x : Shape) (vs : List Word) (fates : List InstanceFate) → falls vs ≡ fates → falls (vs ++ run_words at test x) ≡ fates
runs_more at test x vs fates e = more vs (run_words at test x) fates (falls_used x.name at (places_from 0 test x.handlers)) e

drops_more : (test : Handler → Bool) (x : Shape) (vs : List Word) (fates : List InstanceFate) → falls vs ≡ fates → falls (vs ++ drop_words test x) ≡ fates
drops_more test x vs fates e = more vs (drop_words test x) fates (falls_lost (places_from 0 test x.handlers)) e

ends_once : (fate : InstanceFate) (vs : List Word) → falls vs ≡ [] → falls (vs ++ fell fate ∷ []) ≡ fate ∷ []
ends_once fate vs e = falls_then vs (fell fate ∷ []) ∙ ap (λ fs. fs ++ fate ∷ []) e

untold : (fate : InstanceFate) → is_live_fate fate ≡ true → told_fate fate ≡ []
untold fate l = ap told_fate (live_fate fate l)

fates_life : IsLife Unfallen Fallen Fallen
fates_life = record {
  unregistered = refl;
  registered = λ hs ws h held e. more ws (map lost (places_from 0 (is_displaced_by h.kind) hs) ++ gained h ∷ []) [] (more (map lost (places_from 0 (is_displaced_by h.kind) hs)) (gained h ∷ []) [] refl (falls_lost (places_from 0 (is_displaced_by h.kind) hs))) e;
  made = λ n hs ws e. e;
  reloaded = λ x ws l e. ends_once Reloaded (ws ++ drop_words is_held x) (drops_more is_held x ws [] (e ∙ untold x.fate l));
  replaced = λ m x ws l e. ends_once (Replaced m) ((ws ++ run_words place.Dispose disposes x) ++ drop_words is_left_behind (run_shape disposes x))
      (drops_more is_left_behind (run_shape disposes x) (ws ++ run_words place.Dispose disposes x) [] (runs_more place.Dispose disposes x ws [] (e ∙ untold x.fate l)));
  own = λ x ws e. runs_more place.Own accepts_own x ws (told_fate x.fate) e;
  dep_aside = λ n x ws e. runs_more place.Dep (accepts_dep n) x ws (told_fate x.fate) e;
  dep = λ n x ws e. runs_more place.Dep (accepts_dep n) x ws (told_fate x.fate) e;
  laid = λ x ws e. drops_more is_held x ws (told_fate x.fate) e;
  pruned = λ x ws l e.
      let y : Shape = run_shape disposes x in
      let first : List Word = ws ++ run_words place.Dispose disposes x in
      let second : List Word = first ++ run_words place.Prune prunes y in
      ends_once Pruned (second ++ drop_words is_held (run_shape prunes y))
      (drops_more is_held (run_shape prunes y) second [] (runs_more place.Prune prunes y first [] (runs_more place.Dispose disposes x ws [] (e ∙ untold x.fate l))));
}

pub are_fated : (language : Language) (opening : Opening) (past : Past) → AreFated (runtime_after language opening past) (journal_of language opening past)
are_fated language opening past i c = falls_are i.number (journal_of language opening past) ∙ of_each Unfallen Fallen Fallen fates_life language opening past i c
