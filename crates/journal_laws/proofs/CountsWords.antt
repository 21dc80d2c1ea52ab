-- What a journal counts of one instance is counted of what it tells of that instance.
use Rattle.std.proofs.Common.{◌≡◌, ℕ, ◌+◌, Bool, true, false, List, [], ◌∷◌, ◌++◌, length, refl, ap, sym, ◌∙◌, arith}
use Rattle.std.specs.Prelude.{filter, flat_map, cond, ◌&&◌, ◌==◌, if◌then◌else◌}
use Rattle.std.proofs.lemmas.Grind.{flat_map-append}
use Rattle.std.proofs.lemmas.List.{length-append}
use Rattle.std.proofs.lemmas.List.Elements.{filter-append}
use Rattle.output_lines.specs.declared.words.FaultPlace.{FaultPlace}
use Rattle.output_lines.specs.declared.words.InstanceFate.{InstanceFate}
use Rattle.client_model.specs.Instance.{Handler}
use Rattle.client_model.specs.Journal.{Happening, Journal, made, evaluated, not_run, registered, no_host, ran, dropped, ended, gave_up, gave_up_all, told}
use Rattle.journal_laws.specs.Counts.{is_run_of, runs_of, is_drop_of, drops_of, registered_to, registered_in, fate_to, fates_in, is_run_at}
use Rattle.journal_laws.proofs.HandlerShapes.{Word, gained, used, lost, fell, word_of, words}

abbrev pub is_use : ℕ → Word → Bool
is_use spot (gained h) = false
is_use spot (used s n at) = s == spot
is_use spot (lost s) = false
is_use spot (fell fate) = false

abbrev pub is_loss : ℕ → Word → Bool
is_loss spot (gained h) = false
is_loss spot (used s n at) = false
is_loss spot (lost s) = s == spot
is_loss spot (fell fate) = false

abbrev pub is_use_at : (FaultPlace → Bool) → Word → Bool
is_use_at test (gained h) = false
is_use_at test (used s n at) = test at
is_use_at test (lost s) = false
is_use_at test (fell fate) = false

abbrev pub gain : Word → List Handler
gain (gained h) = h ∷ []
gain (used s n at) = []
gain (lost s) = []
gain (fell fate) = []

abbrev pub fall : Word → List InstanceFate
fall (gained h) = []
fall (used s n at) = []
fall (lost s) = []
fall (fell fate) = fate ∷ []

abbrev pub count_of : (Word → Bool) → List Word → ℕ
count_of test ws = length (filter test ws)

pub count_then : (test : Word → Bool) (vs ws : List Word) → count_of test (vs ++ ws) ≡ count_of test vs + count_of test ws
count_then test vs ws = ap length (filter-append test vs ws) ∙ length-append (filter test vs) (filter test ws)

-- Happenings that pass a test.

module _ (k : ℕ) (p : Happening → Bool) (q : Word → Bool) (each : (x : Happening) → length (filter p (x ∷ [])) ≡ count_of q (word_of k x)) where
  counted : (journal : Journal) → length (filter p journal) ≡ count_of q (words k journal)
  counted [] = refl
  counted (x ∷ journal) = first (p x) ∙ omega (arith, each x, counted journal, count_then q (word_of k x) (words k journal))
    where
      first : (b : Bool) → length (cond b (x ∷ filter p journal) (filter p journal)) ≡ length (cond b (x ∷ []) []) + length (filter p journal)
      first true = omega arith
      first false = omega arith

both_same : {X Y : Type 0} → (a b : Bool) (x : X) (y : Y) (q : Y → Bool) → q y ≡ b → length (cond (a && b) (x ∷ []) []) ≡ length (filter q (if a then y ∷ [] else []))
both_same true b x y q e = by b ∙ ap (λ c. length (cond c (y ∷ []) [])) (sym e)
  where
    by : (c : Bool) → length (cond c (x ∷ []) []) ≡ length (cond c (y ∷ []) [])
    by true = refl
    by false = refl
both_same false b x y q e = refl

none_same : {Y : Type 0} → (a : Bool) (y : Y) (q : Y → Bool) → q y ≡ false → 0 ≡ length (filter q (if a then y ∷ [] else []))
none_same true y q e = ap (λ c. length (cond c (y ∷ []) [])) (sym e)
none_same false y q e = refl

module _ (k : ℕ) where
  pub runs_are : (spot : ℕ) (journal : Journal) → runs_of journal k spot ≡ count_of (is_use spot) (words k journal)
  runs_are spot = counted k (is_run_of k spot) (is_use spot) by
    where
      by : (x : Happening) → length (filter (is_run_of k spot) (x ∷ [])) ≡ count_of (is_use spot) (word_of k x)
      by (made i) = refl
      by (evaluated j n bag e) = refl
      by (not_run j n) = refl
      by (registered j h) = none_same (j == k) (gained h) (is_use spot) refl
      by (no_host j n label) = refl
      by (ran j s n at bag left) = both_same (j == k) (s == spot) (ran j s n at bag left) (used s n at) (is_use spot) refl
      by (dropped j s) = none_same (j == k) (lost s) (is_use spot) refl
      by (ended j n fate) = none_same (j == k) (fell fate) (is_use spot) refl
      by (gave_up n) = refl
      by gave_up_all = refl
      by (told l) = refl

  pub drops_are : (spot : ℕ) (journal : Journal) → drops_of journal k spot ≡ count_of (is_loss spot) (words k journal)
  drops_are spot = counted k (is_drop_of k spot) (is_loss spot) by
    where
      by : (x : Happening) → length (filter (is_drop_of k spot) (x ∷ [])) ≡ count_of (is_loss spot) (word_of k x)
      by (made i) = refl
      by (evaluated j n bag e) = refl
      by (not_run j n) = refl
      by (registered j h) = none_same (j == k) (gained h) (is_loss spot) refl
      by (no_host j n label) = refl
      by (ran j s n at bag left) = none_same (j == k) (used s n at) (is_loss spot) refl
      by (dropped j s) = both_same (j == k) (s == spot) (dropped j s) (lost s) (is_loss spot) refl
      by (ended j n fate) = none_same (j == k) (fell fate) (is_loss spot) refl
      by (gave_up n) = refl
      by gave_up_all = refl
      by (told l) = refl

  pub uses_are : (test : FaultPlace → Bool) (journal : Journal) → length (filter (is_run_at test k) journal) ≡ count_of (is_use_at test) (words k journal)
  uses_are test = counted k (is_run_at test k) (is_use_at test) by
    where
      by : (x : Happening) → length (filter (is_run_at test k) (x ∷ [])) ≡ count_of (is_use_at test) (word_of k x)
      by (made i) = refl
      by (evaluated j n bag e) = refl
      by (not_run j n) = refl
      by (registered j h) = none_same (j == k) (gained h) (is_use_at test) refl
      by (no_host j n label) = refl
      by (ran j s n at bag left) = both_same (j == k) (test at) (ran j s n at bag left) (used s n at) (is_use_at test) refl
      by (dropped j s) = none_same (j == k) (lost s) (is_use_at test) refl
      by (ended j n fate) = none_same (j == k) (fell fate) (is_use_at test) refl
      by (gave_up n) = refl
      by gave_up_all = refl
      by (told l) = refl

  -- What is listed.

  pub gains_are : (journal : Journal) → registered_in journal k ≡ flat_map gain (words k journal)
  gains_are [] = refl
  gains_are (x ∷ journal) = ap (λ hs. registered_to k x ++ hs) (gains_are journal) ∙ ap (λ hs. hs ++ flat_map gain (words k journal)) (by x) ∙ sym (flat_map-append gain (word_of k x) (words k journal))
    where
      listed : (a : Bool) (h : Handler) → (if a then h ∷ [] else []) ≡ flat_map gain (if a then gained h ∷ [] else [])
      listed true h = refl
      listed false h = refl

      unlisted : (a : Bool) (w : Word) → gain w ≡ [] → [] ≡ flat_map gain (if a then w ∷ [] else [])
      unlisted true w e = ap (λ hs. hs ++ []) (sym e)
      unlisted false w e = refl

      by : (x : Happening) → registered_to k x ≡ flat_map gain (word_of k x)
      by (made i) = refl
      by (evaluated j n bag e) = refl
      by (not_run j n) = refl
      by (registered j h) = listed (j == k) h
      by (no_host j n label) = refl
      by (ran j s n at bag left) = unlisted (j == k) (used s n at) refl
      by (dropped j s) = unlisted (j == k) (lost s) refl
      by (ended j n fate) = unlisted (j == k) (fell fate) refl
      by (gave_up n) = refl
      by gave_up_all = refl
      by (told l) = refl

  pub falls_are : (journal : Journal) → fates_in journal k ≡ flat_map fall (words k journal)
  falls_are [] = refl
  falls_are (x ∷ journal) = ap (λ hs. fate_to k x ++ hs) (falls_are journal) ∙ ap (λ hs. hs ++ flat_map fall (words k journal)) (by x) ∙ sym (flat_map-append fall (word_of k x) (words k journal))
    where
      listed : (a : Bool) (fate : InstanceFate) → (if a then fate ∷ [] else []) ≡ flat_map fall (if a then fell fate ∷ [] else [])
      listed true fate = refl
      listed false fate = refl

      unlisted : (a : Bool) (w : Word) → fall w ≡ [] → [] ≡ flat_map fall (if a then w ∷ [] else [])
      unlisted true w e = ap (λ hs. hs ++ []) (sym e)
      unlisted false w e = refl

      by : (x : Happening) → fate_to k x ≡ flat_map fall (word_of k x)
      by (made i) = refl
      by (evaluated j n bag e) = refl
      by (not_run j n) = refl
      by (registered j h) = unlisted (j == k) (gained h) refl
      by (no_host j n label) = refl
      by (ran j s n at bag left) = unlisted (j == k) (used s n at) refl
      by (dropped j s) = unlisted (j == k) (lost s) refl
      by (ended j n fate) = listed (j == k) fate
      by (gave_up n) = refl
      by gave_up_all = refl
      by (told l) = refl
