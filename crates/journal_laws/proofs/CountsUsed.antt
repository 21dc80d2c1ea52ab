-- Each run is that of a handler of its instance, at the place of the handler's kind; and through each step of
-- an instance's life the journal tells of its handlers as they stand.
use Rattle.std.proofs.Common.{◌≡◌, ◌⊎◌, inl, inr, ℕ, suc, ◌+◌, Bool, true, false, List, [], ◌∷◌, ◌++◌, refl, ap, sym, ◌∙◌, arith, Contains}
use Rattle.std.specs.Prelude.{map, ◌&&◌, ◌==◌, Option, Some, None, option_map, slice_get, if◌then◌else◌, ⊤}
use Prim.{⊥}
use Rattle.std.proofs.Math.Path.{subst}
use Rattle.std.proofs.lemmas.Bool.{false≢true}
use Rattle.std.proofs.lemmas.Option.{slice_get-map}
use Rattle.hmr_types.specs.declared.words.HandlerKind.{HandlerKind}
use Rattle.hmr_types.specs.declared.words.HandlerKind.TheVariants as kind
use Rattle.output_lines.specs.declared.words.HandlerEnd.{HandlerEnd}
use Rattle.output_lines.specs.declared.words.HandlerEnd.TheVariants.{Dropped}
use Rattle.output_lines.specs.declared.words.FaultPlace.{FaultPlace}
use Rattle.output_lines.specs.declared.words.FaultPlace.TheVariants as place
use Rattle.output_lines.specs.declared.words.InstanceFate.{InstanceFate}
use Rattle.output_lines.specs.declared.words.InstanceFate.TheVariants.{Replaced, Pruned, Reloaded}
use Rattle.core_model.specs.Names.{Name, has}
use Rattle.core_model.proofs.Naming.{both_true}
use Rattle.client_model.specs.Language.{Language, Bag, Ran}
use Rattle.client_model.specs.Instance.{Instance, Handler, is_held, is_dispose, is_prune, is_own, is_dep, disposes, prunes, accepts_own, accepts_dep, numbered, places_from}
use Rattle.client_model.specs.Journal.{Journal, ran}
use Rattle.client_model.specs.Runtime.{Runtime, Opening}
use Rattle.client_model.specs.Running.{end_after}
use Rattle.client_model.specs.Making.{is_displaced_by}
use Rattle.client_model.specs.Applying.{is_left_behind}
use Rattle.client_model.specs.Past.{Past, runtime_after, journal_of}
use Rattle.world_laws.proofs.Members.{in_cases, none_in}
use Rattle.world_laws.proofs.Frames.{found_in}
use Rattle.journal_laws.specs.Counts.{place_of, IsHandlerOf, AreTold, AreRegistered, AreRunsOfHandlers, IsToldAs, drops_of}
use Rattle.journal_laws.proofs.HandlerShapes.{Shape, shape, Word, gained, used, lost, fell, word_of, words, At, itself}
use Rattle.journal_laws.proofs.HandlerActs.{run_shape, run_words, drop_shape, drop_words, end_shape}
use Rattle.journal_laws.proofs.HandlerLives.{IsLife}
use Rattle.journal_laws.proofs.HandlerMessages.{run_lives, of_each}
use Rattle.journal_laws.proofs.HandlerChanges.{OnlyHeld, held_dispose, held_prune, held_own, held_dep, held_left, held_all, changed, changed_kind}
use Rattle.journal_laws.proofs.CountsWords.{is_use, is_loss, count_of, runs_are, drops_are, gains_are}
use Rattle.journal_laws.proofs.CountsTold.{ToldAt, Told, told_run, told_drop, told_end, told_registered}
use Rattle.journal_laws.proofs.Numbers.{number_found}

abbrev pub AllWords : (Word → Type 0) → List Word → Type 0
AllWords P [] = ⊤
AllWords P (w ∷ ws) = P w × AllWords P ws

module _ (P : Word → Type 0) where
  words_append : (vs ws : List Word) → AllWords P vs → AllWords P ws → AllWords P (vs ++ ws)
  words_append [] ws a b = b
  words_append (v ∷ vs) ws a b = (a.0, words_append vs ws a.1 b)

  words_split : (vs ws : List Word) → AllWords P (vs ++ ws) → AllWords P vs × AllWords P ws
  words_split [] ws a = (tt, a)
  words_split (v ∷ vs) ws a = let rest = words_split vs ws a.1 in ((a.0, rest.0), rest.1)

  -- what a journal tells is among its words
  told_in : (k spot : ℕ) (n : Name) (at : FaultPlace) (before : Bag) (left : Ran) (journal : Journal) → AllWords P (words k journal) → Contains journal (ran k spot n at before left) → P (used spot n at)
  told_in k spot n at before left [] a c = absurd (none_in (ran k spot n at before left) c)
  told_in k spot n at before left (x ∷ journal) a c = by (in_cases x journal (ran k spot n at before left) c) (told_in k spot n at before left journal (words_split (word_of k x) (words k journal) a).1)
    where
      by : (x ≡ ran k spot n at before left) ⊎ Contains journal (ran k spot n at before left) → (Contains journal (ran k spot n at before left) → P (used spot n at)) → P (used spot n at)
      by (inl e) rest = (subst (λ b. AllWords P (if b then used spot n at ∷ [] else [])) (itself k) (subst (λ y. AllWords P (word_of k y)) e (words_split (word_of k x) (words k journal) a).0)).0
      by (inr t) rest = rest t

-- a handler stands there, of the kind that is run at the place
abbrev pub StandsAt : Option Handler → FaultPlace → Type 0
StandsAt None at = ⊥
StandsAt (Some h) at = place_of h.kind ≡ at

-- a run is under the instance's name, of a handler that stands there
abbrev pub Fits : Name → List Handler → Word → Type 0
Fits n hs (gained h) = ⊤
Fits n hs (used spot m at) = (m ≡ n) × StandsAt (slice_get hs spot) at
Fits n hs (lost spot) = ⊤
Fits n hs (fell fate) = ⊤

module _ (test : Handler → Bool) (end : Handler → HandlerEnd) (n : Name) (hs : List Handler) where
  stands_changed : (spot : ℕ) (at : FaultPlace) → StandsAt (slice_get hs spot) at → StandsAt (slice_get (map (changed test end) hs) spot) at
  stands_changed spot at s = subst (λ o. StandsAt o at) (sym (slice_get-map (changed test end) hs spot)) (by (slice_get hs spot) s)
    where
      by : (o : Option Handler) → StandsAt o at → StandsAt (option_map (changed test end) o) at
      by None s = s
      by (Some h) s = ap place_of (changed_kind test end h) ∙ s

  fit_changed : (ws : List Word) → AllWords (Fits n hs) ws → AllWords (Fits n (map (changed test end) hs)) ws
  fit_changed [] a = tt
  fit_changed (gained h ∷ ws) a = (tt, fit_changed ws a.1)
  fit_changed (used spot m at ∷ ws) a = ((a.0.0, stands_changed spot at a.0.1), fit_changed ws a.1)
  fit_changed (lost spot ∷ ws) a = (tt, fit_changed ws a.1)
  fit_changed (fell fate ∷ ws) a = (tt, fit_changed ws a.1)

-- the test passes handlers of the place's kind alone
abbrev pub OnlyAt : FaultPlace → (Handler → Bool) → Type 0
OnlyAt at test = (h : Handler) → test h ≡ true → place_of h.kind ≡ at

fit_used : (at : FaultPlace) (test : Handler → Bool) → OnlyAt at test → (n : Name) (whole rest : List Handler) (k : ℕ) → ((j : ℕ) → slice_get whole (k + j) ≡ slice_get rest j) → AllWords (Fits n whole) (map (λ p. used p n at) (places_from k test rest))
fit_used at test only n whole [] k look = tt
fit_used at test only n whole (h ∷ rest) k look = by (test h) refl (fit_used at test only n whole rest (suc k) (λ j. ap (slice_get whole) (omega arith) ∙ look (suc j)))
  where
    here : slice_get whole k ≡ Some h
    here = ap (slice_get whole) (omega arith) ∙ look 0

    by : (b : Bool) → test h ≡ b → AllWords (Fits n whole) (map (λ p. used p n at) (places_from (suc k) test rest)) → AllWords (Fits n whole) (map (λ p. used p n at) (if b then k ∷ places_from (suc k) test rest else places_from (suc k) test rest))
    by true e a = ((refl, subst (λ o. StandsAt o at) (sym here) (only h e)), a)
    by false e a = a

fit_lost : (n : Name) (hs : List Handler) (places : List ℕ) → AllWords (Fits n hs) (map lost places)
fit_lost n hs [] = tt
fit_lost n hs (p ∷ places) = (tt, fit_lost n hs places)

-- Lives.

abbrev pub KeptYoung : List Handler → List Word → Type 0
KeptYoung hs ws = Told hs ws × ((n : Name) (gs : List Handler) → AllWords (Fits n gs) ws)

abbrev pub Kept : Shape → List Word → Type 0
Kept x ws = Told x.handlers ws × AllWords (Fits x.name x.handlers) ws

kept_run : (at : FaultPlace) (test : Handler → Bool) → OnlyHeld test → OnlyAt at test → (x : Shape) (ws : List Word) → Kept x ws → Kept (run_shape test x) (ws ++ run_words at test x)
kept_run at test held only x ws k = (
  told_run test held x.name at x.handlers ws k.0,
  fit_changed test (λ h. end_after h.kind) x.name x.handlers (ws ++ run_words at test x) (words_append (Fits x.name x.handlers) ws (run_words at test x) k.1 (fit_used at test only x.name x.handlers x.handlers 0 (λ j. ap (slice_get x.handlers) (omega arith)))),
)

kept_drop : (test : Handler → Bool) → OnlyHeld test → (x : Shape) (ws : List Word) → Kept x ws → Kept (drop_shape test x) (ws ++ drop_words test x)
kept_drop test held x ws k = (
  told_drop test held x.handlers ws k.0,
  fit_changed test (λ h. Dropped) x.name x.handlers (ws ++ drop_words test x) (words_append (Fits x.name x.handlers) ws (drop_words test x) k.1 (fit_lost x.name x.handlers (places_from 0 test x.handlers))),
)

kept_end : (fate : InstanceFate) (x : Shape) (ws : List Word) → Kept x ws → Kept (end_shape fate x) (ws ++ fell fate ∷ [])
kept_end fate x ws k = (told_end fate x.handlers ws k.0, words_append (Fits x.name x.handlers) ws (fell fate ∷ []) k.1 (tt, tt))

dispose_place : (k : HandlerKind) → is_dispose k ≡ true → place_of k ≡ place.Dispose
dispose_place kind.Dispose e = refl
dispose_place kind.Prune e = absurd (false≢true e)
dispose_place kind.Own e = absurd (false≢true e)
dispose_place kind.Dep e = absurd (false≢true e)

prune_place : (k : HandlerKind) → is_prune k ≡ true → place_of k ≡ place.Prune
prune_place kind.Dispose e = absurd (false≢true e)
prune_place kind.Prune e = refl
prune_place kind.Own e = absurd (false≢true e)
prune_place kind.Dep e = absurd (false≢true e)

own_place : (k : HandlerKind) → is_own k ≡ true → place_of k ≡ place.Own
own_place kind.Dispose e = absurd (false≢true e)
own_place kind.Prune e = absurd (false≢true e)
own_place kind.Own e = refl
own_place kind.Dep e = absurd (false≢true e)

dep_place : (k : HandlerKind) → is_dep k ≡ true → place_of k ≡ place.Dep
dep_place kind.Dispose e = absurd (false≢true e)
dep_place kind.Prune e = absurd (false≢true e)
dep_place kind.Own e = absurd (false≢true e)
dep_place kind.Dep e = refl

kept_dispose : (x : Shape) (ws : List Word) → Kept x ws → Kept (run_shape disposes x) (ws ++ run_words place.Dispose disposes x)
kept_dispose = kept_run place.Dispose disposes held_dispose (λ h t. dispose_place h.kind (both_true (is_held h) (is_dispose h.kind) t).1)

kept_prune : (x : Shape) (ws : List Word) → Kept x ws → Kept (run_shape prunes x) (ws ++ run_words place.Prune prunes x)
kept_prune = kept_run place.Prune prunes held_prune (λ h t. prune_place h.kind (both_true (is_held h) (is_prune h.kind) t).1)

kept_own : (x : Shape) (ws : List Word) → Kept x ws → Kept (run_shape accepts_own x) (ws ++ run_words place.Own accepts_own x)
kept_own = kept_run place.Own accepts_own held_own (λ h t. own_place h.kind (both_true (is_held h) (is_own h.kind) t).1)

kept_dep : (n : Name) (x : Shape) (ws : List Word) → Kept x ws → Kept (run_shape (accepts_dep n) x) (ws ++ run_words place.Dep (accepts_dep n) x)
kept_dep n = kept_run place.Dep (accepts_dep n) (held_dep n) (λ h t. dep_place h.kind (both_true (is_held h) (is_dep h.kind) (both_true (is_held h && is_dep h.kind) (has h.deps n) t).0).1)

kept_life : IsLife KeptYoung Kept Kept
kept_life = record {
  unregistered = (record { registered = refl; told = λ spot. (refl, refl) }, λ n gs. tt);
  registered = λ hs ws h held y. (
    told_registered h held hs ws y.0,
    λ n gs. words_append (Fits n gs) ws (map lost (places_from 0 (is_displaced_by h.kind) hs) ++ gained h ∷ []) (y.1 n gs)
        (words_append (Fits n gs) (map lost (places_from 0 (is_displaced_by h.kind) hs)) (gained h ∷ []) (fit_lost n gs (places_from 0 (is_displaced_by h.kind) hs)) (tt, tt)),
  );
  made = λ n hs ws y. (y.0, y.1 n hs);
  reloaded = λ x ws l k. kept_end Reloaded (drop_shape is_held x) (ws ++ drop_words is_held x) (kept_drop is_held held_all x ws k);
  replaced = λ m x ws l k.
      let y : Shape = run_shape disposes x in
      let first : List Word = ws ++ run_words place.Dispose disposes x in
      kept_end (Replaced m) (drop_shape is_left_behind y) (first ++ drop_words is_left_behind y) (kept_drop is_left_behind held_left y first (kept_dispose x ws k));
  own = kept_own;
  dep_aside = kept_dep;
  dep = kept_dep;
  laid = kept_drop is_held held_all;
  pruned = λ x ws l k.
      let y : Shape = run_shape disposes x in
      let z : Shape = run_shape prunes y in
      let first : List Word = ws ++ run_words place.Dispose disposes x in
      let second : List Word = first ++ run_words place.Prune prunes y in
      kept_end Pruned (drop_shape is_held z) (second ++ drop_words is_held z) (kept_drop is_held held_all z second (kept_prune y first (kept_dispose x ws k)));
}

module _ (language : Language) (opening : Opening) (past : Past) where
  pub are_registered : AreRegistered (runtime_after language opening past) (journal_of language opening past)
  are_registered i c = gains_are i.number (journal_of language opening past) ∙ (of_each KeptYoung Kept Kept kept_life language opening past i c).0.registered

  pub are_told : AreTold (runtime_after language opening past) (journal_of language opening past)
  are_told i c spot h e =
      let journal : Journal = journal_of language opening past in
      subst (λ a. IsToldAs h.end h.kind a (drops_of journal i.number spot)) (sym (runs_are i.number spot journal))
      (subst (IsToldAs h.end h.kind (count_of (is_use spot) (words i.number journal))) (sym (drops_are i.number spot journal))
      (subst (λ o. ToldAt o (count_of (is_use spot) (words i.number journal)) (count_of (is_loss spot) (words i.number journal))) e ((of_each KeptYoung Kept Kept kept_life language opening past i c).0.told spot)))

  pub are_runs_of_handlers : AreRunsOfHandlers (runtime_after language opening past) (journal_of language opening past)
  are_runs_of_handlers k spot n at before left c = by (numbered r.instances k) refl (run_lives KeptYoung Kept Kept kept_life language k opening past)
    where
      r : Runtime
      r = runtime_after language opening past

      journal : Journal
      journal = journal_of language opening past

      handler_of : (i : Instance) → numbered r.instances k ≡ Some i → n ≡ i.name → (o : Option Handler) → slice_get i.handlers spot ≡ o → StandsAt o at → IsHandlerOf r k spot n at
      handler_of i known name None e s = absurd s
      handler_of i known name (Some h) e s = record { instance = i; made = (found_in (λ j. j.number == k) r.instances i known).0; number = number_found r.instances k i known; name = sym name; handler = h; stands = e; place = s }

      by : (o : Option Instance) → numbered r.instances k ≡ o → At Kept (option_map shape o) (words k journal) → IsHandlerOf r k spot n at
      by None known a = absurd (told_in (λ w. ⊥) k spot n at before left journal (subst (AllWords (λ w. ⊥)) (sym a) tt) c)
      by (Some i) known a = let fits = told_in (Fits i.name i.handlers) k spot n at before left journal a.1 c in handler_of i known fits.0 (slice_get i.handlers spot) refl fits.1
