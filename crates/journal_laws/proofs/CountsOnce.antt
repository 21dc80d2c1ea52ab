-- Of the disposers that an instance registered one is run, where it is replaced or pruned; of its prune
-- handlers one, where it is pruned: all but one are displaced, and dropped unrun.
use Rattle.std.proofs.Common.{◌≡◌, ℕ, suc, ◌+◌, Bool, true, false, List, [], ◌∷◌, ◌++◌, length, refl, ap, sym, ◌∙◌, arith}
use Rattle.std.specs.Prelude.{map, ◌&&◌, ◌||◌, if◌then◌else◌}
use Rattle.std.specs.List.{list_any}
use Rattle.std.proofs.lemmas.Bool.{false≢true}
use Rattle.hmr_types.specs.declared.words.HandlerKind.{HandlerKind}
use Rattle.hmr_types.specs.declared.words.HandlerKind.TheVariants as kind
use Rattle.output_lines.specs.declared.words.HandlerEnd.{HandlerEnd}
use Rattle.output_lines.specs.declared.words.HandlerEnd.TheVariants.{Held, Dropped}
use Rattle.output_lines.specs.declared.words.FaultPlace.{FaultPlace}
use Rattle.output_lines.specs.declared.words.FaultPlace.TheVariants as place
use Rattle.output_lines.specs.declared.words.InstanceFate.{InstanceFate}
use Rattle.output_lines.specs.declared.words.InstanceFate.TheVariants.{Live, Replaced, Pruned, Reloaded}
use Rattle.client_model.specs.Language.{Language}
use Rattle.client_model.specs.Instance.{Handler, is_live_fate, is_held_end, is_held, is_dispose, is_prune, disposes, prunes, accepts_own, accepts_dep, places_from}
use Rattle.client_model.specs.Running.{end_after}
use Rattle.client_model.specs.Making.{is_displaced_by}
use Rattle.client_model.specs.Applying.{is_left_behind}
use Rattle.client_model.specs.Runtime.{Opening}
use Rattle.client_model.specs.Past.{Past, runtime_after, journal_of}
use Rattle.journal_laws.specs.Ends.{displaces, is_displaced, EndsBy}
use Rattle.journal_laws.specs.Counts.{is_dispose_place, is_prune_place, is_disposed, is_pruned, once_if, AreDisposedOnce, ArePrunedOnce}
use Rattle.journal_laws.proofs.HandlerShapes.{Shape, Word, gained, lost, fell}
use Rattle.journal_laws.proofs.HandlerActs.{run_shape, run_words, drop_shape, drop_words, end_shape}
use Rattle.journal_laws.proofs.HandlerLives.{IsLife}
use Rattle.journal_laws.proofs.HandlerMessages.{of_each}
use Rattle.journal_laws.proofs.HandlerChanges.{AllOf, changed, changed_kind}
use Rattle.journal_laws.proofs.HandlerEnds.{Stands, DisposerSpent, disposing, live_fate, live_stands, YoungEnds, WholeEnds, AsideEnds, ends_life}
use Rattle.journal_laws.proofs.CountsWords.{is_use_at, count_of, count_then, uses_are}
use Rattle.journal_laws.proofs.CountsSteps.{uses_used_at, uses_lost_at}

-- some handler is of a kind that passes the test
abbrev pub has_kind : (HandlerKind → Bool) → List Handler → Bool
has_kind target hs = list_any (λ h. target h.kind) hs

kinds_stay : (target : HandlerKind → Bool) (test : Handler → Bool) (end : Handler → HandlerEnd) (hs : List Handler) → has_kind target (map (changed test end) hs) ≡ has_kind target hs
kinds_stay target test end [] = refl
kinds_stay target test end (h ∷ hs) = ap (λ k. target k || has_kind target (map (changed test end) hs)) (changed_kind test end h) ∙ ap (λ b. target h.kind || b) (kinds_stay target test end hs)

-- Of the handlers of a kind that displace one another all but the last are displaced; that one is held.

module _ (target : HandlerKind → Bool) (P : HandlerKind → HandlerEnd → Type 0) (displacing : (earlier later : HandlerKind) → target earlier ≡ true → displaces later earlier ≡ target later) (holds : (k : HandlerKind) (e : HandlerEnd) → target k ≡ true → P k e → e ≡ Held) where
  abbrev held_of : Handler → Bool
  held_of h = is_held h && target h.kind

  displaced_if : (k : HandlerKind) → target k ≡ true → (later : List Handler) → is_displaced k later ≡ has_kind target later
  displaced_if k t [] = refl
  displaced_if k t (h ∷ later) = ap (λ b. b || is_displaced k later) (displacing k h.kind t) ∙ ap (λ b. target h.kind || b) (displaced_if k t later)

  one_held : (from : ℕ) (hs : List Handler) → AllOf (Stands P) hs → length (places_from from held_of hs) ≡ once_if (has_kind target hs)
  one_held from [] a = refl
  one_held from (h ∷ later) a = by (target h.kind) refl (is_displaced h.kind later) refl a.0 (one_held (suc from) later a.1)
    where
      rest : List ℕ
      rest = places_from (suc from) held_of later

      other : (a : Bool) → (a && false) ≡ false
      other true = refl
      other false = refl

      by : (t : Bool) → target h.kind ≡ t → (d : Bool) → is_displaced h.kind later ≡ d → Stands P d h → length rest ≡ once_if (has_kind target later) → length (if held_of h then from ∷ rest else rest) ≡ once_if (t || has_kind target later)
      by false e d f s more = ap (λ c. length (if c then from ∷ rest else rest)) (ap (λ t. is_held h && t) e ∙ other (is_held h)) ∙ more
      by true e true f s more = ap (λ c. length (if c then from ∷ rest else rest)) (ap (λ end. is_held_end end && target h.kind) s) ∙ more ∙ ap once_if (sym (displaced_if h.kind e later) ∙ f)
      by true e false f s more = ap (λ c. length (if c then from ∷ rest else rest)) (ap (λ end. is_held_end end && target h.kind) (holds h.kind h.end e s) ∙ e) ∙ ap suc (more ∙ ap once_if (sym (displaced_if h.kind e later) ∙ f))

disposers_displace : (earlier later : HandlerKind) → is_dispose earlier ≡ true → displaces later earlier ≡ is_dispose later
disposers_displace kind.Dispose kind.Dispose e = refl
disposers_displace kind.Dispose kind.Prune e = refl
disposers_displace kind.Dispose kind.Own e = refl
disposers_displace kind.Dispose kind.Dep e = refl
disposers_displace kind.Prune later e = absurd (false≢true e)
disposers_displace kind.Own later e = absurd (false≢true e)
disposers_displace kind.Dep later e = absurd (false≢true e)

prunes_displace : (earlier later : HandlerKind) → is_prune earlier ≡ true → displaces later earlier ≡ is_prune later
prunes_displace kind.Dispose later e = absurd (false≢true e)
prunes_displace kind.Prune kind.Dispose e = refl
prunes_displace kind.Prune kind.Prune e = refl
prunes_displace kind.Prune kind.Own e = refl
prunes_displace kind.Prune kind.Dep e = refl
prunes_displace kind.Own later e = absurd (false≢true e)
prunes_displace kind.Dep later e = absurd (false≢true e)

prune_held : (k : HandlerKind) (e : HandlerEnd) → is_prune k ≡ true → DisposerSpent k e → e ≡ Held
prune_held kind.Dispose e t p = absurd (false≢true t)
prune_held kind.Prune e t p = p
prune_held kind.Own e t p = p
prune_held kind.Dep e t p = p

pub one_disposer : (hs : List Handler) → AllOf (Stands (EndsBy Live)) hs → length (places_from 0 disposes hs) ≡ once_if (has_kind is_dispose hs)
one_disposer = one_held is_dispose (EndsBy Live) disposers_displace (λ k e t p. p) 0

-- once the disposer was run
pub one_prune_handler : (hs : List Handler) → AllOf (Stands DisposerSpent) hs → length (places_from 0 prunes hs) ≡ once_if (has_kind is_prune hs)
one_prune_handler = one_held is_prune DisposerSpent prunes_displace prune_held 0

-- Runs at the places of disposers and of prune handlers.

abbrev pub runs_at : (FaultPlace → Bool) → List Word → ℕ
runs_at test ws = count_of (is_use_at test) ws

module _ (test : FaultPlace → Bool) where
  run_adds : (at : FaultPlace) (of : Handler → Bool) (x : Shape) (ws : List Word) → runs_at test (ws ++ run_words at of x) ≡ runs_at test ws + (if test at then length (places_from 0 of x.handlers) else 0)
  run_adds at of x ws = count_then (is_use_at test) ws (run_words at of x) ∙ ap (λ m. runs_at test ws + m) (uses_used_at x.name at test (places_from 0 of x.handlers))

  pub run_adds_none : (at : FaultPlace) → test at ≡ false → (of : Handler → Bool) (x : Shape) (ws : List Word) → runs_at test (ws ++ run_words at of x) ≡ runs_at test ws
  run_adds_none at e of x ws = run_adds at of x ws ∙ ap (λ b. runs_at test ws + (if b then length (places_from 0 of x.handlers) else 0)) e ∙ omega arith

  pub drop_adds_none : (of : Handler → Bool) (x : Shape) (ws : List Word) → runs_at test (ws ++ drop_words of x) ≡ runs_at test ws
  drop_adds_none of x ws = omega (arith, count_then (is_use_at test) ws (drop_words of x), uses_lost_at test (places_from 0 of x.handlers))

  pub end_adds_none : (fate : InstanceFate) (ws : List Word) → runs_at test (ws ++ fell fate ∷ []) ≡ runs_at test ws
  end_adds_none fate ws = omega (arith, count_then (is_use_at test) ws (fell fate ∷ []))

  pub gain_adds_none : (h : Handler) (places : List ℕ) (ws : List Word) → runs_at test (ws ++ (map lost places ++ gained h ∷ [])) ≡ runs_at test ws
  gain_adds_none h places ws = omega (arith, count_then (is_use_at test) ws (map lost places ++ gained h ∷ []), count_then (is_use_at test) (map lost places) (gained h ∷ []), uses_lost_at test places)

-- so often disposers and prune handlers of an instance were run
pub record Once (x : Shape) (ws : List Word) : Type 0 where
  pub disposals : runs_at is_dispose_place ws ≡ once_if (is_disposed x.fate && has_kind is_dispose x.handlers)
  pub prunings : runs_at is_prune_place ws ≡ once_if (is_pruned x.fate && has_kind is_prune x.handlers)

same_kinds : (b : Bool) (target : HandlerKind → Bool) (test : Handler → Bool) (end : Handler → HandlerEnd) (hs : List Handler) → once_if (b && has_kind target hs) ≡ once_if (b && has_kind target (map (changed test end) hs))
same_kinds b target test end hs = ap (λ c. once_if (b && c)) (sym (kinds_stay target test end hs))

once_run : (at : FaultPlace) → is_dispose_place at ≡ false → is_prune_place at ≡ false → (test : Handler → Bool) (x : Shape) (ws : List Word) → Once x ws → Once (run_shape test x) (ws ++ run_words at test x)
once_run at d p test x ws o = record {
  disposals = run_adds_none is_dispose_place at d test x ws ∙ o.disposals ∙ same_kinds (is_disposed x.fate) is_dispose test (λ h. end_after h.kind) x.handlers;
  prunings = run_adds_none is_prune_place at p test x ws ∙ o.prunings ∙ same_kinds (is_pruned x.fate) is_prune test (λ h. end_after h.kind) x.handlers;
}

once_drop : (test : Handler → Bool) (x : Shape) (ws : List Word) → Once x ws → Once (drop_shape test x) (ws ++ drop_words test x)
once_drop test x ws o = record {
  disposals = drop_adds_none is_dispose_place test x ws ∙ o.disposals ∙ same_kinds (is_disposed x.fate) is_dispose test (λ h. Dropped) x.handlers;
  prunings = drop_adds_none is_prune_place test x ws ∙ o.prunings ∙ same_kinds (is_pruned x.fate) is_prune test (λ h. Dropped) x.handlers;
}

-- of a live instance neither was run
none_disposed : (x : Shape) (ws : List Word) → is_live_fate x.fate ≡ true → Once x ws → runs_at is_dispose_place ws ≡ 0
none_disposed x ws l o = o.disposals ∙ ap (λ fate. once_if (is_disposed fate && has_kind is_dispose x.handlers)) (live_fate x.fate l)

pub none_pruned : (x : Shape) (ws : List Word) → is_live_fate x.fate ≡ true → Once x ws → runs_at is_prune_place ws ≡ 0
none_pruned x ws l o = o.prunings ∙ ap (λ fate. once_if (is_pruned fate && has_kind is_prune x.handlers)) (live_fate x.fate l)

once_disposed : (x : Shape) (ws : List Word) → is_live_fate x.fate ≡ true → WholeEnds x ws → Once x ws → runs_at is_dispose_place (ws ++ run_words place.Dispose disposes x) ≡ once_if (has_kind is_dispose x.handlers)
once_disposed x ws l w o = omega (arith, run_adds is_dispose_place place.Dispose disposes x ws, none_disposed x ws l o, one_disposer x.handlers (live_stands x l w))

replaced_once : (m : ℕ) (x : Shape) (ws : List Word) → is_live_fate x.fate ≡ true → WholeEnds x ws → Once x ws
    → Once (end_shape (Replaced m) (drop_shape is_left_behind (run_shape disposes x))) (((ws ++ run_words place.Dispose disposes x) ++ drop_words is_left_behind (run_shape disposes x)) ++ fell (Replaced m) ∷ [])
replaced_once m x ws l w o =
    let y : Shape = run_shape disposes x in
    let first : List Word = ws ++ run_words place.Dispose disposes x in
    let second : List Word = first ++ drop_words is_left_behind y in
    record {
      disposals = end_adds_none is_dispose_place (Replaced m) second ∙ drop_adds_none is_dispose_place is_left_behind y first ∙ once_disposed x ws l w o
          ∙ same_kinds true is_dispose disposes (λ h. end_after h.kind) x.handlers ∙ same_kinds true is_dispose is_left_behind (λ h. Dropped) y.handlers;
      prunings = end_adds_none is_prune_place (Replaced m) second ∙ drop_adds_none is_prune_place is_left_behind y first ∙ run_adds_none is_prune_place place.Dispose refl disposes x ws ∙ none_pruned x ws l o;
    }

pruned_once : (x : Shape) (ws : List Word) → is_live_fate x.fate ≡ true → WholeEnds x ws → Once x ws
    → Once (end_shape Pruned (drop_shape is_held (run_shape prunes (run_shape disposes x)))) ((((ws ++ run_words place.Dispose disposes x) ++ run_words place.Prune prunes (run_shape disposes x)) ++ drop_words is_held (run_shape prunes (run_shape disposes x))) ++ fell Pruned ∷ [])
pruned_once x ws l w o =
    let y : Shape = run_shape disposes x in
    let z : Shape = run_shape prunes y in
    let first : List Word = ws ++ run_words place.Dispose disposes x in
    let second : List Word = first ++ run_words place.Prune prunes y in
    let third : List Word = second ++ drop_words is_held z in
    record {
      disposals = end_adds_none is_dispose_place Pruned third ∙ drop_adds_none is_dispose_place is_held z second ∙ run_adds_none is_dispose_place place.Prune refl prunes y first ∙ once_disposed x ws l w o
          ∙ same_kinds true is_dispose disposes (λ h. end_after h.kind) x.handlers ∙ same_kinds true is_dispose prunes (λ h. end_after h.kind) y.handlers ∙ same_kinds true is_dispose is_held (λ h. Dropped) z.handlers;
      prunings = end_adds_none is_prune_place Pruned third ∙ drop_adds_none is_prune_place is_held z second
          ∙ omega (arith, run_adds is_prune_place place.Prune prunes y first, run_adds_none is_prune_place place.Dispose refl disposes x ws, none_pruned x ws l o, one_prune_handler y.handlers (disposing x.handlers (live_stands x l w)))
          ∙ same_kinds true is_prune prunes (λ h. end_after h.kind) y.handlers ∙ same_kinds true is_prune is_held (λ h. Dropped) z.handlers;
    }

-- Lives.

abbrev pub YoungOnce : List Handler → List Word → Type 0
YoungOnce hs ws = YoungEnds hs ws × (runs_at is_dispose_place ws ≡ 0) × (runs_at is_prune_place ws ≡ 0)

abbrev pub WholeOnce : Shape → List Word → Type 0
WholeOnce x ws = WholeEnds x ws × Once x ws

abbrev pub AsideOnce : Shape → List Word → Type 0
AsideOnce x ws = AsideEnds x ws × Once x ws

pub once_life : IsLife YoungOnce WholeOnce AsideOnce
once_life = record {
  unregistered = (tt, refl, refl);
  registered = λ hs ws h held y.
      let places : List ℕ = places_from 0 (is_displaced_by h.kind) hs in
      (ends_life.registered hs ws h held y.0, gain_adds_none is_dispose_place h places ws ∙ y.1, gain_adds_none is_prune_place h places ws ∙ y.2);
  made = λ n hs ws y. (ends_life.made n hs ws y.0, record { disposals = y.1; prunings = y.2 });
  reloaded = λ x ws l w.
      let dropped : List Word = ws ++ drop_words is_held x in (
        ends_life.reloaded x ws l w.0,
        record {
          disposals = end_adds_none is_dispose_place Reloaded dropped ∙ drop_adds_none is_dispose_place is_held x ws ∙ none_disposed x ws l w.1;
          prunings = end_adds_none is_prune_place Reloaded dropped ∙ drop_adds_none is_prune_place is_held x ws ∙ none_pruned x ws l w.1;
        },
      );
  replaced = λ m x ws l w. (ends_life.replaced m x ws l w.0, replaced_once m x ws l w.0 w.1);
  own = λ x ws a. (ends_life.own x ws a.0, once_run place.Own refl refl accepts_own x ws a.1);
  dep_aside = λ n x ws a. (ends_life.dep_aside n x ws a.0, once_run place.Dep refl refl (accepts_dep n) x ws a.1);
  dep = λ n x ws w. (ends_life.dep n x ws w.0, once_run place.Dep refl refl (accepts_dep n) x ws w.1);
  laid = λ x ws a. (ends_life.laid x ws a.0, once_drop is_held x ws a.1);
  pruned = λ x ws l w. (ends_life.pruned x ws l w.0, pruned_once x ws l w.0 w.1);
}

module _ (language : Language) (opening : Opening) (past : Past) where
  pub are_disposed_once : AreDisposedOnce (runtime_after language opening past) (journal_of language opening past)
  are_disposed_once i c = uses_are i.number is_dispose_place (journal_of language opening past) ∙ (of_each YoungOnce WholeOnce AsideOnce once_life language opening past i c).1.disposals

  pub are_pruned_once : ArePrunedOnce (runtime_after language opening past) (journal_of language opening past)
  are_pruned_once i c = uses_are i.number is_prune_place (journal_of language opening past) ∙ (of_each YoungOnce WholeOnce AsideOnce once_life language opening past i c).1.prunings
