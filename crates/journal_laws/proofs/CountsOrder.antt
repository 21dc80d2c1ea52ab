-- No disposer of an instance is run once a prune handler of it was; and each prune handler is used by the
-- fate of its instance.
use Rattle.std.proofs.Common.{◌≡◌, ℕ, zero, suc, ◌+◌, Bool, true, false, List, [], ◌∷◌, ◌++◌, length, refl, ap, sym, ◌∙◌, arith}
use Rattle.std.specs.Prelude.{map, cond, drop, slice_get, Option, Some, None, ⊤, if◌then◌else◌}
use Rattle.std.proofs.Math.Path.{subst}
use Rattle.std.proofs.lemmas.Bool.{false≢true}
use Rattle.std.proofs.lemmas.Option.{same_Some}
use Rattle.hmr_types.specs.declared.words.HandlerKind.{HandlerKind}
use Rattle.hmr_types.specs.declared.words.HandlerKind.TheVariants as kind
use Rattle.output_lines.specs.declared.words.HandlerEnd.{HandlerEnd}
use Rattle.output_lines.specs.declared.words.HandlerEnd.TheVariants.{Dropped}
use Rattle.output_lines.specs.declared.words.FaultPlace.TheVariants as place
use Rattle.output_lines.specs.declared.words.InstanceFate.{InstanceFate}
use Rattle.output_lines.specs.declared.words.InstanceFate.TheVariants.{Live, Replaced, Pruned, Reloaded}
use Rattle.client_model.specs.Language.{Language}
use Rattle.client_model.specs.Instance.{Handler, is_live_fate, is_held, is_prune, disposes, prunes, accepts_own, accepts_dep, places_from}
use Rattle.client_model.specs.Making.{is_displaced_by}
use Rattle.client_model.specs.Applying.{is_left_behind}
use Rattle.client_model.specs.Journal.{Happening, Journal, ran}
use Rattle.client_model.specs.Runtime.{Opening}
use Rattle.client_model.specs.Past.{Past, runtime_after, journal_of}
use Rattle.journal_laws.specs.Runs.{OfEachRun}
use Rattle.journal_laws.specs.Counts.{IsToldAs, runs_of, drops_of, is_dispose_place, is_prune_place}
use Rattle.journal_laws.specs.Ends.{is_displaced, EndsBy, HandlerEnds, HandlersEnd}
use Rattle.journal_laws.specs.Lives.{HeldIsUsed, IsUsed, HeldPruneHandlersRun, DisposersRunFirst}
use Rattle.journal_laws.proofs.HandlerShapes.{Shape, Word, gained, used, lost, fell, words, words_then, itself, seen, At}
use Rattle.journal_laws.proofs.HandlerActs.{run_shape, run_words, drop_words}
use Rattle.journal_laws.proofs.HandlerLives.{IsLife}
use Rattle.journal_laws.proofs.HandlerMessages.{run_lives}
use Rattle.journal_laws.proofs.HandlerEnds.{all_end}
use Rattle.journal_laws.proofs.CountsUsed.{are_told}
use Rattle.journal_laws.proofs.CountsWords.{is_use_at, count_of, count_then, uses_are}
use Rattle.journal_laws.proofs.CountsOnce.{runs_at, run_adds_none, drop_adds_none, end_adds_none, gain_adds_none, none_pruned, YoungOnce, WholeOnce, AsideOnce, once_life}

-- The order of what is told of one instance.

-- behind the run of a prune handler no disposer is run
abbrev Behind : Word → List Word → Type 0
Behind w ws = is_use_at is_prune_place w ≡ true → runs_at is_dispose_place ws ≡ 0

abbrev InOrder : List Word → Type 0
InOrder [] = ⊤
InOrder (w ∷ ws) = Behind w ws × InOrder ws

order_at : (vs : List Word) (w : Word) (ws : List Word) → InOrder (vs ++ w ∷ ws) → Behind w ws
order_at [] w ws o = o.0
order_at (v ∷ vs) w ws o = order_at vs w ws o.1

-- words that tell of no disposer's run may come behind
calm_order : (ws : List Word) → runs_at is_dispose_place ws ≡ 0 → InOrder ws
calm_order [] e = tt
calm_order (w ∷ ws) e =
    let rest : runs_at is_dispose_place ws ≡ 0 = omega (
      arith,
      e,
      count_then (is_use_at is_dispose_place)
          (w ∷ []) ws,
    ) in
    ((λ t. rest), calm_order ws rest)

order_more : (vs ws : List Word) → InOrder vs → runs_at is_dispose_place ws ≡ 0 → InOrder (vs ++ ws)
order_more [] ws o e = calm_order ws e
order_more (v ∷ vs) ws o e = (
  (λ t. omega (arith, e, o.0 t, count_then (is_use_at is_dispose_place) vs ws)),
  order_more vs ws o.1 e,
)

order_then : (vs ws : List Word) → InOrder vs → runs_at is_dispose_place
    (vs ++ ws) ≡ runs_at is_dispose_place vs → InOrder (vs ++ ws)
order_then vs ws o e = order_more vs ws o (omega (arith, e, count_then (is_use_at is_dispose_place) vs ws))

-- and where no prune handler was run, there is nothing to be behind of
unpruned_word : (w : Word) (n m : ℕ) → count_of (is_use_at is_prune_place) (w ∷ []) + n ≡ 0
    → is_use_at is_prune_place w ≡ true → m ≡ 0
unpruned_word w n m e t =
    let one : 1 + n ≡ 0 = subst (λ b. length (cond b (w ∷ []) []) + n ≡ 0) t e in
    omega (arith, one)

unpruned_order : (ws : List Word) → runs_at is_prune_place ws ≡ 0 → InOrder ws
unpruned_order [] e = tt
unpruned_order (w ∷ ws) e =
    let parts : count_of (is_use_at is_prune_place) (w ∷ []) + runs_at is_prune_place ws ≡ 0 = sym (count_then
    (is_use_at is_prune_place) (w ∷ []) ws) ∙ e in (
      (λ t. unpruned_word w (runs_at is_prune_place ws)
          (runs_at is_dispose_place ws) parts t),
      unpruned_order ws (omega (arith, parts)),
    )

-- Lives.

abbrev YoungFirst : List Handler → List Word → Type 0
YoungFirst hs ws = YoungOnce hs ws × InOrder ws

abbrev WholeFirst : Shape → List Word → Type 0
WholeFirst x ws = WholeOnce x ws × InOrder ws

abbrev AsideFirst : Shape → List Word → Type 0
AsideFirst x ws = AsideOnce x ws × InOrder ws

-- the disposers of a live instance run, of which no prune handler was run
disposed_first : (x : Shape) (ws : List Word) → is_live_fate x.fate ≡ true → WholeOnce x ws
    → InOrder (ws ++ run_words place.Dispose disposes x)
disposed_first x ws l w = unpruned_order (ws ++ run_words place.Dispose disposes x)
    (run_adds_none is_prune_place place.Dispose refl disposes x ws ∙ none_pruned x ws l w.1)

first_life : IsLife YoungFirst WholeFirst AsideFirst
first_life = record {
  unregistered = (once_life.unregistered, tt);
  registered = λ hs ws h held y.
      let places : List ℕ = places_from 0 (is_displaced_by h.kind) hs in (
        once_life.registered hs ws h held y.0,
        order_then ws (map lost places ++ gained h ∷ []) y.1
            (gain_adds_none is_dispose_place h places ws),
      );
  made = λ n hs ws y. (once_life.made n hs ws y.0, y.1);
  reloaded = λ x ws l w.
      let dropped : List Word = ws ++ drop_words is_held x in (
        once_life.reloaded x ws l w.0,
        order_then dropped (fell Reloaded ∷ []) (order_then ws
            (drop_words is_held x) w.1 (drop_adds_none is_dispose_place is_held x ws))
            (end_adds_none is_dispose_place Reloaded dropped),
      );
  replaced = λ m x ws l w.
      let y : Shape = run_shape disposes x in
      let first : List Word = ws ++ run_words place.Dispose disposes x in
      let second : List Word = first ++ drop_words is_left_behind y in (
        once_life.replaced m x ws l w.0,
        order_then second (fell (Replaced m) ∷ []) (order_then first
            (drop_words is_left_behind y) (disposed_first x ws l w.0)
            (drop_adds_none is_dispose_place is_left_behind y first)) (end_adds_none is_dispose_place
            (Replaced m) second),
      );
  own = λ x ws a. (
    once_life.own x ws a.0,
    order_then ws (run_words place.Own accepts_own x) a.1
        (run_adds_none is_dispose_place place.Own refl accepts_own x ws),
  );
  dep_aside = λ n x ws a. (
    once_life.dep_aside n x ws a.0,
    order_then ws (run_words place.Dep
        (accepts_dep n) x) a.1 (run_adds_none is_dispose_place place.Dep refl (accepts_dep n) x ws),
  );
  dep = λ n x ws w. (
    once_life.dep n x ws w.0,
    order_then ws (run_words place.Dep (accepts_dep n) x) w.1
        (run_adds_none is_dispose_place place.Dep refl (accepts_dep n) x ws),
  );
  laid = λ x ws a. (
    once_life.laid x ws a.0,
    order_then ws (drop_words is_held x) a.1
        (drop_adds_none is_dispose_place is_held x ws),
  );
  pruned = λ x ws l w.
      let y : Shape = run_shape disposes x in
      let z : Shape = run_shape prunes y in
      let first : List Word = ws ++ run_words place.Dispose disposes x in
      let second : List Word = first ++ run_words place.Prune prunes y in
      let third : List Word = second ++ drop_words is_held z in
      let pruning : InOrder second = order_then first (run_words place.Prune prunes y)
      (disposed_first x ws l w.0) (run_adds_none is_dispose_place place.Prune refl prunes y first) in (
        once_life.pruned x ws l w.0,
        order_then third (fell Pruned ∷ []) (order_then second
            (drop_words is_held z) pruning (drop_adds_none is_dispose_place is_held z second))
            (end_adds_none is_dispose_place Pruned third),
      );
}

-- Prune handlers by the fate of the instance.

ends_at : (fate : InstanceFate) (hs : List Handler) (spot : ℕ) (h : Handler) → HandlersEnd fate hs
    → slice_get hs spot ≡ Some h → HandlerEnds (is_displaced h.kind (drop (suc spot) hs)) fate h
ends_at fate [] spot h ends e = cc
ends_at fate (g ∷ later) zero h ends e = subst (λ x. HandlerEnds (is_displaced x.kind later) fate x)
    (same_Some g h e) ends.0
ends_at fate (g ∷ later) (suc spot) h ends e = ends_at fate later spot h ends.1 e

prune_used : (fate : InstanceFate) (k : HandlerKind) (end : HandlerEnd) (runs drops : ℕ) → is_prune k ≡ true
    → EndsBy fate k end → IsToldAs end k runs drops → HeldIsUsed fate runs drops
prune_used fate kind.Dispose end runs drops t ends told = absurd (false≢true t)
prune_used fate kind.Own end runs drops t ends told = absurd (false≢true t)
prune_used fate kind.Dep end runs drops t ends told = absurd (false≢true t)
prune_used Live kind.Prune end runs drops t ends told = let q = subst
    (λ e. IsToldAs e kind.Prune runs drops) ends told in (q.1 refl, q.0)
prune_used (Replaced m) kind.Prune end runs drops t ends told = let q = subst
    (λ e. IsToldAs e kind.Prune runs drops) ends told in (q.1 refl, q.0)
prune_used Pruned kind.Prune end runs drops t ends told = let q = subst
    (λ e. IsToldAs e kind.Prune runs drops) ends told in (q.1, q.0)
prune_used Reloaded kind.Prune end runs drops t ends told = let q = subst
    (λ e. IsToldAs e kind.Prune runs drops) ends told in (q.1 refl, q.0)

displaced_used : (k : HandlerKind) (end : HandlerEnd) (runs drops : ℕ) → is_prune k ≡ true → end ≡ Dropped
    → IsToldAs end k runs drops → (runs ≡ 0) × (drops ≡ 1)
displaced_used kind.Dispose end runs drops t ends told = absurd (false≢true t)
displaced_used kind.Own end runs drops t ends told = absurd (false≢true t)
displaced_used kind.Dep end runs drops t ends told = absurd (false≢true t)
displaced_used kind.Prune end runs drops t ends told = let q = subst
    (λ e. IsToldAs e kind.Prune runs drops) ends told in (q.1 refl, q.0)

used_by : (displaced : Bool) (fate : InstanceFate) (h : Handler) (runs drops : ℕ) → is_prune h.kind ≡ true
    → HandlerEnds displaced fate h → IsToldAs h.end h.kind runs drops → IsUsed displaced fate runs drops
used_by true fate h runs drops t ends told = displaced_used h.kind h.end runs drops t ends told
used_by false fate h runs drops t ends told = prune_used fate h.kind h.end runs drops t ends told

module _ (language : Language) where
  pub held_prune_handlers_run : OfEachRun language HeldPruneHandlersRun
  held_prune_handlers_run opening past i c spot h e t =
      let journal : Journal = journal_of language opening past in
      used_by (is_displaced h.kind (drop (suc spot) i.handlers)) i.fate h (runs_of journal i.number spot)
      (drops_of journal i.number spot) t
      (ends_at i.fate i.handlers spot h (all_end language opening past i c) e)
      (are_told language opening past i c spot h e)

  -- the words of each number are in order
  in_order : (k : ℕ) (opening : Opening) (past : Past) → InOrder (words k (journal_of language opening past))
  in_order k opening past = by (seen (runtime_after language opening past).instances k)
      (run_lives YoungFirst WholeFirst AsideFirst first_life language k opening past)
    where
      by : (o : Option Shape) → At WholeFirst o (words k (journal_of language opening past))
          → InOrder (words k (journal_of language opening past))
      by None e = subst InOrder (sym e) tt
      by (Some x) w = w.1

  pub disposers_run_first : OfEachRun language DisposersRunFirst
  disposers_run_first opening past front back k spot n before left split =
      let word : Word = used spot n place.Prune in
      let last : Happening = ran k spot n place.Prune before left in
      let told : words k (journal_of language opening past) ≡ words k front ++ word ∷ words k back =
      ap (words k) split ∙ words_then k front (last ∷ back)
      ∙ ap (λ b. words k front ++ ((if b then word ∷ [] else []) ++ words k back)) (itself k) in
      uses_are k is_dispose_place back ∙ order_at (words k front) word (words k back) (subst InOrder told
      (in_order k opening past)) refl
