-- The journal tells of each handler once that it was registered, and how it ended: a handler that is run was
-- held, and one that is dropped was held, so each is told of as far as it came.
use Rattle.std.proofs.Common.{◌≡◌, ◌⊎◌, inl, inr, ℕ, zero, suc, ◌+◌, Bool, true, false, List, [], ◌∷◌, ◌++◌, refl, ap, sym, ◌∙◌, arith}
use Rattle.std.specs.Prelude.{map, flat_map, Option, Some, None, option_map, slice_get, if◌then◌else◌}
use Rattle.std.proofs.Math.Path.{subst}
use Rattle.std.proofs.lemmas.Bool.{false≢true}
use Rattle.std.proofs.lemmas.Grind.{flat_map-append}
use Rattle.std.proofs.lemmas.List.{append_assoc, append-nil, map-append}
use Rattle.std.proofs.lemmas.Option.{slice_get-map}
use Rattle.hmr_types.specs.declared.words.HandlerKind.{HandlerKind}
use Rattle.hmr_types.specs.declared.words.HandlerKind.TheVariants as kind
use Rattle.output_lines.specs.declared.words.HandlerEnd.{HandlerEnd}
use Rattle.output_lines.specs.declared.words.HandlerEnd.TheVariants.{Held, Spent, Dropped}
use Rattle.output_lines.specs.declared.words.FaultPlace.{FaultPlace}
use Rattle.output_lines.specs.declared.words.InstanceFate.{InstanceFate}
use Rattle.core_model.specs.Names.{Name}
use Rattle.client_model.specs.Instance.{Handler, is_held_end, ended_as, with_dropped, places_from}
use Rattle.client_model.specs.Running.{end_after}
use Rattle.client_model.specs.Making.{is_displaced_by}
use Rattle.journal_laws.specs.Counts.{IsToldAs}
use Rattle.journal_laws.proofs.HandlerShapes.{Word, gained, used, lost, fell}
use Rattle.journal_laws.proofs.HandlerActs.{run_in}
use Rattle.journal_laws.proofs.HandlerChanges.{OnlyHeld, held_displaced, changed}
use Rattle.journal_laws.proofs.CountsWords.{is_use, is_loss, gain, count_of, count_then}
use Rattle.journal_laws.proofs.CountsSteps.{uses_used, losses_used, gains_used, uses_lost, losses_lost, gains_lost, passes, times_at}

-- a handler that isn't there was neither run nor dropped
abbrev pub ToldAt : Option Handler → ℕ → ℕ → Type 0
ToldAt None runs drops = (runs ≡ 0) × (drops ≡ 0)
ToldAt (Some h) runs drops = IsToldAs h.end h.kind runs drops

pub record Told (hs : List Handler) (ws : List Word) : Type 0 where
  pub registered : flat_map gain ws ≡ map (ended_as Held) hs
  pub told : (spot : ℕ) → ToldAt (slice_get hs spot) (count_of (is_use spot) ws) (count_of (is_loss spot) ws)

-- Handlers that change are registered as before.

module _ (test : Handler → Bool) (end : Handler → HandlerEnd) where
  held_same : (hs : List Handler) → map (ended_as Held) (map (changed test end) hs) ≡ map (ended_as Held) hs
  held_same [] = refl
  held_same (h ∷ hs) = ap (λ g. g ∷ map (ended_as Held) (map (changed test end) hs)) (by (test h)) ∙ ap (λ gs. ended_as Held h ∷ gs) (held_same hs)
    where
      by : (b : Bool) → ended_as Held (if b then ended_as (end h) h else h) ≡ ended_as Held h
      by true = refl
      by false = refl

-- A handler that is held, and is run or dropped.

held_now : (e : HandlerEnd) → is_held_end e ≡ true → e ≡ Held
held_now Held t = refl
held_now Spent t = absurd (false≢true t)
held_now Dropped t = absurd (false≢true t)

run_once : (k : HandlerKind) (runs drops : ℕ) → IsToldAs Held k runs drops → IsToldAs (end_after k) k (runs + 1) (drops + 0)
run_once kind.Dispose runs drops t = (omega (arith, t.0), omega (arith, t.1 refl), refl)
run_once kind.Prune runs drops t = (omega (arith, t.0), omega (arith, t.1 refl), refl)
run_once kind.Own runs drops t = (omega (arith, t.0), omega (arith, t.1 refl), refl)
run_once kind.Dep runs drops t = (omega (arith, t.0), λ e. absurd (false≢true (sym e)))

drop_once : (k : HandlerKind) (runs drops : ℕ) → IsToldAs Held k runs drops → IsToldAs Dropped k (runs + 0) (drops + 1)
drop_once k runs drops t = (omega (arith, t.0), λ e. omega (arith, t.1 e))

as_before : (o : Option Handler) (runs drops : ℕ) → ToldAt o runs drops → ToldAt o (runs + 0) (drops + 0)
as_before o runs drops t = subst (λ a. ToldAt o a (drops + 0)) (omega arith) (subst (ToldAt o runs) (omega arith) t)

module _ (test : Handler → Bool) (only : OnlyHeld test) where
  was_held : (h : Handler) → test h ≡ true → h.end ≡ Held
  was_held h t = held_now h.end (only h t)

  told_run_at : (o : Option Handler) (runs drops : ℕ) → ToldAt o runs drops → ToldAt (option_map (changed test (λ h. end_after h.kind)) o) (runs + passes test o) (drops + 0)
  told_run_at None runs drops t = (omega (arith, t.0), omega (arith, t.1))
  told_run_at (Some h) runs drops t = by (test h) refl
    where
      by : (b : Bool) → test h ≡ b → IsToldAs (if b then ended_as (end_after h.kind) h else h).end (if b then ended_as (end_after h.kind) h else h).kind (runs + (if b then 1 else 0)) (drops + 0)
      by true e = run_once h.kind runs drops (subst (λ end. IsToldAs end h.kind runs drops) (was_held h e) t)
      by false e = as_before (Some h) runs drops t

  told_drop_at : (o : Option Handler) (runs drops : ℕ) → ToldAt o runs drops → ToldAt (option_map (changed test (λ h. Dropped)) o) (runs + 0) (drops + passes test o)
  told_drop_at None runs drops t = (omega (arith, t.0), omega (arith, t.1))
  told_drop_at (Some h) runs drops t = by (test h) refl
    where
      by : (b : Bool) → test h ≡ b → IsToldAs (if b then ended_as Dropped h else h).end (if b then ended_as Dropped h else h).kind (runs + 0) (drops + (if b then 1 else 0))
      by true e = drop_once h.kind runs drops (subst (λ end. IsToldAs end h.kind runs drops) (was_held h e) t)
      by false e = as_before (Some h) runs drops t

  pub told_run : (n : Name) (at : FaultPlace) (hs : List Handler) (ws : List Word) → Told hs ws → Told (run_in test hs) (ws ++ map (λ p. used p n at) (places_from 0 test hs))
  told_run n at hs ws t =
      let vs : List Word = map (λ p. used p n at) (places_from 0 test hs) in
      record {
        registered = flat_map-append gain ws vs ∙ ap (λ gs. flat_map gain ws ++ gs) (gains_used n at (places_from 0 test hs)) ∙ append-nil (flat_map gain ws) ∙ t.registered ∙ sym (held_same test (λ h. end_after h.kind) hs);
        told = λ spot.
            subst (λ o. ToldAt o (count_of (is_use spot) (ws ++ vs)) (count_of (is_loss spot) (ws ++ vs))) (sym (slice_get-map (changed test (λ h. end_after h.kind)) hs spot))
            (subst (λ a. ToldAt (option_map (changed test (λ h. end_after h.kind)) (slice_get hs spot)) a (count_of (is_loss spot) (ws ++ vs))) (sym (count_then (is_use spot) ws vs ∙ ap (λ m. count_of (is_use spot) ws + m) (uses_used n at spot (places_from 0 test hs) ∙ times_at test spot hs)))
            (subst (ToldAt (option_map (changed test (λ h. end_after h.kind)) (slice_get hs spot)) (count_of (is_use spot) ws + passes test (slice_get hs spot))) (sym (count_then (is_loss spot) ws vs ∙ ap (λ m. count_of (is_loss spot) ws + m) (losses_used n at spot (places_from 0 test hs))))
            (told_run_at (slice_get hs spot) (count_of (is_use spot) ws) (count_of (is_loss spot) ws) (t.told spot))));
      }

  pub told_drop : (hs : List Handler) (ws : List Word) → Told hs ws → Told (with_dropped test hs) (ws ++ map lost (places_from 0 test hs))
  told_drop hs ws t =
      let vs : List Word = map lost (places_from 0 test hs) in
      record {
        registered = flat_map-append gain ws vs ∙ ap (λ gs. flat_map gain ws ++ gs) (gains_lost (places_from 0 test hs)) ∙ append-nil (flat_map gain ws) ∙ t.registered ∙ sym (held_same test (λ h. Dropped) hs);
        told = λ spot.
            subst (λ o. ToldAt o (count_of (is_use spot) (ws ++ vs)) (count_of (is_loss spot) (ws ++ vs))) (sym (slice_get-map (changed test (λ h. Dropped)) hs spot))
            (subst (λ a. ToldAt (option_map (changed test (λ h. Dropped)) (slice_get hs spot)) a (count_of (is_loss spot) (ws ++ vs))) (sym (count_then (is_use spot) ws vs ∙ ap (λ m. count_of (is_use spot) ws + m) (uses_lost spot (places_from 0 test hs))))
            (subst (ToldAt (option_map (changed test (λ h. Dropped)) (slice_get hs spot)) (count_of (is_use spot) ws + 0)) (sym (count_then (is_loss spot) ws vs ∙ ap (λ m. count_of (is_loss spot) ws + m) (losses_lost spot (places_from 0 test hs) ∙ times_at test spot hs)))
            (told_drop_at (slice_get hs spot) (count_of (is_use spot) ws) (count_of (is_loss spot) ws) (t.told spot))));
      }

-- Fates, and new handlers.

pub told_end : (fate : InstanceFate) (hs : List Handler) (ws : List Word) → Told hs ws → Told hs (ws ++ fell fate ∷ [])
told_end fate hs ws t = record {
  registered = flat_map-append gain ws (fell fate ∷ []) ∙ append-nil (flat_map gain ws) ∙ t.registered;
  told = λ spot.
      subst (λ a. ToldAt (slice_get hs spot) a (count_of (is_loss spot) (ws ++ fell fate ∷ []))) (sym (count_then (is_use spot) ws (fell fate ∷ [])))
      (subst (ToldAt (slice_get hs spot) (count_of (is_use spot) ws + 0)) (sym (count_then (is_loss spot) ws (fell fate ∷ [])))
      (as_before (slice_get hs spot) (count_of (is_use spot) ws) (count_of (is_loss spot) ws) (t.told spot)));
}

last_at : (hs : List Handler) (h : Handler) (spot : ℕ) → (slice_get (hs ++ h ∷ []) spot ≡ slice_get hs spot) ⊎ ((slice_get hs spot ≡ None) × (slice_get (hs ++ h ∷ []) spot ≡ Some h))
last_at [] h zero = inr (refl, refl)
last_at [] h (suc spot) = inl refl
last_at (g ∷ hs) h zero = inl refl
last_at (g ∷ hs) h (suc spot) = last_at hs h spot

told_gain : (h : Handler) → h.end ≡ Held → (hs : List Handler) (ws : List Word) → Told hs ws → Told (hs ++ h ∷ []) (ws ++ gained h ∷ [])
told_gain h held hs ws t = record {
  registered = flat_map-append gain ws (gained h ∷ []) ∙ ap (λ gs. gs ++ h ∷ []) t.registered ∙ ap (λ e. map (ended_as Held) hs ++ ended_as e h ∷ []) held ∙ sym (map-append (ended_as Held) hs (h ∷ []));
  told = λ spot.
      subst (λ a. ToldAt (slice_get (hs ++ h ∷ []) spot) a (count_of (is_loss spot) (ws ++ gained h ∷ []))) (sym (count_then (is_use spot) ws (gained h ∷ [])))
      (subst (ToldAt (slice_get (hs ++ h ∷ []) spot) (count_of (is_use spot) ws + 0)) (sym (count_then (is_loss spot) ws (gained h ∷ [])))
      (by (slice_get hs spot) (slice_get (hs ++ h ∷ []) spot) (count_of (is_use spot) ws) (count_of (is_loss spot) ws) (last_at hs h spot) (t.told spot)));
}
  where
    by : (o q : Option Handler) (runs drops : ℕ) → (q ≡ o) ⊎ ((o ≡ None) × (q ≡ Some h)) → ToldAt o runs drops → ToldAt q (runs + 0) (drops + 0)
    by o q runs drops (inl same) t = as_before q runs drops (subst (λ p. ToldAt p runs drops) (sym same) t)
    by o q runs drops (inr new) t =
        let none : ToldAt None runs drops = subst (λ p. ToldAt p runs drops) new.0 t in
        subst (λ p. ToldAt p (runs + 0) (drops + 0)) (sym new.1) (subst (λ e. IsToldAs e h.kind (runs + 0) (drops + 0)) (sym held) (omega (arith, none.1), λ e. omega (arith, none.0)))

pub told_registered : (h : Handler) → h.end ≡ Held → (hs : List Handler) (ws : List Word) → Told hs ws → Told (with_dropped (is_displaced_by h.kind) hs ++ h ∷ []) (ws ++ (map lost (places_from 0 (is_displaced_by h.kind) hs) ++ gained h ∷ []))
told_registered h held hs ws t =
    let left : List Word = map lost (places_from 0 (is_displaced_by h.kind) hs) in
    subst (Told (with_dropped (is_displaced_by h.kind) hs ++ h ∷ [])) (append_assoc ws left (gained h ∷ []))
    (told_gain h held (with_dropped (is_displaced_by h.kind) hs) (ws ++ left) (told_drop (is_displaced_by h.kind) (held_displaced h.kind) hs ws t))
