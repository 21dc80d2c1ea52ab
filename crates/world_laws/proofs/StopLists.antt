-- A client is stale exactly at the edges at which applied updates stopped, for every past
-- after each part of which its page was as the server keeps it; and each of these edges accepted.
use Rattle.std.proofs.Common.{◌≡◌, ◌↔◌, ◌⊎◌, inl, inr, ℕ, true, false, [], ◌∷◌, refl, ap, sym, ◌∙◌}
use Rattle.std.specs.Prelude.{Option, Some, None, is_some, ⊤}
use Rattle.std.proofs.Math.Path.{subst}
use Rattle.std.proofs.lemmas.Bool.{false≢true}
use Rattle.std.proofs.lemmas.Option.{same_Some}
use Rattle.core_model.specs.Names.{Name, has}
use Rattle.core_model.specs.View.{accepts, self_accepts, IsDropped}
use Rattle.core_model.specs.Page.{met_of}
use Rattle.client_model.specs.Language.{Language}
use Rattle.client_model.specs.Instance.{Instance, live_at}
use Rattle.client_model.specs.Runtime.{Runtime, Opening}
use Rattle.client_model.specs.Linking.{number_in}
use Rattle.client_model.specs.Past.{Incoming, Past, runtime_after}
use Rattle.client_model.specs.Stale.{live_number, IsStale, StopsAt, Stopped}
use Rattle.world_laws.specs.Stops.{IsStopped, IsAccepted, IsLeftBehind, AreAccepted}
use Rattle.world_laws.proofs.Frames.{frames}
use Rattle.world_laws.proofs.Holding.{HoldsOf}
use Rattle.world_laws.proofs.Messages.{Quiet, Applies, GoesTo, met_goes, run_holds}
use Rattle.world_laws.proofs.Stopping.{IsClosed, IsSane, PlanSpread, Stales, Next, live_some, live_in_page, importer_in, no_stop, quiet_stales, applied_stales, applied_accepts, unmet_dropped}

-- this holds after each thing that came
abbrev pub AtEach : (Runtime → Type 0) → Language → Opening → Past → Type 0
AtEach P language opening [] = ⊤
AtEach P language opening (came ∷ past) = P (runtime_after language opening (came ∷ past)) × AtEach P language opening past

module _ (language : Language) (opening : Opening) where
  closed_now : (past : Past) → AtEach (λ r. IsSane r.page) language opening past → IsClosed (runtime_after language opening past).page.view
  closed_now [] h = λ b x i. absurd (false≢true i)
  closed_now (came ∷ past) h = h.0.closed

  stales_by : (r s : Runtime) (Past : ℕ → Name → Name → Type 0) → HoldsOf r → GoesTo language r s → Stales r Past → IsClosed r.page.view → IsClosed s.page.view → Stales s (Next r s Past)
  stales_by r s Past old g t was_closed closed = by g.moves
    where
      by : Quiet r.page.view s.page.view (frames r.instances) (frames s.instances) ⊎ Applies language r s.page (frames s.instances) → Stales s (Next r s Past)
      by (inl q) = quiet_stales r s Past q t g.holds closed
      by (inr a) = applied_stales r s Past a t old g.holds was_closed closed

  run_stales : (past : Past) → AtEach (λ r. IsSane r.page) language opening past → Stales (runtime_after language opening past) (Stopped language opening past)
  run_stales [] h = record { below = λ k b x s. absurd s; exact = λ k b x i. absurd (false≢true i) }
  run_stales (came ∷ past) h = stales_by (runtime_after language opening past) (runtime_after language opening (came ∷ past)) (Stopped language opening past) (run_holds language opening past) (met_goes language (runtime_after language opening past) came (run_holds language opening past)) (run_stales past h.1) (closed_now past h.1) h.0.closed

  accepted_now : (past : Past) (came : Incoming) → AtEach (λ r. IsSane r.page) language opening (came ∷ past) → PlanSpread (runtime_after language opening past).page.plan (runtime_after language opening past).page.view (runtime_after language opening past).page.forced → (k : ℕ) (b x : Name) → StopsAt (runtime_after language opening past) (runtime_after language opening (came ∷ past)) k b x → IsAccepted (runtime_after language opening past) b x
  accepted_now past came h spread k b x st q e met = by g.moves
    where
      g : GoesTo language (runtime_after language opening past) (runtime_after language opening (came ∷ past))
      g = met_goes language (runtime_after language opening past) came (run_holds language opening past)

      by : Quiet (runtime_after language opening past).page.view (runtime_after language opening (came ∷ past)).page.view (frames (runtime_after language opening past).instances) (frames (runtime_after language opening (came ∷ past)).instances) ⊎ Applies language (runtime_after language opening past) (runtime_after language opening (came ∷ past)).page (frames (runtime_after language opening (came ∷ past)).instances)
          → (accepts (runtime_after language opening past).page.view b x ≡ true) ⊎ ((self_accepts (runtime_after language opening past).page.view x ≡ true) × (has (runtime_after language opening past).page.forced x ≡ false))
      by (inl c) = absurd (no_stop (runtime_after language opening past) (runtime_after language opening (came ∷ past)) (Stopped language opening past) c (run_stales past h.1) g.holds h.0.closed k b x st)
      by (inr a) = applied_accepts (runtime_after language opening past) (runtime_after language opening (came ∷ past)) (Stopped language opening past) a (run_stales past h.1) (run_holds language opening past) g.holds (closed_now past h.1) h.0.closed
          (subst (λ o. PlanSpread o (runtime_after language opening past).page.view (runtime_after language opening past).page.forced) a.plan_is spread) k b x st
          (subst (λ z. has (met_of (runtime_after language opening past).roots z (runtime_after language opening past).page.view) b ≡ true) (same_Some q a.plan (sym e ∙ a.plan_is)) met)

  left_now : (past : Past) (came : Incoming) → AtEach (λ r. IsSane r.page) language opening (came ∷ past) → (k : ℕ) (b x : Name) → StopsAt (runtime_after language opening past) (runtime_after language opening (came ∷ past)) k b x → IsLeftBehind (runtime_after language opening past) (runtime_after language opening (came ∷ past)) b
  left_now past came h k b x st q e unmet = by g.moves
    where
      g : GoesTo language (runtime_after language opening past) (runtime_after language opening (came ∷ past))
      g = met_goes language (runtime_after language opening past) came (run_holds language opening past)

      by : Quiet (runtime_after language opening past).page.view (runtime_after language opening (came ∷ past)).page.view (frames (runtime_after language opening past).instances) (frames (runtime_after language opening (came ∷ past)).instances) ⊎ Applies language (runtime_after language opening past) (runtime_after language opening (came ∷ past)).page (frames (runtime_after language opening (came ∷ past)).instances)
          → IsDropped (runtime_after language opening (came ∷ past)).page.view (runtime_after language opening past).roots b
      by (inl c) = absurd (no_stop (runtime_after language opening past) (runtime_after language opening (came ∷ past)) (Stopped language opening past) c (run_stales past h.1) g.holds h.0.closed k b x st)
      by (inr a) = unmet_dropped (runtime_after language opening past) (runtime_after language opening (came ∷ past)) (Stopped language opening past) a (run_stales past h.1) (run_holds language opening past) g.holds (closed_now past h.1) h.0.closed b
          (sym (g.holds.live b) ∙ sym (live_some (runtime_after language opening (came ∷ past)) b) ∙ ap is_some st.is)
          (subst (λ z. has (met_of (runtime_after language opening past).roots z (runtime_after language opening past).page.view) b ≡ false) (same_Some q a.plan (sym e ∙ a.plan_is)) unmet)

  spread_now : (past : Past) → AtEach (λ r. IsSane r.page) language opening past → PlanSpread (runtime_after language opening past).page.plan (runtime_after language opening past).page.view (runtime_after language opening past).page.forced
  spread_now [] h = tt
  spread_now (came ∷ past) h = h.0.spread

  -- each stop was at an accepted edge
  pub stops_are_accepted : (past : Past) → AtEach (λ r. IsSane r.page) language opening past → AreAccepted language opening past
  stops_are_accepted [] h = tt
  stops_are_accepted (came ∷ past) h = (λ k b x st. (accepted_now past came h (spread_now past h.1) k b x st, left_now past came h k b x st), stops_are_accepted past h.1)

  number_there : (o : Option ℕ) → is_some o ≡ true → (k : ℕ) × (o ≡ Some k)
  number_there None e = absurd (false≢true e)
  number_there (Some k) e = (k, refl)

  -- stale edges are those at which updates stopped
  pub stale_are_stopped : (past : Past) → AtEach (λ r. IsSane r.page) language opening past → (b x : Name) → IsStale (runtime_after language opening past) b x ↔ IsStopped language opening past b x
  stale_are_stopped past h b x = (
    (λ s.
        let r : Runtime = runtime_after language opening past in
        let n = number_there (live_number r b) (live_in_page r (run_holds language opening past) b (importer_in r.page.view b x s.importing)) in
        record { number = n.0; live = n.1; importing = s.importing; stopped = ((run_stales past h).exact n.0 b x s.importing n.1).0 s.older }),
    (λ s. record { live = there (live_at (runtime_after language opening past).instances b) (ap is_some s.live); importing = s.importing; older = ((run_stales past h).exact s.number b x s.importing s.live).1 s.stopped }),
  )
    where
      there : (o : Option Instance) → is_some (number_in o) ≡ true → is_some o ≡ true
      there None e = e
      there (Some i) e = refl
