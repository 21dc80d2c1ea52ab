-- The log of a world goes on with its steps.
use Rattle.std.proofs.Common.{◌≡◌, ℕ, List, false, [], ◌++◌, append-nil, refl, sym, ◌∙◌}
use Rattle.std.specs.Prelude.{Option, Some, None}
use Rattle.std.proofs.lemmas.Bool.{false≢true}
use Rattle.std.proofs.Math.Path.{subst}
use Rattle.output_lines.specs.declared.out_line.OutLine.{OutLine}
use Rattle.core_model.specs.Core as model
use Rattle.core_model.specs.Core.{client_at}
use Rattle.client_model.specs.Runtime.{Runtime}
use Rattle.world_model.specs.World as plain_steps
use Rattle.world_model.specs.Turning.{heard_at}
use Rattle.world_model.specs.Playing.{Stage}
use Rattle.hot_events.specs.Calls as lists
use Rattle.event_runs.specs.CoreEvents.{core_event_in}
use Rattle.event_runs.specs.Courses.{Course, EventStep, emits, fired_at, hear_step, hears, plain, world_in}
use Rattle.event_runs.specs.Logs.{IsLogOf, core_events, is_on, listed}
use Rattle.event_runs.specs.Runs.{EventRun, course_of, run_on, stage_of}
use Rattle.event_runs.specs.declared.event_log.EventLog.{EventLog}
use Rattle.event_runs.specs.declared.event_log.EventLog.TheVariants.{Off, Kept, Full}

-- in no steps nothing is told
pub none_logged : (stage : Stage) (steps : List plain_steps.Step) (log : EventLog) → steps ≡ [] → IsLogOf [] log → IsLogOf (core_events stage steps) log
none_logged stage steps log none h = subst (λ ss. IsLogOf (core_events stage ss) log) (sym none) h

-- what is told in a step is behind what was told before
module _ (stage : Stage) (c : Course) where
  fired_tells : (i : ℕ) (e : lists.Event) (lines : Option (List OutLine))
      → core_events stage (fired_at c i e lines).course.steps ≡ core_events stage c.steps
  fired_tells i e None = refl
  fired_tells i e (Some lines) = append-nil (core_events stage c.steps)

  hear_tells : (i : ℕ) (r : Option Runtime) (e : Option lists.Event)
      → core_events stage (hear_step stage c i r e).course.steps ≡ core_events stage c.steps
  hear_tells i None e = refl
  hear_tells i (Some r) None = refl
  hear_tells i (Some r) (Some e) = fired_tells i e (heard_at stage.language e.0 e.1 (Some r))

module _ (run : EventRun) where
  abbrev pub told_so_far : List model.Event
  told_so_far = core_events (stage_of run) (course_of run).steps

  told_on : (s : EventStep)
      → told_so_far ++ listed (core_event_in run s)
      ≡ core_events (stage_of run) (course_of (run_on run s)).steps
  told_on (plain s) = refl
  told_on (emits n v) = append-nil told_so_far
  told_on (hears i) =
      let c = course_of run in
      append-nil told_so_far
      ∙ sym (hear_tells (stage_of run) c i (client_at (world_in (stage_of run) c).clients i) (lists.first c.calls i))

  -- the log of the events with what is told in the step is the log behind it
  pub logged_on : (s : EventStep) (told : Option model.Event) (log : EventLog) → told ≡ core_event_in run s
      → IsLogOf (told_so_far ++ listed told) log
      → IsLogOf (core_events (stage_of run) (course_of (run_on run s)).steps) log
  logged_on s told log e h =
      subst (λ es. IsLogOf es log) (told_on s) (subst (λ o. IsLogOf (told_so_far ++ listed o) log) e h)

  -- where nothing is told, it stays
  pub logged_still : (log : EventLog) → IsLogOf told_so_far log → IsLogOf (told_so_far ++ listed None) log
  logged_still log h = subst (λ es. IsLogOf es log) (sym (append-nil told_so_far)) h

-- a log that is off says nothing
pub logged_off : (told : List model.Event) (log : EventLog) → is_on log ≡ false → IsLogOf told log
logged_off told Off e = tt
logged_off told (Kept events left) e = absurd (false≢true (sym e))
logged_off told Full e = absurd (false≢true (sym e))
