-- One step of a play.
use Rattle.std.proofs.Common.{◌≡◌, ℕ, Bool, true, false, List, [], ap, sym, refl, ◌∙◌, arith}
use Rattle.std.specs.Prelude.{Option, Some, None, Result, Ok, Err, OnOk, IsErrOf, is_err}
use Prim.{⊥}
use Rattle.std.specs.Global.{Vec}
use Rattle.std.proofs.Math.Path.{subst}
use Rattle.std.proofs.lemmas.Bool.{false≢true}
use Rattle.hmr_base.proofs.Fronts.{front_none}
use Rattle.output_lines.specs.declared.out_line.OutLine.{OutLine}
use Rattle.world_model.specs.Playing.{Stage}
use Rattle.event_runs.specs.Courses.{Course, EventStep, event_step}
use Rattle.event_runs.specs.Logs.{IsLogOf, core_events}
use Rattle.event_world.specs.Logs.{IsLogged}
use Rattle.event_runs.specs.Playing.{Played, joined, stepped_on, play_step}
use Rattle.event_runs.specs.Runs.{run_on, stage_of, step_in}
use Rattle.event_world.specs.Standing.{StandsFor}
use Rattle.world_parts.specs.Stops.{AreLines}
use Rattle.world_parts.specs.declared.stop.WorldStop.{WorldStop}
use Rattle.world_parts.specs.declared.stop.WorldStop.TheVariants as worlds
use Rattle.event_world.specs.declared.event_world.EventWorld.{EventWorld}
use Rattle.text_commands.specs.declared.stop.Stop.{Stop}
use Rattle.text_commands.specs.declared.stop.Stop.TheVariants.{InstancesFull}
use Rattle.script_runs.specs.Stops.{stop_of_world}
use Rattle.text_commands.specs.Outputs.{lines_text}
use Rattle.text_commands.specs.Showing as showing
use Rattle.script_runs.specs.Playing.{nothing, quieted}
use Rattle.input_commands.specs.Standing.{IsAt, LogsAt, Plays}
use Rattle.text_commands.specs.Writing.{HasCause, IsPlayStop, Taken, Takes, TakesFront}
use Rattle.text_commands.proofs.Taking.{takes_none}

-- of no lines none is shown
pub none_shown : (quiet : Bool) → showing.shown quiet [] ≡ []
none_shown true = refl
none_shown false = refl

pub on_ok : {X E P : Type 0} (result : Result X E) → P → OnOk result P
on_ok (Ok x) p = p
on_ok (Err e) p = tt

module _ {F : Type 0} (stage : Stage) (w : Course) (old : EventWorld F) (h : IsAt stage w old) where
  -- what the step makes of the course
  pub same_step : (s : EventStep) → event_step stage w s ≡ step_in h.run s
  same_step s =
      ap (λ st. event_step st w s) (sym h.stage_is)
      ∙ ap (λ c. event_step (stage_of h.run) c s) (sym h.is)

  -- the world stands where the step leads
  pub stands_on : (s : EventStep) (after : EventWorld F) → StandsFor (run_on h.run s) after →
      IsLogged (run_on h.run s) after → IsAt stage (step_in h.run s).course after
  stands_on s after k logged =
      record { run = run_on h.run s; stands = k; logged = logged; stage_is = h.stage_is; is = refl }

  -- its log is that of the course there
  logs_on : (s : EventStep) (after : EventWorld F) → IsLogged (run_on h.run s) after →
      LogsAt stage (step_in h.run s).course after
  logs_on s after logged =
      subst (λ (st : Stage). IsLogOf (core_events st (step_in h.run s).course.steps) after.log) h.stage_is logged

  part_is : (s : EventStep) (made : Option (List OutLine)) → (step_in h.run s).lines ≡ made →
      play_step stage (nothing w) s ≡ stepped_on [] (step_in h.run s).course made
  part_is s made e = ap (joined []) (same_step s) ∙ ap (stepped_on [] (step_in h.run s).course) e

  -- the step went on, and its lines are taken
  pub step_plays : (s : EventStep) (quiet : Bool) (lines : Vec OutLine) (after : EventWorld F) (a b : Taken)
      (result : Result (Unit {0}) Stop) →
      AreLines (step_in h.run s).lines (Ok lines) → StandsFor (run_on h.run s) after →
      IsLogged (run_on h.run s) after → TakesFront a b (showing.shown quiet lines.items) →
      OnOk result (Takes a b (showing.shown quiet lines.items)) → (result ≡ Err InstancesFull → ⊥) →
      Plays stage a b (quieted quiet (play_step stage (nothing w) s)) after result
  step_plays s quiet lines after a b result are k logged front done other =
      subst (λ (p : Played). Plays stage a b (quieted quiet p) after result)
      (sym (part_is s (Some lines.items) are))
      (record {
        performs = record {
          front = front;
          done = done;
          goes_on = on_ok result refl;
          ended = λ full. absurd (other full);
          all = λ full. absurd (other full);
        };
        state = on_ok result (stands_on s after k logged);
        stopped = λ full. absurd (other full);
      })

  -- the step ended the run, or there was no memory for it
  pub step_stops : (s : EventStep) (quiet : Bool) (e : WorldStop) (after : EventWorld F) (a : Taken)
      (stop : Stop) →
      AreLines (step_in h.run s).lines (Err e) →
      ((let r : Result (Vec OutLine) WorldStop = Err e in IsErrOf r worlds.InstancesFull) → IsLogged (run_on h.run s) after) →
      stop ≡ stop_of_world e →
      Plays stage a a (quieted quiet (play_step stage (nothing w) s)) after (Err stop)
  step_stops s quiet worlds.InstancesFull after a stop are logged e =
      subst (λ (p : Played). Plays stage a a (quieted quiet p) after (Err stop)) (sym (part_is s None are))
      (record {
        performs = record {
          front = front_none a.bytes (lines_text (showing.shown quiet []));
          done = tt;
          goes_on = tt;
          ended = λ full. refl;
          all = λ full. subst (Takes a a) (sym (none_shown quiet)) (takes_none a);
        };
        state = tt;
        stopped = λ full. logs_on s after (logged refl);
      })
  step_stops s quiet worlds.NoMemory after a stop are logged e =
      record {
        performs = record {
          front = front_none a.bytes (lines_text (showing.shown quiet (play_step stage (nothing w) s).lines));
          done = tt;
          goes_on = tt;
          ended = λ full. absurd (cc);
          all = λ full. absurd (cc);
        };
        state = tt;
        stopped = λ full. absurd (cc);
      }

-- where a world's run ends, playing stops by no fault of the sink
pub world_stops : (e : WorldStop) (stop : Stop) → stop ≡ stop_of_world e → IsPlayStop stop
world_stops worlds.InstancesFull stop e = subst IsPlayStop (sym e) tt
world_stops worlds.NoMemory stop e = subst IsPlayStop (sym e) tt

pub without_fault : (e : WorldStop) (stop : Stop) (faults : ℕ) → stop ≡ stop_of_world e
    → HasCause {X = Unit {0}} faults faults (Err stop)
without_fault worlds.InstancesFull stop faults e = record { later = omega arith; unwritten = λ out. absurd (cc) }
without_fault worlds.NoMemory stop faults e = record { later = omega arith; unwritten = λ out. absurd (cc) }

pub quiet_nothing : (quiet : Bool) (w : Course) → quieted quiet (nothing w) ≡ nothing w
quiet_nothing true w = refl
quiet_nothing false w = refl

-- what holds where there is no stop
pub from_ok : {P : Type 0} (result : Result (Unit {0}) Stop) → is_err result ≡ false → OnOk result P → P
from_ok (Ok u) e p = p
from_ok (Err stop) e p = absurd (false≢true (sym e))
