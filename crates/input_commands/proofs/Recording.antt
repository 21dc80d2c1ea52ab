-- The run of a world that logs, from its start to its end.
use Rattle.std.proofs.Common.{◌≡◌, ℕ, false, List, [], ◌∷◌, sym, refl}
use Rattle.std.specs.Prelude.{Result, Ok, Err}
use Prim.{⊥}
use Rattle.std.specs.Global.{Vec}
use Rattle.std.proofs.Math.Path.{subst}
use Rattle.core_model.specs.Names.{Name}
use Rattle.core_model.specs.Sources.{Text}
use Rattle.world_model.specs.Playing.{Stage}
use Rattle.event_runs.specs.Courses.{Course, new_course}
use Rattle.event_runs.specs.Logs.{IsLogOf, core_events}
use Rattle.event_world.specs.Logs.{IsLogged}
use Rattle.event_runs.specs.Playing.{Played}
use Rattle.event_runs.specs.Runs.{course_of}
use Rattle.event_world.specs.Standing.{StandsFor}
use Rattle.event_runs.specs.declared.event_log.EventLog.{EventLog}
use Rattle.event_world.specs.declared.event_world.EventWorld.{EventWorld}
use Rattle.play_script.specs.declared.script_line.ScriptLine.{ScriptLine}
use Rattle.text_commands.specs.declared.stop.Stop.{Stop}
use Rattle.script_runs.specs.Outputs.{record_of_run}
use Rattle.script_runs.specs.Playing.{page_played, perform, stage_on}
use Rattle.script_runs.specs.Logged.{IsLoggedEnd}
use Rattle.input_commands.specs.Standing.{IsSomewhere, IsAt, LogsAt, Plays}
use Rattle.text_commands.specs.Recorded.{Records}
use Rattle.script_runs.specs.Recording.{events_of}
use Rattle.text_commands.specs.Writing.{Taken}
use Rattle.input_commands.proofs.Summing.{at_start, starts_at}

-- a page with a root is played from its start
pub page_recorded : {F : Type 0} (shelves : List (List (Text × ℕ))) (roots : List Name) (lines : List ScriptLine) (world : EventWorld F)
    (result : Result (Vec ℕ) Stop) → (roots ≡ [] → ⊥) →
    StandsFor (at_start shelves roots) world → IsLogged (at_start shelves roots) world →
    ((stage : Stage) (c : Course) → IsAt stage c world → stage.roots ≡ roots →
    Records (record_of_run stage (perform stage lines false c)) result) →
    Records (record_of_run (stage_on shelves roots) (page_played shelves roots lines)) result
page_recorded shelves [] lines world result some stands logged f = absurd (some refl)
page_recorded shelves (root ∷ more) lines world result some stands logged f =
    f (stage_on shelves (root ∷ more)) new_course (starts_at shelves (root ∷ more) world stands logged) refl

pub somewhere : {F : Type 0} (shelves : List (List (Text × ℕ))) (roots : List Name) (world : EventWorld F) →
    StandsFor (at_start shelves roots) world → IsLogged (at_start shelves roots) world → IsSomewhere world
somewhere shelves roots world stands logged =
    record { stage = stage_on shelves roots; course = new_course; at = starts_at shelves roots world stands logged }

-- where the world stands, its log is that of the course there
logs_at : {F : Type 0} (stage : Stage) (c : Course) (world : EventWorld F) → IsAt stage c world → LogsAt stage c world
logs_at stage c world h =
    subst (λ (x : Course). IsLogOf (core_events stage x.steps) world.log) h.is
    (subst (λ (st : Stage). IsLogOf (core_events st (course_of h.run).steps) world.log) h.stage_is h.logged)

pub logged_end : {F : Type 0} (stage : Stage) (a b : Taken) (p : Played) (after : EventWorld F) (result : Result (Unit {0}) Stop)
    (log : EventLog) → log ≡ after.log → Plays stage a b p after result → IsLoggedEnd stage p result log
logged_end stage a b p after (Ok u) log same h = record {
  goes_on = h.performs.goes_on;
  done = subst (IsLogOf (events_of stage p)) (sym same) (logs_at stage p.course after h.state);
  ended = h.performs.ended;
  stopped = λ full. subst (IsLogOf (events_of stage p)) (sym same) (h.stopped full);
}
logged_end stage a b p after (Err stop) log same h = record {
  goes_on = tt;
  done = tt;
  ended = h.performs.ended;
  stopped = λ full. subst (IsLogOf (events_of stage p)) (sym same) (h.stopped full);
}
