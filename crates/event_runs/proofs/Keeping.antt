-- What every run keeps, after each kind of step.
use Rattle.std.proofs.Common.{ℕ, ap, sym}
use Rattle.std.specs.Prelude.{is_some}
use Rattle.std.proofs.lemmas.Bool.{false≢true}
use Rattle.hmr_types.specs.declared.value.Value.{Value}
use Rattle.core_model.specs.Names.{Name}
use Rattle.module_language.specs.ModuleLanguage.{module_language}
use Rattle.world_model.specs.Ties.{WentOn}
use Rattle.world_laws.specs.Runs.{Run}
use Rattle.world_parts.specs.Steps.{step_of}
use Rattle.world_parts.specs.declared.step.Step.{Step}
use Rattle.event_runs.specs.Courses.{emits, hears, plain}
use Rattle.event_runs.specs.Runs.{EventRun, KeepsEvents, beginning, course_of, run_of, run_on, stage_of}
use Rattle.event_runs.specs.Runs.{HasNoClient}
use Rattle.event_runs.proofs.Hearing.{emit_heard, hear_heard, plain_heard}
use Rattle.event_runs.proofs.Lives.{hear_listened, plain_listened}
use Rattle.event_runs.proofs.Presence.{hear_there, plain_there}

pub begins : (run : Run) → HasNoClient run → KeepsEvents (beginning run)
begins run none = record {
  there = λ i. sym (ap is_some (none i));
  heard = λ i t. absurd (false≢true t);
  listeners = λ i t. absurd (false≢true t);
}

pub plain_keeps : (run : EventRun) (s : Step) → KeepsEvents run → KeepsEvents (run_on run (plain (step_of s)))
plain_keeps run s h = record {
  there = plain_there (stage_of run) (course_of run) s h.there;
  heard = plain_heard (stage_of run) (course_of run) s h.heard;
  listeners = plain_listened (stage_of run) (course_of run) s h.listeners;
}

pub emit_keeps : (run : EventRun) (n : Name) (v : Value) → KeepsEvents run → KeepsEvents (run_on run (emits n v))
emit_keeps run n v h = record {
  there = h.there;
  heard = emit_heard (stage_of run) (course_of run) n v h.heard;
  listeners = h.listeners;
}

pub hear_keeps : (run : EventRun) (j : ℕ) → WentOn module_language run.roots run.shelves (run_of run).steps → KeepsEvents run → KeepsEvents (run_on run (hears j))
hear_keeps run j went h = record {
  there = hear_there (stage_of run) (course_of run) j h.there;
  heard = hear_heard (stage_of run) (course_of run) j h.heard;
  listeners = hear_listened (stage_of run) (course_of run) j went h.listeners;
}
