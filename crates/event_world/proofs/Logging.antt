-- A world whose log alone changes.
use Rattle.std.proofs.Common.{◌≡◌, sym}
use Rattle.std.proofs.Math.Path.{subst}
use Rattle.hmr_world.specs.Standing as worlds
use Rattle.hot_events.specs.Calls as lists
use Rattle.event_world.specs.Logs.{IsLogged}
use Rattle.event_runs.specs.Logs.{IsLogOf, core_events}
use Rattle.event_runs.specs.Runs.{EventRun, course_of, run_of, stage_of}
use Rattle.event_world.specs.Standing.{IsRunning, StandsFor}
use Rattle.event_world.specs.declared.event_world.EventWorld.{EventWorld}

module _ {F : Type 0} (run : EventRun) where
  -- nothing changes but the log
  pub stands_noted : (before after : EventWorld F) → after.world ≡ before.world → after.waiting ≡ before.waiting → StandsFor run before → StandsFor run after
  stands_noted before after world waiting h = record {
    world_stands = subst (worlds.StandsFor (run_of run)) (sym world) h.world_stands;
    lists_stand = subst (lists.StandsFor (course_of run).calls) (sym waiting) h.lists_stand;
    keeps = h.keeps;
  }

  -- nothing changes of the log
  pub logged_after : (before after : EventWorld F) → after.log ≡ before.log → IsLogged run before → IsLogged run after
  logged_after before after same h = subst (IsLogOf (core_events (stage_of run) (course_of run).steps)) (sym same) h

pub runs_noted : {F : Type 0} (before after : EventWorld F) → after.world ≡ before.world → after.waiting ≡ before.waiting → IsRunning before → IsRunning after
runs_noted before after world waiting h = record { run = h.run; stands = stands_noted h.run before after world waiting h.stands }
