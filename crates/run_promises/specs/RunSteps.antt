-- A run of the world and one step more.
use Rattle.std.specs.Prelude.{◌∷◌}
use Rattle.module_language.specs.ModuleLanguage.{module_language}
use Rattle.world_model.specs.World.{Step, Stepped}
use Rattle.world_model.specs.Steps.{world_step}
use Rattle.world_model.specs.Playing.{Stage}
use Rattle.world_laws.specs.Runs.{Run, world_of}

-- the run with one step more
abbrev pub run_on : Run → Step → Run
run_on run s = record run { steps = s ∷ run.steps }

-- what the step makes of the run's world
abbrev pub step_in : Run → Step → Stepped
step_in run s = world_step module_language run.roots run.shelves (world_of run) s

-- the page of a run: what its modules' texts mean, its roots, and each client's closures
abbrev pub stage_of : Run → Stage
stage_of run = record { language = module_language; roots = run.roots; shelves = run.shelves }
