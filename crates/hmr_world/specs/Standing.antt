-- What a world stands for: the definitions' world after the steps of a run.
use Rattle.std.specs.Prelude.{◌≡◌, ℕ, List, Result, OnOk}
use Rattle.output_lines.specs.declared.out_line.OutLine.{OutLine}
use Rattle.std.specs.Global.{Vec}
use Rattle.core_model.specs.Names.{Name}
use Rattle.core_model.specs.Sources.{Text}
use Rattle.handler_table.specs.Held.{Answers}
use Rattle.module_language.specs.ModuleLanguage.{module_language}
use Rattle.world_model.specs.World as model
use Rattle.world_model.specs.World.{Step}
use Rattle.world_model.specs.Ties.{WentOn}
use Rattle.world_laws.specs.Runs.{Run, world_of}
use Rattle.run_promises.specs.RunSteps.{step_in}
use Rattle.world_parts.specs.Cores.{IsCore}
use Rattle.hmr_world.specs.Clients as clients
use Rattle.hmr_world.specs.Clients.{AreOpen}
use Rattle.world_parts.specs.Shelves.{AreShelves, AreHosts}
use Rattle.world_parts.specs.Stops.{AreLines}
use Rattle.world_parts.specs.declared.stop.WorldStop.{WorldStop}
use Rattle.hmr_world.specs.declared.world.World.{World}

-- the world has what the definitions' world has: the server's roots, the core, the open clients by number,
-- the jobs under way, and the closures of clients to come
pub record Has {F : Type 0} (roots : List Name) (shelves : List (List (Text × ℕ))) (w : model.World)
    (world : World F) : Type 0 where
  pub roots_are : world.core.roots ≡ roots
  pub core : IsCore w.core world.core
  pub clients : AreOpen w.clients world.clients.items
  pub jobs : world.jobs ≡ w.issued
  pub shelves_are : AreShelves w.core.given shelves world.shelves.items

-- The world stands for the steps of a run: each step went on, and the world has what the run makes.
pub record StandsFor {F : Type 0} (run : Run) (world : World F) : Type 0 where
  pub went : WentOn module_language run.roots run.shelves run.steps
  pub has : Has run.roots run.shelves (world_of run) world

-- The world is in use: it stands for some run. A step that stops the run ends this.
pub record IsRunning {F : Type 0} (world : World F) : Type 0 where
  pub run : Run
  pub stands : StandsFor run world

-- A step was made: it answers the lines of the definitions, and leaves the world that they leave.
pub record IsStepped {F : Type 0} (run : Run) (s : Step) (after : World F)
    (result : Result (Vec OutLine) WorldStop) : Type 0 where
  pub lines : AreLines (step_in run s).lines result
  pub has : OnOk result (Has run.roots run.shelves (step_in run s).world after)

-- each handler and each closure of the world's clients answers what is stated for it
pub record KeepsWords {F : Type 0} (answers : Answers F) (world : World F) : Type 0 where
  pub clients : clients.KeepWords answers world.clients.items
  pub shelves : AreHosts answers world.shelves.items
