-- What the core is after a step: what the step's event makes of it.
use Rattle.std.proofs.Common.{◌≡◌, ℕ, List, refl}
use Rattle.std.specs.Prelude.{Option, Some, None, find}
use Rattle.output_lines.specs.declared.out_line.OutLine.{OutLine}
use Rattle.core_model.specs.Names.{Name}
use Rattle.core_model.specs.Sources.{Text}
use Rattle.core_model.specs.Core.{Core, connect, step, client_at}
use Rattle.core_model.specs.Exchange.{message_for}
use Rattle.core_model.specs.Requests.{Reply}
use Rattle.client_model.specs.Firing.{Firing}
use Rattle.client_model.specs.Language.{Language}
use Rattle.client_model.specs.Runtime.{Runtime}
use Rattle.module_language.specs.ModuleLanguage.{module_language}
use Rattle.world_model.specs.Editing.{is_job, settle_job}
use Rattle.world_model.specs.Steps.{world_step}
use Rattle.world_model.specs.Turning.{turn_of, connected_as, opened_by, close_of, shown, heard_at, fired_at, fired_by}
use Rattle.world_model.specs.World.{Job, World, Step, edits, settles, opens, turn, closes, show, values}
use Rattle.world_model.specs.World.{fates, fresh, fresh_of, fires}
use Rattle.world_laws.specs.Runs.{Run, world_of}
use Rattle.run_promises.specs.Events.{TellsItsEvent, bye_of, event_at, request_of, result_of, told}

module _ (language : Language) (roots : List Name) (shelves : List (List (Text × ℕ))) (w : World) where
  settle_tells : (n : Name) (v : ℕ) (j : Option Job)
      → (settle_job language roots n v w j).world.core ≡ told roots w.core (result_of language n v j)
  settle_tells n v None = refl
  settle_tells n v (Some j) = refl

  open_tells : (format : ℕ) (names : List Name) (after : Core × Reply) (i : Option ℕ)
      → (opened_by language shelves format names w after i).world.core ≡ after.0
  open_tells format names after None = refl
  open_tells format names after (Some i) = refl

  turn_tells : (i : ℕ) (r : Option Runtime)
      → (turn_of language roots i w r).world.core ≡ told roots w.core (request_of language i r)
  turn_tells i None = refl
  turn_tells i (Some r) = refl

  close_tells : (i : ℕ) (r : Option Runtime)
      → (close_of roots i w r).world.core ≡ told roots w.core (bye_of i r)
  close_tells i None = refl
  close_tells i (Some r) = refl

  look_tells : (i : ℕ) (lines : Runtime → List OutLine) (r : Option Runtime)
      → (shown i w lines r).world.core ≡ w.core
  look_tells i lines None = refl
  look_tells i lines (Some r) = refl

  fire_tells : (i : ℕ) (lines : Option (List OutLine)) (f : Option Firing)
      → (fired_by i w lines f).world.core ≡ w.core
  fire_tells i lines None = refl
  fire_tells i lines (Some f) = refl

  step_tells : (s : Step)
      → (world_step language roots shelves w s).world.core ≡ told roots w.core (event_at language w s)
  step_tells (edits n t) = refl
  step_tells (settles n v) = settle_tells n v (find (is_job n v) w.issued)
  step_tells (opens format names) =
      let after = step roots w.core (connect names) in
      open_tells format names after (connected_as (message_for format after.1))
  step_tells (turn i) = turn_tells i (client_at w.clients i)
  step_tells (closes i) = close_tells i (client_at w.clients i)
  step_tells (show i) = look_tells i _ (client_at w.clients i)
  step_tells (values i) = look_tells i _ (client_at w.clients i)
  step_tells (fates i) = look_tells i _ (client_at w.clients i)
  step_tells fresh = refl
  step_tells (fresh_of i) = look_tells i _ (client_at w.clients i)
  step_tells (fires i n value) =
      let r = client_at w.clients i in
      fire_tells i (heard_at language n value r) (fired_at language n value r)

pub each_tells : (run : Run) (s : Step) → TellsItsEvent run s
each_tells run s = step_tells module_language run.roots run.shelves (world_of run) s
