-- What holds at each `show` of a script.
use Rattle.std.specs.Prelude.{◌≡◌, ℕ, List, ◌∷◌, ◌++◌, map, false, Option, Some, Result, Ok, Err}
use Rattle.output_lines.specs.declared.out_line.OutLine.{OutLine}
use Rattle.output_lines.specs.declared.out_line.OutLine.TheVariants as line
use Rattle.output_lines.specs.declared.words.ClientState.TheVariants.{Up}
use Rattle.core_model.specs.Names.{Name}
use Rattle.core_model.specs.Sources.{Text}
use Rattle.client_model.specs.Printing.{module_line, stale_line}
use Rattle.world_model.specs.World.{World, Step, show, fresh_of}
use Rattle.world_model.specs.Steps.{world_step, unlinked_line}
use Rattle.world_model.specs.Playing.{Stage}
use Rattle.event_runs.specs.Courses.{new_course, world_in}
use Rattle.play_script.specs.declared.fault.ScriptFault.{ScriptFault}
use Rattle.play_script.specs.declared.script_line.ScriptLine.{ScriptLine}
use Rattle.play_script.specs.declared.script_line.ScriptLine.TheVariants as says
use Rattle.play_script.specs.Script.{Contents}
use Rattle.script_runs.specs.Playing.{perform, stage_on}

-- the lines of a step
abbrev pub lines_at : Stage → World → Step → Option (List OutLine)
lines_at stage w s = (world_step stage.language stage.roots stage.shelves w s).lines

-- behind `client C up` stand the lines of modules that a fresh load of the client's own roots writes, and
-- stale edges alone behind them; the fresh load writes no missing module
pub record ShowsFresh (i : ℕ) (shows loads : Option (List OutLine)) : Type 0 where
  pub modules : List (Name × ℕ)
  pub stale : List (Name × Name)
  pub unlinked : List (Name × Name × Name)
  pub shows_are : shows ≡ Some (line.Client i Up ∷ (map module_line modules ++ map stale_line stale))
  pub loads_are : loads ≡ Some (line.FreshOf i ∷ (map module_line modules ++ map unlinked_line unlinked))

-- so it is of a client that shows that it is up
abbrev pub IsFreshWhereUp : Stage → World → ℕ → Type 0
IsFreshWhereUp stage w i =
    (lines : List OutLine) → lines_at stage w (show i) ≡ Some (line.Client i Up ∷ lines) →
    ShowsFresh i (lines_at stage w (show i)) (lines_at stage w (fresh_of i))

-- so it is at each place of the script at which a client is shown
abbrev pub ShowsAreFresh : List (List (Text × ℕ)) → Result Contents ScriptFault → Type 0
ShowsAreFresh shelves (Err fault) = Unit {0}
ShowsAreFresh shelves (Ok script) =
    (before after : List ScriptLine) (i : ℕ) → script.lines ≡ before ++ says.Show i ∷ after →
    let stage = stage_on shelves script.roots in
    let so_far = perform stage before false new_course in
    so_far.over ≡ false → IsFreshWhereUp stage (world_in stage so_far.course) i
