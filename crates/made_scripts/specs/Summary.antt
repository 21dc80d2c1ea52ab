-- The summary of the run of a generated script, read off the lines of the run.
use Rattle.std.specs.Prelude.{◌&&◌, [], ◌∷◌, ◌++◌}
use Rattle.std.specs.Prelude.{ℕ, Bool, true, false, List, codes, decimal, count_by, if◌then◌else◌}
use Rattle.std.specs.List.{flat_map, list_any}
use Rattle.hmr_types.specs.ModName.{is_text}
use Rattle.hmr_types.specs.declared.words.PlanKind.TheVariants as plans
use Rattle.output_lines.specs.declared.out_line.OutLine.{OutLine}
use Rattle.output_lines.specs.declared.out_line.OutLine.TheVariants as lines
use Rattle.output_lines.specs.declared.words.ClientState.TheVariants as states
use Rattle.play_text.specs.Lines.{line_text}

-- an update was applied
unfoldable pub is_update : OutLine → Bool
is_update (lines.Applied client plans.Update) = true
is_update line = false

-- a reload was applied
unfoldable pub is_reload : OutLine → Bool
is_reload (lines.Applied client plans.Reload) = true
is_reload line = false

-- a client is caught up
unfoldable pub is_up : OutLine → Bool
is_up (lines.Client client states.Up) = true
is_up line = false

-- a module of a table
unfoldable pub is_module : OutLine → Bool
is_module (lines.Module name version) = true
is_module line = false

-- the fresh load begins
unfoldable pub is_fresh : OutLine → Bool
is_fresh lines.Fresh = true
is_fresh line = false

-- the line is that of an instance
unfoldable pub is_instance : OutLine → Bool
is_instance (lines.Instance number name version status fate) = true
is_instance line = false

-- the text of a line that shows a module
abbrev pub module_text : OutLine → List ℕ
module_text line = if is_module line then line_text line else []

-- the text of a table
abbrev pub table_text : List OutLine → List ℕ
table_text ls = flat_map module_text ls

-- the text of the table before the line `fresh`
abbrev pub shown_text : List OutLine → List ℕ
shown_text [] = []
shown_text (l ∷ ls) = if is_fresh l then [] else module_text l ++ shown_text ls

-- and of the one behind it
abbrev pub fresh_text : List OutLine → List ℕ
fresh_text [] = []
fresh_text (l ∷ ls) = if is_fresh l then table_text ls else fresh_text ls

-- a client is caught up, and the table that is shown of it is the fresh load's
abbrev pub is_equal : List OutLine → Bool
is_equal ls = list_any is_up ls && is_text (shown_text ls) (fresh_text ls)

-- how it is told
abbrev pub answer : Bool → List ℕ
answer equal = if equal then codes "yes" else codes "no"

-- how many modules there are, and how many updates were applied
unfoldable pub updates_text : ℕ → ℕ → List ℕ
updates_text count updates = codes "modules " ++ decimal count ++ codes " updates " ++ decimal updates

-- how many reloads were applied, and how many instances were made
unfoldable pub reloads_text : ℕ → ℕ → List ℕ
reloads_text reloads instances =
    codes "reloads " ++ decimal reloads ++ codes " instances " ++ decimal instances

-- the line
abbrev pub summary_line : ℕ → ℕ → ℕ → ℕ → Bool → List ℕ
summary_line count updates reloads instances equal =
    updates_text count updates ++ codes " " ++ reloads_text reloads instances
    ++ codes " equal " ++ answer equal ++ codes "\n"

-- the summary of a run of these lines
abbrev pub summary : ℕ → ℕ → List OutLine → List ℕ
summary count instances ls =
    summary_line count (count_by is_update ls) (count_by is_reload ls) instances (is_equal ls)
