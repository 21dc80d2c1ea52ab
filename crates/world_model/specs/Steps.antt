-- The world's step, and runs of steps.
use Rattle.std.specs.Prelude.{ℕ, List, [], ◌∷◌, ◌++◌, map, find}
use Rattle.output_lines.specs.declared.out_line.OutLine.{OutLine}
use Rattle.output_lines.specs.declared.out_line.OutLine.TheVariants as line
use Rattle.core_model.specs.Names.{Name}
use Rattle.core_model.specs.Sources.{Text, edit}
use Rattle.core_model.specs.FreshLoad.{FreshLoad, fresh_load}
use Rattle.core_model.specs.Core.{change, connect, step, client_at}
use Rattle.client_model.specs.Language.{Language, links_of}
use Rattle.client_model.specs.Printing.{show_lines, value_lines, fate_lines}
use Rattle.world_model.specs.World.{World, Step, edits, settles, opens, turn, closes, show, values, fates}
use Rattle.world_model.specs.World.{fresh, fresh_of, fires, Stepped, stepped, new_world}
use Rattle.world_model.specs.Editing.{edited_by, is_job, settle_job}
use Rattle.world_model.specs.Turning.{turn_of, open_by, close_of, shown, fire_of, state_in}

-- an import that isn't exported
abbrev pub unlinked_line : Name × Name × Name → OutLine
unlinked_line edge = line.Unlinked edge.0 edge.1 edge.2

-- the lines of a fresh load below its first
abbrev pub load_lines : FreshLoad → List OutLine
load_lines load = (map (λ row. line.Module row.0 row.1) load.table ++
    (map line.Missing load.missing ++ map unlinked_line load.unlinked))

-- the lines of the fresh load of the server's roots
abbrev pub fresh_lines : FreshLoad → List OutLine
fresh_lines load = line.Fresh ∷ load_lines load

-- the lines of the fresh load of a client's own roots
abbrev pub fresh_of_lines : ℕ → FreshLoad → List OutLine
fresh_of_lines i load = line.FreshOf i ∷ load_lines load

-- what the sources would load anew for these roots
abbrev pub loaded_anew : Language → World → List Name → FreshLoad
loaded_anew language w roots = fresh_load (links_of language) w.core.sources.served roots

-- what a step makes of the world
abbrev pub world_step : Language → List Name → List (List (Text × ℕ)) → World → Step → Stepped
world_step language roots shelves w (edits n t) = edited_by n t w (step roots w.core (change (edit n t)))
world_step language roots shelves w (settles n v) =
    settle_job language roots n v w (find (is_job n v) w.issued)
world_step language roots shelves w (opens format names) =
    open_by language shelves format names w (step roots w.core (connect names))
world_step language roots shelves w (turn i) = turn_of language roots i w (client_at w.clients i)
world_step language roots shelves w (closes i) = close_of roots i w (client_at w.clients i)
world_step language roots shelves w (show i) =
    shown i w (λ r. show_lines (state_in w i r) r) (client_at w.clients i)
world_step language roots shelves w (values i) = shown i w value_lines (client_at w.clients i)
world_step language roots shelves w (fates i) = shown i w fate_lines (client_at w.clients i)
world_step language roots shelves w fresh = stepped w (fresh_lines (loaded_anew language w roots))
world_step language roots shelves w (fresh_of i) =
    shown i w (λ r. fresh_of_lines i (loaded_anew language w r.roots)) (client_at w.clients i)
world_step language roots shelves w (fires i n value) = fire_of language i n value w (client_at w.clients i)

-- what the steps so far make, the newest first
abbrev pub world_after : Language → List Name → List (List (Text × ℕ)) → List Step → World
world_after language roots shelves [] = new_world
world_after language roots shelves (s ∷ past) =
    (world_step language roots shelves (world_after language roots shelves past) s).world
