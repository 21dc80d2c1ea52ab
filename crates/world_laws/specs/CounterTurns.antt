-- Steps that bring a client to a counter's page, and then a new counter; the newest first.
use Rattle.std.specs.Prelude.{List, [], ◌∷◌, Some}
use Rattle.world_model.specs.World.{Step, edits, settles, opens, turn}
use Rattle.world_model.specs.SmallPages.{m, c}
use Rattle.world_model.specs.UpdateScripts.{main_text, counter_text, counter_by_ten}

-- both modules are served, and a client comes
abbrev pub loading : List Step
loading =
    opens 1 [] ∷ settles c 2 ∷ settles m 1 ∷ edits c (Some counter_text) ∷ edits m (Some main_text) ∷ []

-- it loads the page, and a new counter is served
abbrev pub updating : List Step
updating = settles c 3 ∷ edits c (Some counter_by_ten) ∷ turn 1 ∷ turn 1 ∷ turn 1 ∷ loading
