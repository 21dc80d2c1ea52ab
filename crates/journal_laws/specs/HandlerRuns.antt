-- Steps that bring a client to an accepted update, and to a prune.
use Rattle.std.specs.Prelude.{List, [], ◌∷◌, Some}
use Rattle.world_model.specs.World.{Step, edits, settles, opens, turn}
use Rattle.world_model.specs.SmallPages.{m, x}
use Rattle.world_model.specs.HandlerScripts.{with_x, without_x, seeing_x, hosting_1, hosting_2}

-- a module that registers two disposers and a prune handler is loaded, and then replaced; the newest first
abbrev pub replacing : List Step
replacing =
    turn 1 ∷ turn 1 ∷ turn 1 ∷ settles m 2 ∷ edits m (Some hosting_2) ∷ turn 1 ∷ turn 1 ∷ opens 1 [] ∷
    settles m 1 ∷ edits m (Some hosting_1) ∷ []

-- a module with a disposer and a prune handler is loaded, and its importer is replaced by one without it
abbrev pub abandoning : List Step
abandoning =
    turn 1 ∷ turn 1 ∷ turn 1 ∷ settles m 3 ∷ edits m (Some without_x) ∷ turn 1 ∷ turn 1 ∷ turn 1 ∷
    opens 1 [] ∷ settles x 2 ∷ settles m 1 ∷ edits x (Some seeing_x) ∷ edits m (Some with_x) ∷ []
