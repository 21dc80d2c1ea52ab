-- The edits and results among the steps of the world.
use Rattle.std.specs.Prelude.{ℕ, List, [], ◌∷◌, find, Option, Some, None}
use Rattle.core_model.specs.Names.{Name}
use Rattle.core_model.specs.Sources.{Text, Change, edit, result}
use Rattle.client_model.specs.Language.{Language}
use Rattle.world_model.specs.World.{Job, World, Step, edits, settles, opens, turn, closes, show, values}
use Rattle.world_model.specs.World.{fates, fresh, fresh_of, fires}
use Rattle.world_model.specs.Editing.{is_job}
use Rattle.world_model.specs.Steps.{world_after}

-- the result of a job, where it was issued
abbrev pub result_too : Language → Name → ℕ → Option Job → List Change → List Change
result_too language n v None past = past
result_too language n v (Some j) past = result n j.text (language.transformed n j.text) v ∷ past

-- what a step changes
abbrev pub change_too : Language → World → Step → List Change → List Change
change_too language w (edits n t) past = edit n t ∷ past
change_too language w (settles n v) past = result_too language n v (find (is_job n v) w.issued) past
change_too language w (opens format names) past = past
change_too language w (turn i) past = past
change_too language w (closes i) past = past
change_too language w (show i) past = past
change_too language w (values i) past = past
change_too language w (fates i) past = past
change_too language w fresh past = past
change_too language w (fresh_of i) past = past
change_too language w (fires i n value) past = past

-- the edits and results of the steps so far, the newest first
abbrev pub changes_in : Language → List Name → List (List (Text × ℕ)) → List Step → List Change
changes_in language roots shelves [] = []
changes_in language roots shelves (s ∷ past) =
    change_too language (world_after language roots shelves past) s (changes_in language roots shelves past)
