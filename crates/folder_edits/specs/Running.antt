-- What a server did between its start and its end.
use Rattle.std.specs.Prelude.{◌≡◌, ◌⊎◌, ℕ, true, List, [], Option, Result, Err, OnOk}
use Rattle.hmr_base.specs.Causes.{Rose}
use Rattle.hmr_hub.specs.declared.pass.Pass.{Pass}
use Rattle.hub_editor.specs.Edits.{Edit, Made}
use Rattle.hub_editor.specs.Editing.{Edited, HaveLastResults}
use Rattle.crew_plans.specs.declared.gathered.Gathered.{Gathered}
use Rattle.folder_edits.specs.declared.stop.ServeStop.{ServeStop}
use Rattle.folder_edits.specs.declared.stop.ServeStop.TheVariants.{Fault}
use Rattle.folder_edits.specs.Rounds.{Files, MakesEdits}

-- The later edits, from the pass p to q: a front of those of the rounds and the script, and all of them
-- where nothing stopped the server; then the last job of each name has its result.
pub record Later (coming : Option (List Files)) (listing : Files) (script : List Edit) (many : ℕ)
    (p q : Pass)
    (made : List Made) (ended : Result (Unit {0}) ServeStop) : Type 0 where
  pub edited : Edited p q made
  pub makes : MakesEdits coming listing script many [] made ended
  pub results : OnOk ended (HaveLastResults q made)

-- a fault is found only where a count rose: n of the net, or p of the spawner
pub record Finds (gathered : Gathered) (ended : Result (Unit {0}) ServeStop) (n n' p p' : ℕ) : Type 0 where
  pub of_jobs : gathered.fault ≡ true → Rose n n' ⊎ Rose p p'
  pub of_net : ended ≡ Err Fault → Rose n n'
