-- A run from its start.
use Rattle.std.proofs.Common.{◌≡◌, ℕ, List, [], ◌∷◌, false, refl}
use Prim.{⊥}
use Rattle.std.specs.Prelude.{Result, Ok, Err}
use Rattle.std.specs.Global.{Vec}
use Rattle.std.proofs.Math.Path.{subst}
use Rattle.core_model.specs.Names.{Name}
use Rattle.core_model.specs.Sources.{Text}
use Rattle.world_model.specs.Playing.{Stage}
use Rattle.event_runs.specs.Courses.{Course, new_course}
use Rattle.event_world.specs.Logs.{IsLogged}
use Rattle.event_runs.specs.Playing.{Played}
use Rattle.event_runs.specs.Runs.{EventRun}
use Rattle.event_world.specs.Standing.{StandsFor}
use Rattle.event_world.specs.declared.event_world.EventWorld.{EventWorld}
use Rattle.play_script.specs.declared.script_line.ScriptLine.{ScriptLine}
use Rattle.made_scripts.specs.Making.{generated}
use Rattle.text_commands.specs.declared.stop.Stop.{Stop}
use Rattle.script_runs.specs.Playing.{page_played, perform, script_played, stage_on}
use Rattle.input_commands.specs.Standing.{IsAt}
use Rattle.script_runs.specs.Summing.{SumsUp}

-- what was made is no fault
pub made_no_fault : {X E : Type 0} (result : Result X E) (x : X) (e : E) → result ≡ Ok x → result ≡ Err e → ⊥
made_no_fault (Ok y) x e is other = cc
made_no_fault (Err y) x e is other = cc

-- a world that has made no step
abbrev pub at_start : List (List (Text × ℕ)) → List Name → EventRun
at_start shelves roots = record { roots = roots; shelves = shelves; before = []; steps = [] }

pub starts_at : {F : Type 0} (shelves : List (List (Text × ℕ))) (roots : List Name) (world : EventWorld F) →
    StandsFor (at_start shelves roots) world → IsLogged (at_start shelves roots) world →
    IsAt (stage_on shelves roots) new_course world
starts_at shelves roots world stands logged = record {
  run = at_start shelves roots;
  stands = stands;
  logged = logged;
  stage_is = refl;
  is = refl;
}

-- a page with a root is played from its start
pub begun : {F : Type 0} (shelves : List (List (Text × ℕ))) (roots : List Name) (lines : List ScriptLine) (world : EventWorld F)
    (Ends : Played → Type 0) → (roots ≡ [] → ⊥) →
    StandsFor (at_start shelves roots) world → IsLogged (at_start shelves roots) world →
    ((stage : Stage) (c : Course) → IsAt stage c world → Ends (perform stage lines false c)) →
    Ends (page_played shelves roots lines)
begun shelves [] lines world Ends some stands logged f = absurd (some refl)
begun shelves (root ∷ more) lines world Ends some stands logged f =
    f (stage_on shelves (root ∷ more)) new_course (starts_at shelves (root ∷ more) world stands logged)

-- a run on a new world of the generated script's roots is the run of that script
pub from_start : {F : Type 0} (shelves : List (List (Text × ℕ))) (count seed : ℕ) (roots : List Name)
    (lines : List ScriptLine) (world : EventWorld F) (result : Result (Vec ℕ) Stop) →
    roots ≡ (generated count seed).roots → lines ≡ (generated count seed).lines →
    StandsFor (at_start shelves roots) world → IsLogged (at_start shelves roots) world →
    ((stage : Stage) (w : Course) → IsAt stage w world →
    SumsUp stage count (perform stage lines false w) result) →
    SumsUp (stage_on shelves (generated count seed).roots) count (script_played shelves (generated count seed)) result
from_start shelves count seed roots lines world result rooted lined stands logged f =
    let made = f (stage_on shelves roots) new_course (starts_at shelves roots world stands logged) in
    let Sums : List Name → List ScriptLine → Type 0 = λ rs ls.
    SumsUp (stage_on shelves rs) count (perform (stage_on shelves rs) ls false new_course) result in
    subst (λ rs. Sums rs (generated count seed).lines) rooted (subst (Sums roots) lined made)
