-- What makes a step.
use Rattle.std.proofs.Common.{◌≡◌, ◌≤◌, ℕ, true, List, sym, ap, arith}
use Rattle.std.specs.Prelude.{Result, Ok, Err, IfErr, IsErr, OnOk, Option, Some, is_some}
use Rattle.std.specs.Global.{Vec}
use Rattle.std.proofs.Math.Path.{subst}
use Rattle.std.proofs.lemmas.Bool.{false≢true}
use Rattle.output_lines.specs.declared.out_line.OutLine.{OutLine}
use Rattle.core_model.specs.Sources.{Text}
use Rattle.world_model.specs.World.{Step, Stepped}
use Rattle.world_laws.specs.Runs.{Run}
use Rattle.world_parts.specs.Shelves.{AreShelves, Shelves}
use Rattle.hmr_world.specs.Standing.{Has, IsStepped, IsRunning, StandsFor}
use Rattle.run_promises.specs.RunSteps.{run_on, step_in}
use Rattle.world_parts.specs.Stops.{AreLines}
use Rattle.world_parts.specs.declared.stop.WorldStop.{WorldStop}
use Rattle.world_parts.specs.declared.stop.WorldStop.TheVariants.{NoMemory}
use Rattle.hmr_world.specs.declared.world.World.{World}

-- a step by what the definitions make of the run
pub stepped_by : {F : Type 0} (run : Run) (s : Step) (after : World F)
    (result : Result (Vec OutLine) WorldStop) (st : Stepped)
    → step_in run s ≡ st → AreLines st.lines result → OnOk result (Has run.roots run.shelves st.world after)
    → IsStepped run s after result
stepped_by run s after result st e lines has = record {
  lines = subst (λ x. AreLines x.lines result) (sym e) lines;
  has = subst (λ x. OnOk result (Has run.roots run.shelves x.world after)) (sym e) has;
}

-- there was no memory
pub unmade : {F : Type 0} (run : Run) (s : Step) (after : World F) (result : Result (Vec OutLine) WorldStop)
    → IsErr result → IfErr result (λ e. e ≡ NoMemory) → IsStepped run s after result
unmade run s after (Ok lines) h k = absurd (false≢true h)
unmade run s after (Err e) h k =
    subst (λ x. IsStepped run s after (Err x)) (sym k) (record { lines = tt; has = tt })

went_on : (lines : Option (List OutLine)) (shown : Vec OutLine) → lines ≡ Some shown.items
    → is_some lines ≡ true
went_on lines shown e = ap is_some e

-- the world stands for the run with the step
pub stands_on : {F : Type 0} (run : Run) (s : Step) (old after : World F)
    (result : Result (Vec OutLine) WorldStop)
    → StandsFor run old → IsStepped run s after result → OnOk result (StandsFor (run_on run s) after)
stands_on run s old after (Ok lines) h k = record {
  went = (went_on (step_in run s).lines lines k.lines, h.went);
  has = k.has;
}
stands_on run s old after (Err e) h k = tt

runs_on : {F : Type 0} (run : Run) (s : Step) (after : World F) (result : Result (Vec OutLine) WorldStop)
    → OnOk result (StandsFor (run_on run s) after) → OnOk result (IsRunning after)
runs_on run s after (Ok lines) h = record { run = run_on run s; stands = h }
runs_on run s after (Err e) h = tt

-- numbers that were given stay given
pub later_shelves : {F : Type 0} (given more : ℕ) (marks : List (List (Text × ℕ))) (shelves : Shelves F)
    → given ≤ more → AreShelves given marks shelves → AreShelves more marks shelves
later_shelves given more marks shelves l h place k = h place (omega (arith, l, k))

pub ends_running : {F : Type 0} (old after : World F) (s : Step) (result : Result (Vec OutLine) WorldStop)
    → IsRunning old → ((run : Run) → StandsFor run old → IsStepped run s after result)
    → OnOk result (IsRunning after)
ends_running old after s result h f =
    runs_on h.run s after result
    (stands_on h.run s old after result h.stands (f h.run h.stands))

pub on_ok : {X E P : Type 0} (result : Result X E) → P → OnOk result P
on_ok (Ok x) p = p
on_ok (Err e) p = tt
