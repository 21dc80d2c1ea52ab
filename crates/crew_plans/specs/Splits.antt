-- The pass from which those of the jobs are split off.
use Rattle.std.specs.Prelude.{◌≡◌, ◌↔◌, Bool, true, false, [], Result, IsErrOf}
use Rattle.turn_lock.specs.declared.pass.SplitFault.{SplitFault}
use Rattle.turn_lock.specs.declared.pass.SplitFault.TheVariants.{Spent as SplitSpent}
use Rattle.hmr_base.specs.declared.out_fault.OutFault.{OutFault}
use Rattle.hmr_base.specs.declared.out_fault.OutFault.TheVariants.{Failed, NoMemory as NoMemoryOutside}
use Rattle.hmr_hub.specs.declared.pass.Pass.{Pass}
use Rattle.hmr_hub.specs.Passes.{HasTranscript}
use Rattle.hmr_hub.specs.Moves.{Moved}
use Rattle.crew_plans.specs.declared.cause.Cause.{Cause}
use Rattle.crew_plans.specs.declared.cause.Cause.TheVariants.{Fault, NoMemory, Spent}

-- passes were split off it, and nothing else
pub record Divided (p q : Pass) : Type 0 where
  pub moved : Moved p q []
  pub transcript : HasTranscript p → HasTranscript q

-- the numbers of passes are spent exactly where a split found that all were given
abbrev pub IsSpentBy : {T : Type 0} → Bool → Bool → Result T Cause → Type 0
IsSpentBy given given' result = given ≡ false → (IsErrOf result Spent ↔ (given' ≡ true))

-- the cause of a refused call of the net
abbrev pub cause_outside : OutFault → Cause
cause_outside Failed = Fault
cause_outside NoMemoryOutside = NoMemory

-- the cause of a refused split
abbrev pub cause_of_split : SplitFault → Cause
cause_of_split SplitSpent = Spent
