-- How the job of a client ends.
use Rattle.std.specs.Prelude.{◌≡◌, ◌≢◌, ℕ, Bool, Option, Some, is_some, option_map}
use Rattle.transport.specs.declared.link.Phase.{Phase}
use Rattle.transport.specs.declared.link.Phase.TheVariants.{Shut}
use Rattle.sessions.specs.declared.ended.Ended.{Ended}
use Rattle.sessions.specs.declared.ended.Ended.TheVariants.{LinkFault, Stopped}

-- how a client's session ended, without its lines
abbrev pub ending_of : {X : Type 0} → Option (Ended × X) → Option Ended
ending_of told = option_map (λ t. t.0) told

-- how a client's job has ended: its link is shut, it was worked or given up, and an ending by a fault of the
-- link is shown by the link's count
pub record IsClientEnd {X : Type 0} (phase : Phase) (faults : ℕ) (told : Option (Ended × X))
    (worked : Bool) : Type 0 where
  pub shut : phase ≡ Shut
  pub faulty : ending_of told ≡ Some LinkFault → faults ≢ 0
  pub unstopped : ending_of told ≢ Some Stopped
  pub worked_is : is_some told ≡ worked
