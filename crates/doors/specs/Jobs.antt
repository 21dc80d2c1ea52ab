-- How the job of a door ends.
use Rattle.std.specs.Prelude.{◌≡◌, ◌≤◌, ◌↔◌, ℕ, List, Option, Some, None, Bool, true, false}
use Rattle.transport.specs.Told.{IsNoneLeft}
use Rattle.doors.specs.declared.serving.DoorEnd.{DoorEnd}
use Rattle.doors.specs.declared.serving.DoorEnd.TheVariants.{Shut, Done}
use Rattle.doors.specs.declared.job.DoorOut.{DoorOut}

-- Each end that the door gave was served once and is given back; the door was shut, with nothing left to
-- come, or the attendant was done; and what stays of an attendant over its visits has stayed.
pub record HasServed (is_out is_shut : Bool) (coming : Option (List (List ℕ))) (visits attended : ℕ)
    (is_done : Bool) (faults faults' : ℕ) (stays : Type 0) (ended : Option DoorEnd) : Type 0 where
  pub back : is_out ≡ false
  pub even : attended ≡ visits
  pub shut : ended ≡ Some Shut ↔ is_shut ≡ true
  pub done : ended ≡ Some Done ↔ is_done ≡ true
  pub all : ended ≡ Some Shut → IsNoneLeft coming
  pub later : faults ≤ faults'
  pub stayed : stays

-- door and attendant are as they were
pub record IsUnserved {D A : Type 0} (door : D) (attendant : A) (out : DoorOut D A) : Type 0 where
  pub door_is : out.door ≡ door
  pub attendant_is : out.attendant ≡ attendant
  pub ended_is : out.ended ≡ None
