-- What is handed back for a job.
use Rattle.std.specs.Prelude.{◌≡◌, ℕ, true, false, is_some}
use Prim.{⊥}
use Rattle.std.specs.Arc.{arc_value}
use Rattle.atomic_table.specs.Seated.{TableId}
use Rattle.doors.specs.declared.door.Door as Door
use Rattle.doors.specs.declared.visitor.Visitor as Visitor
use Rattle.transport.specs.declared.link.Link as Link
use Rattle.hmr_hub.specs.Passes.{hub_mark}
use Rattle.live_desk.specs.Boards.{SameLive}
use Rattle.live_crew.specs.Attendants.{SameAttendant}
use Rattle.live_crew.specs.declared.job.LiveJob.{LiveJob}
use Rattle.live_crew.specs.declared.job.LiveJob.TheVariants.{Worker, Door as AtDoor}
use Rattle.live_crew.specs.declared.job.LiveOut.{LiveOut}
use Rattle.live_crew.specs.declared.job.LiveOut.TheVariants.{Worker as WorkerOut, Door as DoorOut}

module _ {R D F E : Type 0} {v : Visitor.Ghosts E} {l : Link.Ghosts E} (g : Door.Ghosts D E) where
  -- What is handed back for a job, worked or not: of its kind, and with its hub and a pass of the same number.
  -- A door has no end out.
  abbrev pub OutOf : LiveJob R D F E g v l → LiveOut R D F → Type 0
  OutOf (Worker j) (WorkerOut board ended) = SameLive j.board board
  OutOf (Worker j) (DoorOut door attendant ended) = ⊥
  OutOf (AtDoor j) (WorkerOut board ended) = ⊥
  OutOf (AtDoor j) (DoorOut door attendant ended) =
      SameAttendant j.attendant attendant × (g.is_out door ≡ false)

  -- the job's pass is of the hub with this mark
  abbrev pub JobOf : TableId → LiveJob R D F E g v l → Type 0
  JobOf mark (Worker j) = hub_mark (arc_value j.board.board.hub) ≡ mark
  JobOf mark (AtDoor j) = hub_mark (arc_value j.attendant.hub) ≡ mark

module _ {R D F E : Type 0} (g : Door.Ghosts D E) where
  -- what was handed back has a pass of the hub with this mark
  abbrev pub OutIsGood : TableId → LiveOut R D F → Type 0
  OutIsGood mark (WorkerOut board ended) = hub_mark (arc_value board.board.hub) ≡ mark
  OutIsGood mark (DoorOut door attendant ended) =
      (hub_mark (arc_value attendant.hub) ≡ mark)
      × (is_some attendant.pass ≡ true) × (g.is_out door ≡ false)

-- the kind of a job
abbrev pub kind_of : {R D F E : Type 0} {v : Visitor.Ghosts E} {l : Link.Ghosts E} {g : Door.Ghosts D E}
    → LiveJob R D F E g v l → ℕ
kind_of (Worker j) = 0
kind_of (AtDoor j) = 1
