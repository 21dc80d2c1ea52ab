-- What is handed back for a job.
use Rattle.std.specs.Prelude.{◌≡◌, ◌≢◌, ◌≤◌, ◌↔◌, ℕ, Bool, true, false, Option, Some, None, Err, ⊤}
use Prim.{⊥}
use Rattle.atomic_table.specs.Seated.{TableId}
use Rattle.hmr_base.specs.Causes.{Rose}
use Rattle.transport.specs.declared.link.Link as Link
use Rattle.transport.specs.declared.link.Phase.TheVariants.{Shut}
use Rattle.sessions.specs.Course.{Course}
use Rattle.sessions.specs.declared.ended.Ended.{Ended}
use Rattle.sessions.specs.declared.ended.Ended.TheVariants.{LinkFault, Stopped}
use Rattle.update_msgs.specs.declared.desk.HubStop.TheVariants.{TranscriptFull}
use Rattle.hmr_hub.specs.Passes.{mark_of}
use Rattle.session_desks.specs.Boards.{SameBoard}
use Rattle.session_desks.specs.Desks.{Left, SameDesk}
use Rattle.session_desks.specs.declared.desk.HubDesk.{HubDesk}
use Rattle.serve_crew.specs.declared.job.ServeJob.{ServeJob}
use Rattle.serve_crew.specs.declared.job.ServeJob.TheVariants.{Worker, Session}
use Rattle.serve_crew.specs.declared.job.ServeOut.{ServeOut}
use Rattle.serve_crew.specs.declared.job.ServeOut.TheVariants.{Worker as WorkerOut, Session as SessionOut}

-- What a session over a link leaves of the link and of its desk, which is of the same hub. The messages that
-- were taken of the link, the answers that were sent and the ending are those of one session.
pub record IsServed {R L : Type 0} (g : Link.Ghosts L) (link : L) (desk : HubDesk R) (ended : Ended) (link' : L)
    (desk' : HubDesk R) : Type 0 where
  pub same : SameDesk desk desk'
  pub course : Course 1 (g.left link) (g.left link') (g.sent link) (g.sent link') None None (Err ended)
  pub shut : g.phase link' ≡ Shut
  pub later : g.faults link ≤ g.faults link'
  pub failed : ended ≡ LinkFault → Rose (g.faults link) (g.faults link')
  pub stopped : (ended ≡ Stopped) ↔ (desk'.full ≡ true)

-- the end of a link is shut, and an ending by its fault is shown by its count
pub record IsShut {L : Type 0} (g : Link.Ghosts L) (link : L) (ended : Option Ended) : Type 0 where
  pub shut : g.phase link ≡ Shut
  pub faulty : ended ≡ Some LinkFault → g.faults link ≢ 0

module _ {R L G : Type 0} (g : Link.Ghosts L) where
  -- what may be handed back for a job, worked or not: of its kind, and with its hub and passes
  abbrev pub OutOf : ServeJob R L G g → ServeOut R L → Type 0
  OutOf (Worker j) (WorkerOut board ended) =
      SameBoard j.board board × (ended ≡ Some (Err TranscriptFull) → board.full ≡ true)
  OutOf (Worker j) (SessionOut desk link ended) = ⊥
  OutOf (Session j) (WorkerOut board ended) = ⊥
  OutOf (Session j) (SessionOut desk link ended) =
      SameDesk j.desk desk × IsShut g link ended × (ended ≡ Some Stopped → desk.full ≡ true)

  -- the job's pass is of the hub with this mark
  abbrev pub JobOf : TableId → ServeJob R L G g → Type 0
  JobOf mark (Worker j) = mark_of j.board.pass ≡ mark
  JobOf mark (Session j) = mark_of j.desk.pass ≡ mark

module _ {R L : Type 0} (g : Link.Ghosts L) where
  -- what was handed back has a pass of the hub with this mark
  abbrev pub OutIsGood : TableId → ServeOut R L → Type 0
  OutIsGood mark (WorkerOut board ended) =
      (mark_of board.pass ≡ mark) × (ended ≡ Some (Err TranscriptFull) → board.full ≡ true)
  OutIsGood mark (SessionOut desk link ended) =
      (mark_of desk.pass ≡ mark) × IsShut g link ended × (ended ≡ Some Stopped → desk.full ≡ true)

module _ {R L G : Type 0} (g : Link.Ghosts L) where
  -- what is handed back of a job that was worked: a session was served, and its desk was left at last
  abbrev pub HasLeft : ServeJob R L G g → ServeOut R L → Type 0
  HasLeft (Worker j) (WorkerOut board ended) = ⊤
  HasLeft (Worker j) (SessionOut desk link ended) = ⊥
  HasLeft (Session j) (WorkerOut board ended) = ⊥
  HasLeft (Session j) (SessionOut desk link ended) =
      (served : HubDesk R) × (how : Ended) × (ended ≡ Some how) × IsServed g j.link j.desk how link served
      × Left served desk

  -- what is handed back of a job that was given up: its desk or board as it was
  abbrev pub IsUntouched : ServeJob R L G g → ServeOut R L → Type 0
  IsUntouched (Worker j) (WorkerOut board ended) = board ≡ j.board
  IsUntouched (Worker j) (SessionOut desk link ended) = ⊥
  IsUntouched (Session j) (WorkerOut board ended) = ⊥
  IsUntouched (Session j) (SessionOut desk link ended) = desk ≡ j.desk

-- the job was given up
abbrev pub is_unrun : {R L : Type 0} → ServeOut R L → Bool
is_unrun (WorkerOut board None) = true
is_unrun (WorkerOut board (Some ended)) = false
is_unrun (SessionOut desk link None) = true
is_unrun (SessionOut desk link (Some ended)) = false

-- the kind of a job
abbrev pub kind_of : {R L G : Type 0} {g : Link.Ghosts L} → ServeJob R L G g → ℕ
kind_of (Worker j) = 0
kind_of (Session j) = 1
