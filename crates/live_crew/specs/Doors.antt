-- The jobs of doors: with which passes they are begun, and with which they end.
use Rattle.std.specs.Prelude.{◌≡◌, ◌≤◌, ◌+◌, ℕ, ⊤, List, All, Some, slice_index, sum_by}
use Rattle.core_model.specs.Names.{Name}
use Rattle.doors.specs.declared.door.Door as Door
use Rattle.doors.specs.declared.visitor.Visitor as Visitor
use Rattle.transport.specs.declared.link.Link as Link
use Rattle.jobs.specs.declared.running.Running.{Running}
use Rattle.jobs.specs.Runs.{promise_of}
use Rattle.hmr_hub.specs.declared.pass.Pass.{Pass}
use Rattle.live_desk.specs.Sessions.{Session}
use Rattle.live_crew.specs.Held.{HasDoors, IsHeld, IsUnused}
use Rattle.live_crew.specs.Outs.{kind_of}
use Rattle.live_crew.specs.declared.job.LiveJob.{LiveJob}
use Rattle.live_crew.specs.declared.job.LiveJob.TheVariants.{Worker, Door as AtDoor}
use Rattle.live_crew.specs.declared.job.LiveOut.{LiveOut}
use Rattle.live_crew.specs.declared.job.LiveOut.TheVariants.{Worker as WorkerOut, Door as DoorOut}

-- the job that was started
abbrev pub job_of : {J O : Type 0} → Running J O → J
job_of running = (promise_of running.thread).0.value

-- how many doors were begun: they are of kind 1
abbrev pub doors_begun : List ℕ → ℕ
doors_begun begun = slice_index begun 1

-- the kind of the job that this was handed back for
abbrev pub kind_out : {R D F : Type 0} → LiveOut R D F → ℕ
kind_out (WorkerOut board ended) = 0
kind_out (DoorOut door attendant ended) = 1

-- what was handed back for a door has a pass of just those sessions that were held with it
abbrev pub OutIsHeld : {R D F : Type 0} → List Name → LiveOut R D F → Type 0
OutIsHeld roots (WorkerOut board ended) = ⊤
OutIsHeld roots (DoorOut door attendant ended) = (p : Pass) → attendant.pass ≡ Some p
    → (sessions : List Session) × IsHeld roots (record { pass = p; sessions = sessions })

module _ {R D F E : Type 0} {v : Visitor.Ghosts E} {l : Link.Ghosts E} (g : Door.Ghosts D E) where
  -- nothing was called with the pass of a door
  abbrev pub IsFresh : List Name → LiveJob R D F E g v l → Type 0
  IsFresh roots (Worker j) = ⊤
  IsFresh roots (AtDoor j) = (p : Pass) → j.attendant.pass ≡ Some p → IsUnused roots p

  abbrev pub AreFresh : List Name → List (Running (LiveJob R D F E g v l) (LiveOut R D F)) → Type 0
  AreFresh roots running = All (λ r. IsFresh roots (job_of r)) running

  -- how many of these jobs are doors
  abbrev pub doors_in : List (Running (LiveJob R D F E g v l) (LiveOut R D F)) → ℕ
  doors_in running = sum_by (λ r. kind_of (job_of r)) running

  -- each door that was begun is among these jobs, and was begun with a pass with which nothing was called
  pub record AreDoors (roots : List Name) (begun : List ℕ)
      (running : List (Running (LiveJob R D F E g v l) (LiveOut R D F))) : Type 0 where
    pub many : doors_begun begun ≤ doors_in running
    pub fresh : AreFresh roots running

  -- it stays so while more jobs are begun
  abbrev pub KeepsDoors : List Name → List ℕ → List ℕ
      → List (Running (LiveJob R D F E g v l) (LiveOut R D F))
      → List (Running (LiveJob R D F E g v l) (LiveOut R D F)) → Type 0
  KeepsDoors roots begun begun' running running' = AreDoors roots begun running
      → AreDoors roots begun' running'

  -- the passes of the doors that ended so far, and those that run
  pub record Finishing (roots : List Name) (all : ℕ)
      (running : List (Running (LiveJob R D F E g v l) (LiveOut R D F))) (passes : List Pass) : Type 0 where
    pub fresh : AreFresh roots running
    pub count : ℕ
    pub whole : all ≤ doors_in running + count
    pub doors : HasDoors roots count passes
