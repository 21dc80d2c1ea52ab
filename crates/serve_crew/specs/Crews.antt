-- The jobs of a crew.
use Rattle.std.specs.Prelude.{◌≡◌, ◌+◌, ℕ, false, true, length, sum_by}
use Rattle.std.specs.List.{All}
use Rattle.std.specs.Global.{Vec}
use Rattle.transport.specs.declared.link.Link as Link
use Rattle.jobs.specs.declared.running.Running.{Running}
use Rattle.jobs.specs.Runs.{Runs, promise_of}
use Rattle.serve_crew.specs.declared.job.ServeJob.{ServeJob}
use Rattle.serve_crew.specs.declared.job.ServeJob.TheVariants.{Worker, Session}
use Rattle.serve_crew.specs.declared.job.ServeOut.{ServeOut}
use Rattle.serve_crew.specs.Outs.{HasLeft, IsUntouched, JobOf, OutOf, is_unrun}
use Rattle.crew_plans.specs.declared.gathered.Gathered.{Gathered}
use Rattle.crew_plans.specs.Hubs.{Hub, hub_mark}
use Rattle.crew_plans.specs.Gathers.{HasRoom, IsGathered}

-- how many ends of connections a job has: a session one, a worker none
abbrev pub ends_of : {R L G : Type 0} {g : Link.Ghosts L} → ServeJob R L G g → ℕ
ends_of (Worker j) = 0
ends_of (Session j) = 1

-- and one that was started
abbrev pub ends_held : {R L G : Type 0} {g : Link.Ghosts L} → Running (ServeJob R L G g) (ServeOut R L) → ℕ
ends_held running = ends_of ((promise_of running.thread).0.value)

-- how many ends of connections there are with the jobs that run: each of the program's own clients has one
abbrev pub ends_due : {R L G C : Type 0} {g : Link.Ghosts L}
    → Vec (Running (ServeJob R L G g) (ServeOut R L)) → Vec C → ℕ
ends_due running clients = sum_by ends_held running.items + length clients.items

module _ {R L G : Type 0} (g : Link.Ghosts L) where
  -- the Out is one of this job, worked
  abbrev pub Worked : ServeJob R L G g → ServeOut R L → Type 0
  Worked job out = OutOf g job out × (is_unrun out ≡ false) × HasLeft g job out

  -- the Out is one of this job, given up
  abbrev pub GivenUp : ServeJob R L G g → ServeOut R L → Type 0
  GivenUp job out = OutOf g job out × (is_unrun out ≡ true) × IsUntouched g job out

  -- what was started is a job of this hub
  pub record RunsOn (hub : Hub) (running : Running (ServeJob R L G g) (ServeOut R L)) : Type 0 where
    pub job : ServeJob R L G g
    pub runs : Runs running job
    pub of : JobOf g (hub_mark hub) job

  -- The workers and sessions are of the hub, and so is what was gathered; there is room for what they and
  -- the clients leave.
  pub record IsCrew {C : Type 0} (hub : Hub) (running : Vec (Running (ServeJob R L G g) (ServeOut R L)))
      (clients : Vec C) (gathered : Gathered) : Type 0 where
    pub jobs : All (RunsOn hub) running.items
    pub passes : IsGathered hub gathered
    pub pass_room : HasRoom running gathered.passes
    pub log_room : HasRoom clients gathered.logs
