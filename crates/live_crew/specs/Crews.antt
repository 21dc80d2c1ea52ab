-- The jobs of a live server that run, and the passes that came back.
use Rattle.std.specs.Prelude.{◌≡◌, ◌≤◌, ◌<◌, ◌+◌, ◌++◌, ℕ, [], ◌∷◌, length, vec_len, vec_capacity}
use Rattle.std.specs.List.{All}
use Rattle.std.specs.Global.{Vec}
use Rattle.doors.specs.declared.door.Door as Door
use Rattle.doors.specs.declared.visitor.Visitor as Visitor
use Rattle.transport.specs.declared.link.Link as Link
use Rattle.jobs.specs.declared.running.Running.{Running}
use Rattle.jobs.specs.Runs.{Runs}
use Rattle.hmr_hub.specs.declared.pass.Hub.{Hub}
use Rattle.hmr_hub.specs.declared.pass.Pass.{Pass}
use Rattle.hmr_hub.specs.Passes.{IsPassOf, hub_mark}
use Rattle.live_crew.specs.declared.job.LiveJob.{LiveJob}
use Rattle.live_crew.specs.declared.job.LiveOut.{LiveOut}
use Rattle.live_crew.specs.Outs.{JobOf}

-- how many passes there are once all jobs are finished: each job gives one back
abbrev pub passes_due : {J : Type 0} → Vec J → Vec Pass → ℕ
passes_due running passes = length running.items + length passes.items

-- there is room for what each of the jobs that run will leave
abbrev pub HasRoom : {J : Type 0} → Vec J → Vec Pass → Type 0
HasRoom running passes = vec_len running + vec_len passes ≤ vec_capacity passes

-- and for one more job
pub record HasPlace {J : Type 0} (running : Vec J) (passes : Vec Pass) : Type 0 where
  pub one : vec_len running < vec_capacity running
  pub rest : vec_len running + 1 + vec_len passes ≤ vec_capacity passes

-- a pass of the hub was put behind the others, in their room
pub record TakenIn (hub : Hub) (old new : Vec Pass) : Type 0 where
  pub pass : Pass
  pub of : IsPassOf hub pass
  pub items : new.items ≡ old.items ++ pass ∷ []
  pub count : vec_len new ≡ vec_len old + 1
  pub room : vec_capacity new ≡ vec_capacity old

module _ {R D F E : Type 0} {v : Visitor.Ghosts E} {l : Link.Ghosts E} (g : Door.Ghosts D E) where
  -- what was started is a job of this hub
  pub record RunsOn (hub : Hub) (running : Running (LiveJob R D F E g v l) (LiveOut R D F)) : Type 0 where
    pub job : LiveJob R D F E g v l
    pub runs : Runs running job
    pub of : JobOf g (hub_mark hub) job

  -- the jobs are of the hub, and so are the passes that came back; there is room for what the jobs leave
  pub record IsCrew (hub : Hub) (running : Vec (Running (LiveJob R D F E g v l) (LiveOut R D F)))
      (passes : Vec Pass) : Type 0 where
    pub jobs : All (RunsOn hub) running.items
    pub passes_of : All (IsPassOf hub) passes.items
    pub room : HasRoom running passes
