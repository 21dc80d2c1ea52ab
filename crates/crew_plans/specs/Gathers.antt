-- What comes together of the jobs that ended.
use Rattle.std.specs.Prelude.{◌≡◌, ◌≤◌, ◌<◌, ◌+◌, ◌⊎◌, ◌||◌, ◌++◌, ℕ, Bool, true, List, ◌∷◌, length}
use Rattle.std.specs.Prelude.{vec_len, vec_capacity}
use Rattle.std.specs.List.{All}
use Rattle.std.specs.Global.{Vec}
use Rattle.hmr_base.specs.Causes.{Rose}
use Rattle.hmr_hub.specs.declared.pass.Hub.{Hub}
use Rattle.hmr_hub.specs.declared.pass.Pass.{Pass}
use Rattle.hmr_hub.specs.Passes.{IsPassOf, seen_of}
use Rattle.hmr_hub.specs.Fullness.{IsNearlyFull}
use Rattle.sessions.specs.declared.log.Log.{Log}
use Rattle.crew_plans.specs.declared.gathered.Gathered.{Gathered}

-- some pass has seen a transcript that has no place for a message of full size
pub record SomeFull (passes : List Pass) : Type 0 where
  pub front : List Pass
  pub pass : Pass
  pub back : List Pass
  pub whole : passes ≡ front ++ pass ∷ back
  pub full : IsNearlyFull (seen_of pass)

-- the passes are of the hub; where the hub was full, one of them has seen that
pub record IsGathered (hub : Hub) (g : Gathered) : Type 0 where
  pub of : All (IsPassOf hub) g.passes.items
  pub full : g.full ≡ true → SomeFull g.passes.items

-- how many passes there are once all jobs are finished: each worker and each session gives one back
abbrev pub passes_due : {J : Type 0} → Vec J → Gathered → ℕ
passes_due running gathered = length running.items + length gathered.passes.items

-- how many logs there are then: each of the program's own clients leaves one
abbrev pub logs_due : {C : Type 0} → Vec C → Gathered → ℕ
logs_due clients gathered = length clients.items + length gathered.logs.items

-- there is room for what each of the jobs that run will leave
abbrev pub HasRoom : {J T : Type 0} → Vec J → Vec T → Type 0
HasRoom running left = vec_len running + vec_len left ≤ vec_capacity left

-- and for one more job
pub record HasPlace {J T : Type 0} (running : Vec J) (left : Vec T) : Type 0 where
  pub one : vec_len running < vec_capacity running
  pub rest : vec_len running + 1 + vec_len left ≤ vec_capacity left

-- these were added behind the others, in their room
pub record Added {T : Type 0} (more : List T) (old new : Vec T) : Type 0 where
  pub items : new.items ≡ old.items ++ more
  pub count : vec_len new ≡ vec_len old + length more
  pub room : vec_capacity new ≡ vec_capacity old

-- what a job leaves was added, and what went wrong was noted
pub record TakenIn (passes : List Pass) (logs : List Log)
    (memory full fault : Bool) (old new : Gathered) : Type 0 where
  pub passes_are : Added passes old.passes new.passes
  pub logs_are : Added logs old.logs new.logs
  pub memory_is : new.memory ≡ (old.memory || memory)
  pub full_is : new.full ≡ (old.full || full)
  pub fault_is : new.fault ≡ (old.fault || fault)

-- nothing but room was added
pub record SameGathered (old new : Gathered) : Type 0 where
  pub passes : new.passes.items ≡ old.passes.items
  pub logs : new.logs.items ≡ old.logs.items
  pub memory : new.memory ≡ old.memory
  pub full : new.full ≡ old.full
  pub fault : new.fault ≡ old.fault

-- No count falls, and a fault is noted only where one of them rose; it stays noted. The counts are n of the
-- net and p of the spawner.
pub record Gathers (old new : Gathered) (n n' p p' : ℕ) : Type 0 where
  pub net_later : n ≤ n'
  pub spawner_later : p ≤ p'
  pub stays : old.fault ≡ true → new.fault ≡ true
  pub fault : new.fault ≡ true → (old.fault ≡ true) ⊎ (Rose n n' ⊎ Rose p p')
