-- What can be served.
use Rattle.std.specs.Prelude.{◌≡◌, ◌≤◌, ℕ, length, IfSome, true, ⊤}
use Rattle.core_model.specs.Roots.{are_distinct}
use Rattle.hmr_types.specs.declared.limits.TheConstants.{ROOTS}
use Rattle.live_words.specs.declared.dev_plan.DevPlan.{DevPlan}
use Rattle.live_words.specs.declared.dev_plan.Wanted.{Wanted}
use Rattle.live_words.specs.declared.dev_plan.Wanted.TheVariants.{Serve, Help}
use Rattle.live_words.specs.declared.reading.Came.{Came}

-- from the one number to the other
pub record InRange (low high n : ℕ) : Type 0 where
  pub least : low ≤ n
  pub most : n ≤ high

-- numbers in their ranges, and 16 roots at most
pub record Fits (came : Came) : Type 0 where
  pub port : IfSome came.port (InRange 0 65535)
  pub workers : IfSome came.workers (InRange 1 16)
  pub few : length came.roots.items ≤ ROOTS

-- a plan with 1 to 16 workers, and 16 modules at most of a made page, no two equal
pub record CanServe (plan : DevPlan) : Type 0 where
  pub workers : InRange 1 16 plan.workers
  pub few : length plan.roots ≤ ROOTS
  pub distinct : are_distinct plan.roots ≡ true

-- where something is to be served, it can be
abbrev pub IsServable : Wanted → Type 0
IsServable (Serve plan) = CanServe plan
IsServable Help = ⊤
