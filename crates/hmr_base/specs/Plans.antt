-- Which calls of a form in memory are to fail.
use Rattle.std.specs.Prelude.{◌≡◌, ℕ, ◌+◌, ◌-◌, ◌^◌, min, List, Bool, ◌||◌, ◌==◌, Option, Some, None}
use Rattle.std.specs.List.{list_any}
use Rattle.hmr_base.specs.declared.fault_plan.FaultPlan.{FaultPlan}

-- the number of the next call, and the numbers of the calls that are to fail
pub record Plan : Type 0 where
  pub call : ℕ
  pub failing : List ℕ

-- before the first call
abbrev pub fresh_plan : List ℕ → Plan
fresh_plan failing = record { call = 0; failing = failing }

-- whether the next call is to fail
abbrev pub is_to_fail : Plan → Bool
is_to_fail plan = list_any (λ number. number == plan.call) plan.failing

-- one call later; the numbers end at the largest of their type
abbrev pub after_call : Plan → Plan
after_call plan = record { call = min (plan.call + 1) (2 ^ 64 - 1); failing = plan.failing }

-- where the plan is told: the call was counted, and failed exactly where it was to, or for a cause of its
-- own
abbrev pub AsPlanned : Option Plan → Option Plan → Bool → Bool → Type 0
AsPlanned None now failed own = now ≡ None
AsPlanned (Some plan) now failed own = (now ≡ Some (after_call plan)) × (failed ≡ (is_to_fail plan || own))

-- the plan that an object holds
abbrev pub plan_of : FaultPlan → Plan
plan_of plan = record { call = plan.call; failing = plan.failing.items }

-- how many of its calls failed
abbrev pub faults_of : FaultPlan → ℕ
faults_of plan = plan.faults
