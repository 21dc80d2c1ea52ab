-- A plan as a page tells it, and where its instances are.
use Rattle.std.specs.Prelude.{ℕ, List, Bool, true, false, Option, Some, None}
use Rattle.std.specs.Cmp.Lexicographic.{slice_cmp}
use Rattle.std.specs.Map.{lookup}
use Rattle.std.specs.Ordering.{is_eq, nat_cmp}
use Rattle.instance_urls.specs.declared.plan_id.PlanId.{PlanId}
use Rattle.told_plans.specs.declared.told_plan.Kept.{Kept}

-- which plan it is, whether what it makes is at plain URLs, the modules that it makes, and those that it keeps
pub record Told : Type 0 where
  pub id : PlanId
  pub plain : Bool
  pub made : List (List ℕ × ℕ)
  pub kept : List (List ℕ × Kept)

-- what stands beside a name
abbrev pub at : {X : Type 0} → List (List ℕ × X) → List ℕ → Option X
at rows name = lookup (λ n. is_eq (slice_cmp nat_cmp name n)) rows

-- where the instances are that a plan makes
abbrev pub made_plan : Bool → PlanId → Option PlanId
made_plan true id = None
made_plan false id = Some id

-- where an instance is that a plan keeps; one that isn't told of is at the plain URL
abbrev pub kept_plan : Option Kept → Option PlanId
kept_plan None = None
kept_plan (Some k) = k.plan

abbrev pub if_made : Option ℕ → Option PlanId → Option PlanId → Option PlanId
if_made None made kept = kept
if_made (Some v) made kept = made

-- where the instance of a module is to which those of the plan are linked
abbrev pub instance_of : Told → List ℕ → Option PlanId
instance_of t name = if_made (at t.made name) (made_plan t.plain t.id) (kept_plan (at t.kept name))
