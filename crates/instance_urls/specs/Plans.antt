-- The texts of plans.
use Rattle.std.specs.Prelude.{ℕ, ◌+◌, ◌-◌, ◌*◌, ◌≤◌, List, ◌∷◌, ◌++◌, Bool, ◌&&◌, ◌==◌, nat_le, bytes_eq, decimal, Option, Some, None, if◌then◌else◌}
use Rattle.std.specs.List.{after_first, before_first, fold}
use Rattle.hmr_types.specs.declared.limits.TheConstants.{LARGEST_NUMBER}
use Rattle.instance_urls.specs.declared.plan_id.PlanId.{PlanId}

-- its numbers are in the range of numbers
pub record IsPlan (id : PlanId) : Type 0 where
  pub page : id.page ≤ LARGEST_NUMBER
  pub plan : id.plan ≤ LARGEST_NUMBER

-- `PAGE.PLAN`
abbrev pub plan_text : PlanId → List ℕ
plan_text id = decimal id.page ++ 46 ∷ decimal id.plan

-- the plan of these numbers, where both are there
abbrev pub both : Option ℕ → Option ℕ → Option PlanId
both None plan = None
both (Some page) None = None
both (Some page) (Some plan) = Some (record { page = page; plan = plan })

-- the digits so far, as a number, and one more
abbrev pub with_digit : ℕ → ℕ → ℕ
with_digit n b = 10 * n + (b - 48)

abbrev pub digits_value : List ℕ → ℕ
digits_value ds = fold with_digit 0 ds

-- the text is the number in decimal
abbrev pub is_number : List ℕ → ℕ → Bool
is_number text n = bytes_eq text (decimal n) && nat_le n LARGEST_NUMBER

-- the number that a text is in decimal, without leading zeros
abbrev pub number_of : List ℕ → Option ℕ
number_of text = if is_number text (digits_value text) then Some (digits_value text) else None

abbrev pub is_dot : ℕ → Bool
is_dot b = b == 46

-- the plan whose text this is: two numbers, around the first dot
unfoldable pub plan_of : List ℕ → Option PlanId
plan_of text = both (number_of (before_first is_dot text)) (number_of (after_first is_dot text))
