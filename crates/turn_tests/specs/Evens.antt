-- What a value that keeps even numbers replies.
use Rattle.std.specs.Prelude.{◌≡◌, ℕ, ◌%◌, Bool, true}

-- it tells whether the number was recorded, and only even ones are
pub record IsTaken (entry : ℕ) (reply recorded : Bool) : Type 0 where
  pub told : reply ≡ recorded
  pub even : recorded ≡ true → entry % 2 ≡ 0
