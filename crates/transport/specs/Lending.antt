-- The ends that a net gives and takes back. A net is seen by three facts: how many ends are lent, whether
-- one was refused, and whether one was given after that.
use Rattle.std.specs.Prelude.{◌≡◌, ◌+◌, ◌||◌, ℕ, Bool, true}

-- one more end is lent; it is late where one was refused before
pub record HasGiven (lent lent' : ℕ) (refused refused' late late' : Bool) : Type 0 where
  pub one_more : lent' ≡ lent + 1
  pub refused_is : refused' ≡ refused
  pub late_is : late' ≡ (late || refused)

-- an end was refused, and none was given
pub record HasRefused (lent lent' : ℕ) (refused' late late' : Bool) : Type 0 where
  pub none_more : lent' ≡ lent
  pub refused_is : refused' ≡ true
  pub late_is : late' ≡ late
