-- How the instances of a client stand, and the number of a name that an end takes away.
use Rattle.std.specs.Prelude.{◌≡◌, ◌==◌, ◌&&◌, [], ◌∷◌, ℕ, suc, true, List, length, Option, Some, None}
use Rattle.std.specs.Prelude.{if◌then◌else◌}
use Rattle.core_model.specs.Names.{Name, same_name}
use Rattle.client_model.specs.Instance as model
use Rattle.client_model.specs.Instance.{is_live, live_at}
use Rattle.client_model.specs.Linking.{number_in}

-- the number, none where it is this one
abbrev pub without_number : ℕ → Option ℕ → Option ℕ
without_number k None = None
without_number k (Some m) = if m == k then None else Some m

-- the numbers of instances fall by one to 1
abbrev pub NumbersFall : List model.Instance → Type 0
NumbersFall [] = Unit {0}
NumbersFall (i ∷ is) = (i.number ≡ suc (length is)) × NumbersFall is

-- what is live under this name has number k
abbrev pub OnlyLive : ℕ → Name → List model.Instance → Type 0
OnlyLive k n [] = Unit {0}
OnlyLive k n (i ∷ is) = ((is_live i && same_name i.name n) ≡ true → (i.number == k) ≡ true) × OnlyLive k n is

-- instances stand by falling number, and a name has at most one that is live
pub record Orderly (is : List model.Instance) : Type 0 where
  pub numbers : NumbersFall is
  pub single : (n : Name) (k : ℕ) → number_in (live_at is n) ≡ Some k → OnlyLive k n is
