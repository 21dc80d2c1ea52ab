-- No end is due once no job is left.
use Rattle.std.proofs.Common.{◌≡◌, ℕ, ◌+◌, List, [], ◌∷◌, length, sum_by, arith}
use Rattle.crew_plans.specs.Lendings.{Lends}

pub lends_all : {X : Type 0} (f : X → ℕ) (xs ys : List X) (l m : ℕ) → length ys ≡ 0 → Lends (sum_by f xs) (sum_by f ys) l m → Lends (sum_by f xs) 0 l m
lends_all f xs [] l m none ends = ends
lends_all f xs (y ∷ ys) l m none ends = absurd (omega (arith, none))
