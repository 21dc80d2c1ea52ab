-- What was put in two steps was put in one.
use Rattle.std.proofs.Common.{◌≡◌, ℕ, List, ◌++◌, append_assoc, ap, ◌∙◌}
use Rattle.std.specs.Prelude.{Result, Ok, Err, OnOk}

pub both_put : (a b c x y : List ℕ) → b ≡ a ++ x → c ≡ b ++ y → c ≡ a ++ (x ++ y)
both_put a b c x y first then = then ∙ (ap (λ z. z ++ y) first ∙ append_assoc a x y)

pub two_puts : {X E : Type 0} (r : Result X E) (a b c x y : List ℕ) → b ≡ a ++ x → OnOk r (c ≡ b ++ y) → OnOk r (c ≡ a ++ (x ++ y))
two_puts (Ok u) a b c x y first then = both_put a b c x y first then
two_puts (Err e) a b c x y first then = tt
