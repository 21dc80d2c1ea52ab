-- What was put in some steps was put in one.
use Rattle.std.proofs.Common.{◌≡◌, ℕ, List, ◌++◌, append_assoc, ap, ◌∙◌}
use Rattle.std.specs.Prelude.{Result, Ok, Err, OnOk}

pub two_puts : {X E : Type 0} (r : Result X E) (a b c x y : List ℕ) → b ≡ a ++ x → OnOk r (c ≡ b ++ y) → OnOk r (c ≡ a ++ (x ++ y))
two_puts (Ok u) a b c x y first last = last ∙ (ap (λ t. t ++ y) first ∙ append_assoc a x y)
two_puts (Err e) a b c x y first last = tt

pub three_puts : {X E : Type 0} (r : Result X E) (a b c d x y z : List ℕ) → b ≡ a ++ x → c ≡ b ++ y → OnOk r (d ≡ c ++ z) → OnOk r (d ≡ a ++ (x ++ (y ++ z)))
three_puts r a b c d x y z first second last = two_puts r a b d x (y ++ z) first (two_puts r b c d y z second last)

pub four_puts : {X E : Type 0} (r : Result X E) (a b c d e w x y z : List ℕ) → b ≡ a ++ w → c ≡ b ++ x → d ≡ c ++ y → OnOk r (e ≡ d ++ z) → OnOk r (e ≡ a ++ (w ++ (x ++ (y ++ z))))
four_puts r a b c d e w x y z first second third last = two_puts r a b e w (x ++ (y ++ z)) first (three_puts r b c d e x y z second third last)
