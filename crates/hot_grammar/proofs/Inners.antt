-- The readers of what stands inside.
use Rattle.std.proofs.Common.{◌≡◌, ℕ, zero, suc, refl}
use Rattle.module_semantics.specs.Reading.{inner, expr}

pub inner_expr : (n : ℕ) → (inner n).expr ≡ expr n
unfolding inner
inner_expr zero = refl
inner_expr (suc n) = refl
