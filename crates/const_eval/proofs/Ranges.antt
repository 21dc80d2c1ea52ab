-- What doesn't fit is out of range.
use Rattle.std.proofs.Common.{◌≡◌, ℤ, pos, negsuc, false, refl, arith, Err, FitsSigned, w64}
use Rattle.std.proofs.lemmas.Int.{ints}
use Rattle.module_semantics.specs.Values.{number, in_range}
use Rattle.hmr_types.specs.declared.value.EvalFault.TheVariants.{Range}

out : (z : ℤ) → ¬ (FitsSigned w64 z) → in_range z ≡ false
out (pos n) h = grind (arith, ints)
out (negsuc n) h = grind (arith, ints)

-- a number past 64 bits
pub too_large : (z : ℤ) → ¬ (FitsSigned w64 z) → number z ≡ Err Range
unfolding number
too_large z h = rw (out z h) refl
