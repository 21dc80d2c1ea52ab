-- Numbers that are read digit by digit.
use Rattle.std.proofs.Common.{◌≡◌, ◌<◌, ◌≤◌, ◌+◌, ◌-◌, ◌*◌, ℕ, List, [], ◌∷◌, arith, refl, subst, sym}
use Rattle.std.proofs.lemmas.Bool.{lt-ltb}
use Rattle.request_details.specs.Bodies.{number, sized}
use Rattle.request_details.specs.declared.body.Body.TheVariants as body
use Rattle.request_details.specs.declared.body.TheConstants.{BODY_BYTES}

-- further digits never make a number less
number_grows : (digits : List ℕ) (before : ℕ) → before ≤ number before digits
number_grows [] before = omega arith
number_grows (b ∷ digits) before =
    let more = number_grows digits (10 * before + (b - 48)) in
    omega (arith, more)

-- a number that is too large stays so
pub long_at : (all rest : List ℕ) (count : ℕ) → BODY_BYTES < count → number 0 all ≡ number count rest
    → body.Long ≡ sized (number 0 all)
long_at all rest count above same =
    let more = number_grows rest count in
    let large : BODY_BYTES < number count rest = omega (arith, above, more) in
    let all_large : BODY_BYTES < number 0 all = subst (λ n. BODY_BYTES < n) (sym same) large in
    rw (lt-ltb BODY_BYTES (number 0 all) all_large) refl
