-- How long a body is, as the fields of its head say.
use Rattle.std.specs.Prelude.{ℕ, ◌+◌, ◌-◌, ◌*◌, Bool, true, false, ◌&&◌, nat_le, nat_lt, if◌then◌else◌}
use Rattle.std.specs.Prelude.{List, [], ◌∷◌, codes}
use Rattle.http_heads.specs.Head.{Fields, same_letters}
use Rattle.request_details.specs.declared.body.Body.{Body}
use Rattle.request_details.specs.declared.body.Body.TheVariants as body
use Rattle.request_details.specs.declared.body.TheConstants.{BODY_BYTES}

abbrev pub is_digit : ℕ → Bool
is_digit b = nat_le 48 b && nat_le b 57

abbrev pub are_digits : List ℕ → Bool
are_digits [] = true
are_digits (b ∷ bytes) = if is_digit b then are_digits bytes else false

-- one digit at least, and nothing else
abbrev pub is_number : List ℕ → Bool
is_number [] = false
is_number (b ∷ bytes) = are_digits (b ∷ bytes)

-- the number of these decimal digits behind others
abbrev pub number : ℕ → List ℕ → ℕ
number before [] = before
number before (b ∷ bytes) = number (10 * before + (b - 48)) bytes

-- a body of so many bytes
abbrev pub sized : ℕ → Body
sized count = if nat_lt BODY_BYTES count then body.Long else body.Bytes count

abbrev pub length_of : List ℕ → Body
length_of value = if is_number value then sized (number 0 value) else body.Unclear

-- the length by a Content-Length, of which there is one at most
abbrev pub only_length : Body → List ℕ → Body
only_length body.Untold value = length_of value
only_length (body.Bytes count) value = body.Unclear
only_length body.Long value = body.Unclear
only_length body.Unclear value = body.Unclear

-- how long the body is by a further field
abbrev pub body_with : Body → List ℕ × List ℕ → Body
body_with before f =
    if same_letters f.0 (codes "transfer-encoding") then body.Unclear
    else if same_letters f.0 (codes "content-length") then only_length before f.1
    else before

-- how long the body is by further fields
abbrev pub body_of : Body → Fields → Body
body_of before [] = before
body_of before (f ∷ fields) = body_of (body_with before f) fields
