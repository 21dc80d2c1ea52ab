-- Values, and what the operators make of them.
use Rattle.std.specs.Prelude.{ℕ, zero, suc, ℤ, pos, negsuc, ◌+ℤ◌, ◌-ℤ◌, ◌*ℤ◌, neg_ℤ, Bool, true, false}
use Rattle.std.specs.Prelude.{nat_le, nat_lt, if◌then◌else◌, List, [], ◌∷◌, ◌++◌, length, codes, Result, Ok}
use Rattle.std.specs.Prelude.{Err}
use Rattle.std.specs.Fmt.{signed_decimal}
use Rattle.hmr_types.specs.Results.{◌>>=◌}
use Rattle.hmr_types.specs.declared.limits.TheConstants.{LARGEST_NUMBER, VALUE_BYTES}
use Rattle.module_tree.specs.declared.tree.Op.{Op}
use Rattle.module_tree.specs.declared.tree.Op.TheVariants.{Null, Add, Sub, Mul}
use Rattle.hmr_types.specs.declared.value.Value.{Value}
use Rattle.hmr_types.specs.declared.value.Value.TheVariants.{Num, Str, Undef}
use Rattle.hmr_types.specs.declared.value.EvalFault.{EvalFault}
use Rattle.hmr_types.specs.declared.value.EvalFault.TheVariants.{NotNumber, Range}

-- within plus or minus 9007199254740991
abbrev pub in_range : ℤ → Bool
in_range (pos n) = nat_le n LARGEST_NUMBER
in_range (negsuc n) = nat_lt n LARGEST_NUMBER

-- a number that is in range
unfoldable pub number : ℤ → Result Value EvalFault
number z = if in_range z then Ok (Num z) else Err Range

-- a text of at most 4,096 bytes
unfoldable pub text : List ℕ → Result Value EvalFault
text s = if nat_le (length s) VALUE_BYTES then Ok (Str s) else Err Range

-- a value written as text
abbrev pub written : Value → List ℕ
written (Num z) = signed_decimal z
written (Str s) = s
written Undef = codes "undefined"

-- two numbers have a sum; where one side is a text, both are written and joined
abbrev pub added : Value → Value → Result Value EvalFault
added (Num a) (Num b) = number (a +ℤ b)
added (Num a) (Str t) = text (written (Num a) ++ t)
added (Num a) Undef = Err NotNumber
added (Str s) b = text (s ++ written b)
added Undef (Num b) = Err NotNumber
added Undef (Str t) = text (written Undef ++ t)
added Undef Undef = Err NotNumber

-- two numbers have a difference
abbrev pub subtracted : Value → Value → Result Value EvalFault
subtracted (Num a) (Num b) = number (a -ℤ b)
subtracted (Num a) (Str t) = Err NotNumber
subtracted (Num a) Undef = Err NotNumber
subtracted (Str s) b = Err NotNumber
subtracted Undef b = Err NotNumber

-- two numbers have a product
abbrev pub multiplied : Value → Value → Result Value EvalFault
multiplied (Num a) (Num b) = number (a *ℤ b)
multiplied (Num a) (Str t) = Err NotNumber
multiplied (Num a) Undef = Err NotNumber
multiplied (Str s) b = Err NotNumber
multiplied Undef b = Err NotNumber

-- a number has an opposite
abbrev pub negated : Value → Result Value EvalFault
negated (Num a) = number (neg_ℤ a)
negated (Str s) = Err NotNumber
negated Undef = Err NotNumber

-- 0, the empty text and `undefined` are false
abbrev pub truth : Value → Bool
truth (Num (pos zero)) = false
truth (Num (pos (suc n))) = true
truth (Num (negsuc n)) = true
truth (Str []) = false
truth (Str (b ∷ bs)) = true
truth Undef = false

-- an operator between two values; of `??` this is the right one
abbrev pub with_op : Op → Value → Value → Result Value EvalFault
with_op Null a b = Ok b
with_op Add a b = added a b
with_op Sub a b = subtracted a b
with_op Mul a b = multiplied a b

-- `??`: the left value, or what the right side gives where it is `undefined`
abbrev pub or_else : Value → Result Value EvalFault → Result Value EvalFault
or_else (Num n) right = Ok (Num n)
or_else (Str s) right = Ok (Str s)
or_else Undef right = right

-- an operator whose left side has this value, and whose right side gives this
abbrev pub with_right : Op → Value → Result Value EvalFault → Result Value EvalFault
with_right Null a right = or_else a right
with_right Add a right = right >>= with_op Add a
with_right Sub a right = right >>= with_op Sub a
with_right Mul a right = right >>= with_op Mul a
