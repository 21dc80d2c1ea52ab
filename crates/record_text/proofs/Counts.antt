-- A number in decimal is read as that number.
use Rattle.std.proofs.Common.{ℕ, zero, suc, ◌^◌, ◌<◌, ◌≤◌, List, [], ◌∷◌, get_or, false, ◌≡◌, refl, arith, Option, Some, None, Ok}
use Rattle.std.specs.Prelude.{codes, decimal, nat_eq}
use Rattle.std.specs.Fmt.{digits}
use Rattle.std.proofs.lemmas.Bool.Decides.{nat_tests}
use Rattle.std.proofs.lemmas.Fmt.{first_decimal}
use Rattle.hmr_types.specs.ModName.{is_text}
use Rattle.play_script.specs.Script.{number_of, or_fault}
use Rattle.play_script.specs.declared.fault.ScriptKind.TheVariants.{BadNumber}
use Rattle.play_script.proofs.SpelledNumbers.{number-decimal}
use Rattle.record_text.specs.Numbers.{count_of}

or_back : (o : Option ℕ) (n : ℕ) → or_fault BadNumber o ≡ Ok n → o ≡ Some n
or_back (Some m) n h = cc
or_back None n h = absurd (cc)

pub number_of-decimal : (most n : ℕ) → most < 2 ^ 64 → 0 < n → n ≤ most → number_of most (decimal n) ≡ Some n
number_of-decimal most n small some h = or_back (number_of most (decimal n)) n (number-decimal most n small some h)

not_zero : (ds : List ℕ) → 48 < get_or ds 0 0 → is_text ds (codes "0") ≡ false
not_zero [] h = refl
not_zero (d ∷ ds) h = let e : nat_eq d 48 ≡ false = grind (arith, nat_tests) in rw e refl

nought : (most : ℕ) → count_of most (decimal 0) ≡ Some 0
unfolding digits
nought most = refl

some_count : (most n : ℕ) → most < 2 ^ 64 → 0 < n → n ≤ most → count_of most (decimal n) ≡ Some n
some_count most n small some h =
    let e = not_zero (decimal n) (first_decimal n some (omega arith)) in
    rw e (number_of-decimal most n small some h)

pub count_of-decimal : (most n : ℕ) → most < 2 ^ 64 → n ≤ most → count_of most (decimal n) ≡ Some n
count_of-decimal most zero small h = nought most
count_of-decimal most (suc n) small h = some_count most (suc n) small (omega arith) h
