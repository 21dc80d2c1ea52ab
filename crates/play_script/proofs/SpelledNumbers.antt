-- The decimal text of a number is digits of that value.
use Rattle.std.proofs.Common.{ℕ, ◌+◌, ◌/◌, ◌%◌, ◌^◌, ◌<◌, ◌≤◌, List, [], ◌∷◌, ◌++◌, length, get_or, fold, true, false, ◌≡◌, refl, ap, ◌∙◌, arith, Ok}
use Rattle.std.specs.Prelude.{decimal, nat_le, Some, ◌==◌}
use Rattle.std.specs.List.{list_all, All}
use Rattle.std.proofs.lemmas.Bool.{and_parts, and_from, le-leb}
use Rattle.std.proofs.lemmas.Bool.Decides.{nat_tests}
use Rattle.std.proofs.lemmas.List.Elements.{All-cons}
use Rattle.std.proofs.lemmas.List.Folds.{list_all-append}
use Rattle.std.proofs.lemmas.Fmt.{decimal_by_steps, first_decimal, decimal_nonempty}
use Rattle.hmr_types.specs.ModName.{between}
use Rattle.play_script.proofs.SpelledNames.{has_no_lf}
use Rattle.play_script.specs.Script.{digits_value, is_digit, number, number_of, up_to, with_digit}

fold_more : (ds : List ℕ) (v b : ℕ) → fold with_digit v (ds ++ b ∷ []) ≡ with_digit (fold with_digit v ds) b
fold_more [] v b = refl
fold_more (d ∷ ds) v b = fold_more ds (with_digit v d) b

abbrev Writes : ℕ → List ℕ → Type 0
Writes n ds = (list_all is_digit ds ≡ true) × (digits_value ds ≡ n)

one_digit : (n : ℕ) → n < 10 → Writes n ((48 + n) ∷ [])
one_digit n h = (grind (arith, nat_tests), omega arith)

more_digits : (n : ℕ) (ds : List ℕ) → 10 ≤ n → Writes (n / 10) ds → Writes n (ds ++ ((48 + n % 10) ∷ []))
more_digits n ds h w =
    let last : is_digit (48 + n % 10) ≡ true = grind (arith, nat_tests) in (
      list_all-append is_digit ds ((48 + n % 10) ∷ []) ∙ and_from _ _ w.0 (and_from _ _ last refl),
      fold_more ds 0 (48 + n % 10) ∙ omega (arith, w.1),
    )

decimal_writes : (n : ℕ) → n < 2 ^ 64 → Writes n (decimal n)
decimal_writes = decimal_by_steps Writes one_digit more_digits

up_to_most : (most n : ℕ) → nat_le n most ≡ true → up_to most n ≡ Some n
up_to_most most n h = rw h refl

within : (most v n : ℕ) → v ≡ n → nat_le n most ≡ true → up_to most v ≡ Some n
within most v n e h = ap (up_to most) e ∙ up_to_most most n h

-- digits without a leading zero are read
read_digits : (most : ℕ) (ds : List ℕ) (n : ℕ) → list_all is_digit ds ≡ true → digits_value ds ≡ n → 0 < length ds → 48 < get_or ds 0 0 → n ≤ most → number_of most ds ≡ Some n
read_digits most [] n all v some high h = absurd (omega arith)
read_digits most (d ∷ ds) n all v some high h =
    let parts = and_parts (is_digit d) (list_all is_digit ds) all in
    let first : between 49 57 d ≡ true = grind (arith, nat_tests, parts.0, high) in
    let rest = parts.1 in
    rw (first, rest) (within most (digits_value (d ∷ ds)) n v (le-leb n most h))

pub number-decimal : (most n : ℕ) → most < 2 ^ 64 → 0 < n → n ≤ most → number most (decimal n) ≡ Ok n
number-decimal most n small some h =
    let fits : n < 2 ^ 64 = omega arith in
    let w = decimal_writes n fits in
    let read = read_digits most (decimal n) n w.0 w.1 (decimal_nonempty n fits) (first_decimal n some fits) h in
    rw read refl

no_space_digits : (ds : List ℕ) → list_all is_digit ds ≡ true → All (λ b. (b == 32) ≡ false) ds
no_space_digits [] h = λ k d lt. absurd (omega arith)
no_space_digits (b ∷ bs) h =
    let here = and_parts (is_digit b) (list_all is_digit bs) h in
    All-cons (λ x. (x == 32) ≡ false) b bs (grind (arith, nat_tests)) (no_space_digits bs here.1)

-- no space stands in a number
pub no_space-decimal : (n : ℕ) → n < 2 ^ 64 → All (λ b. (b == 32) ≡ false) (decimal n)
no_space-decimal n h = no_space_digits (decimal n) (decimal_writes n h).0

not_line_end : (b : ℕ) → is_digit b ≡ true → (b == 10) ≡ false
not_line_end b h = grind (arith, nat_tests)

no_line_end_digits : (ds : List ℕ) → list_all is_digit ds ≡ true → has_no_lf ds ≡ true
no_line_end_digits [] h = refl
no_line_end_digits (b ∷ bs) h =
    let here = and_parts (is_digit b) (list_all is_digit bs) h in
    let other = not_line_end b here.0 in
    and_from _ _ (rw other refl) (no_line_end_digits bs here.1)

-- no LF stands in a number
pub has_no_lf-decimal : (n : ℕ) → n < 2 ^ 64 → has_no_lf (decimal n) ≡ true
has_no_lf-decimal n h = no_line_end_digits (decimal n) (decimal_writes n h).0
