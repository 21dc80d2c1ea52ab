-- The text of a plan is read as that plan.
use Rattle.std.proofs.Common.{◌≡◌, ℕ, ◌+◌, ◌%◌, ◌^◌, ◌<◌, ◌≤◌, Bool, false, List, [], ◌∷◌, ◌++◌, length, take, drop, All, refl, ap, ◌∙◌, arith, length-append}
use Rattle.std.specs.Prelude.{decimal, not, ◌==◌}
use Rattle.std.specs.List.{after_first, before_first, position_or_len}
use Rattle.std.proofs.lemmas.Bool.{cond-true, eqb-true}
use Rattle.std.proofs.lemmas.Bool.Decides.{nat_tests}
use Rattle.std.proofs.lemmas.Fmt.{decimal_by_steps}
use Rattle.std.proofs.lemmas.List.Elements.{All-append, All-cons, All-head, All-nil, All-tail}
use Rattle.std.proofs.lemmas.List.Sums.{passes_at_first, split_at_first}
use Rattle.std.proofs.Math.Seq.{drop-append-add, take-append_seam}

abbrev is_dot : ℕ → Bool
is_dot b = b == 46

abbrev IsNoDot : ℕ → Type 0
IsNoDot b = is_dot b ≡ false

one_digit : (n : ℕ) → n < 10 → All IsNoDot ((48 + n) ∷ [])
one_digit n small = All-cons IsNoDot (48 + n) [] (grind (arith, nat_tests)) (All-nil IsNoDot)

more_digits : (n : ℕ) (ds : List ℕ) → 10 ≤ n → All IsNoDot ds → All IsNoDot (ds ++ ((48 + n % 10) ∷ []))
more_digits n ds large front =
    All-append IsNoDot ds ((48 + n % 10) ∷ []) front (All-cons IsNoDot (48 + n % 10) [] (grind (arith, nat_tests)) (All-nil IsNoDot))

-- no dot stands in a number
no_dot : (n : ℕ) → n < 2 ^ 64 → All IsNoDot (decimal n)
no_dot = decimal_by_steps (λ n ds. All IsNoDot ds) one_digit more_digits

dot_place : (xs ys : List ℕ) → All IsNoDot xs → position_or_len is_dot (xs ++ 46 ∷ ys) ≡ length xs
dot_place [] ys h = refl
dot_place (x ∷ xs) ys h =
    cond-true (not (is_dot x)) (1 + position_or_len is_dot (xs ++ 46 ∷ ys)) 0 (ap not (All-head IsNoDot x xs h))
    ∙ ap (λ n. 1 + n) (dot_place xs ys (All-tail IsNoDot x xs h)) ∙ omega arith

-- what a text is cut into at its first dot
pub front_of : (text : List ℕ) (m n : ℕ) → m < 2 ^ 64 → text ≡ decimal m ++ 46 ∷ decimal n → before_first is_dot text ≡ decimal m
front_of text m n fits is =
    ap (before_first is_dot) is ∙ ap (λ k. take k (decimal m ++ 46 ∷ decimal n)) (dot_place (decimal m) (decimal n) (no_dot m fits))
    ∙ take-append_seam (decimal m) (46 ∷ decimal n)

pub back_of : (text : List ℕ) (m n : ℕ) → m < 2 ^ 64 → text ≡ decimal m ++ 46 ∷ decimal n → after_first is_dot text ≡ decimal n
back_of text m n fits is =
    ap (after_first is_dot) is ∙ ap (λ k. drop (k + 1) (decimal m ++ 46 ∷ decimal n)) (dot_place (decimal m) (decimal n) (no_dot m fits))
    ∙ drop-append-add (decimal m) (46 ∷ decimal n) 1

pub has_dot : (text : List ℕ) (m n : ℕ) → m < 2 ^ 64 → text ≡ decimal m ++ 46 ∷ decimal n → position_or_len is_dot text ≡ length text → ⊥
has_dot text m n fits is none =
    let place = ap (position_or_len is_dot) is ∙ dot_place (decimal m) (decimal n) (no_dot m fits) in
    let long = ap length is ∙ length-append (decimal m) (46 ∷ decimal n) in
    omega (arith, place, long, none)

-- a text with a dot is what stands around its first
pub cut_at_dot : (text : List ℕ) → position_or_len is_dot text < length text → text ≡ before_first is_dot text ++ 46 ∷ after_first is_dot text
cut_at_dot text has =
    split_at_first is_dot text 0 has ∙ ap (λ b. before_first is_dot text ++ b ∷ after_first is_dot text) (eqb-true _ 46 (passes_at_first is_dot text 0 has))
