-- The name of each module is a name.
use Rattle.std.proofs.Common.{ℕ, ◌+◌, ◌%◌, ◌^◌, ◌<◌, ◌≤◌, List, [], ◌∷◌, ◌++◌, length, true, ◌≡◌, refl, sym, ap, ◌∙◌, arith, length-append}
use Rattle.std.specs.Prelude.{codes, decimal}
use Rattle.std.specs.List.{list_all}
use Rattle.std.proofs.lemmas.Bool.{and_from}
use Rattle.std.proofs.lemmas.Bool.Decides.{nat_tests}
use Rattle.std.proofs.lemmas.List.{append-nil}
use Rattle.std.proofs.lemmas.List.Folds.{list_all-append}
use Rattle.std.proofs.lemmas.Fmt.{decimal_by_steps, length-decimal-le}
use Rattle.hmr_types.specs.ModName.{is_name, is_segment, is_segment_byte}
use Rattle.hmr_types.proofs.Segments.{spelled-is_name}
use Rattle.made_scripts.specs.Making.{module_name}

digit_is_segment_byte : (d : ℕ) → d < 10 → is_segment_byte (48 + d) ≡ true
unfolding is_segment_byte
digit_is_segment_byte d h = grind (arith, nat_tests)

abbrev HasSegmentBytes : List ℕ → Type 0
HasSegmentBytes bs = list_all is_segment_byte bs ≡ true

one_digit : (n : ℕ) → n < 10 → HasSegmentBytes ((48 + n) ∷ [])
one_digit n h = and_from _ _ (digit_is_segment_byte n h) refl

both : (xs ys : List ℕ) → HasSegmentBytes xs → HasSegmentBytes ys → HasSegmentBytes (xs ++ ys)
both xs ys first then = list_all-append is_segment_byte xs ys ∙ and_from _ _ first then

more_digits : (n : ℕ) (ds : List ℕ) → 10 ≤ n → HasSegmentBytes ds
    → HasSegmentBytes (ds ++ ((48 + n % 10) ∷ []))
more_digits n ds h before = both ds _ before (one_digit (n % 10) (omega arith))

digits : (n : ℕ) → n < 2 ^ 64 → HasSegmentBytes (decimal n)
digits = decimal_by_steps (λ n ds. HasSegmentBytes ds) one_digit more_digits

extension : HasSegmentBytes (codes ".js")
unfolding is_segment_byte
extension = refl

letter : is_segment_byte 109 ≡ true
unfolding is_segment_byte
letter = refl

abbrev segment : ℕ → List ℕ
segment i = 109 ∷ (decimal i ++ codes ".js")

segment_is_segment : (i : ℕ) → i < 2 ^ 32 → is_segment (segment i) ≡ true
segment_is_segment i h =
    let bytes = both (decimal i) (codes ".js") (digits i (omega arith)) extension in
    and_from _ _ refl (and_from _ _ letter bytes)

segment_is_short : (i : ℕ) → i < 2 ^ 32 → length (segment i ++ []) ≤ 200
segment_is_short i h =
    let few : length (decimal i) ≤ 10 = length-decimal-le 10 i (omega arith) (omega arith) (omega arith) in
    omega (arith, ap length (append-nil (segment i)), length-append (decimal i) (codes ".js"))

pub module_name_is_name : (i : ℕ) → i < 2 ^ 32 → is_name (module_name i) ≡ true
unfolding module_name
module_name_is_name i h =
    let short = segment_is_short i h in
    let segments = and_from _ _ (segment_is_segment i h) refl in
    ap (λ part. is_name (47 ∷ part)) (sym (append-nil (segment i)))
    ∙ spelled-is_name (segment i ∷ []) segments (omega arith) (omega arith)
