-- What blanks and then wrong bytes are lexed as.
use Rattle.std.proofs.Common.{◌≡◌, ℕ, zero, suc, ◌+◌, ◌%◌, ◌^◌, ◌<◌, true, false, List, [], ◌∷◌, ◌++◌, length, drop, Ok, Err, refl, ap, ◌∙◌, arith, length-append}
use Rattle.std.specs.Prelude.{◌==◌, decimal}
use Rattle.std.proofs.lemmas.Bool.Decides.{nat_tests}
use Rattle.std.proofs.lemmas.Fmt.{decimal_by_steps}
use Rattle.module_semantics.specs.Token as token
use Rattle.module_semantics.specs.Token.{Lexeme}
use Rattle.module_semantics.specs.Bytes.{is_blank, is_digit, is_line_end, is_name_start, is_quote, not_line_feed, span}
use Rattle.module_semantics.specs.Lexing.{added, after_token, barred, comment_at, comment_from, double, front, lex_fault, lex_from, lexing, marked, punct_at, single, step, text_at, text_from}
use Rattle.module_semantics.specs.Pieces.{all}
use Rattle.module_semantics.specs.declared.tokens.After.{After}
use Rattle.module_semantics.specs.declared.tokens.After.TheVariants as after
use Rattle.module_semantics.specs.declared.tokens.LexKind.TheVariants as kinds
use Rattle.module_semantics.proofs.PiecesLex.{both}

-- the digits of a number
all_more : (ds : List ℕ) (c : ℕ) → all is_digit ds ≡ true → is_digit c ≡ true → all is_digit (ds ++ c ∷ []) ≡ true
unfolding all
all_more [] c h g = rw g refl
all_more (d ∷ ds) c h g = let t = both (is_digit d) (all is_digit ds) h in rw t.0 (all_more ds c t.1 g)

one_digit : (n : ℕ) → n < 10 → is_digit (48 + n) ≡ true
unfolding is_digit
one_digit n h = grind (arith, nat_tests)

first_digit : (n : ℕ) → n < 10 → all is_digit ((48 + n) ∷ []) ≡ true
unfolding all
first_digit n h = rw (one_digit n h) refl

abbrev AreDigits : ℕ → List ℕ → Type 0
AreDigits n ds = all is_digit ds ≡ true

pub digits : (n : ℕ) → n < 2 ^ 64 → all is_digit (decimal n) ≡ true
digits n h = decimal_by_steps AreDigits first_digit (λ m ds big before. all_more ds (48 + m % 10) before (one_digit (m % 10) (omega arith))) n h

-- what a digit isn't
no_quote : (d : ℕ) → is_digit d ≡ true → (d == 34) ≡ false
unfolding is_digit
no_quote d h = grind (arith, nat_tests)

no_end : (d : ℕ) → is_digit d ≡ true → is_line_end d ≡ false
unfolding is_digit is_line_end
no_end d h = grind (arith, nat_tests)

no_backslash : (d : ℕ) → is_digit d ≡ true → (d == 92) ≡ false
unfolding is_digit
no_backslash d h = grind (arith, nat_tests)

no_star : (d : ℕ) → is_digit d ≡ true → (d == 42) ≡ false
unfolding is_digit
no_star d h = grind (arith, nat_tests)

no_feed : (d : ℕ) → is_digit d ≡ true → not_line_feed d ≡ true
unfolding is_digit not_line_feed
no_feed d h = grind (arith, nat_tests)

-- blanks give no token
lex_blank : (turns at b : ℕ) (bs : List ℕ) → is_blank b ≡ true → lex_from (suc turns) at after.Other [] (b ∷ bs) ≡ lex_from turns (at + 1) after.Other [] bs
unfolding lex_from step front barred added after_token
lex_blank turns at b bs h = rw h refl

blanks_lex : (ws k : List ℕ) (turns at : ℕ) → all is_blank ws ≡ true → lex_from (length ws + turns) at after.Other [] (ws ++ k) ≡ lex_from turns (at + length ws) after.Other [] k
unfolding all
blanks_lex [] k turns at h =
    let t : 0 + turns ≡ turns = omega arith in
    let a : at ≡ at + 0 = omega arith in
    ap (λ n. lex_from n at after.Other [] k) t ∙ ap (λ n. lex_from turns n after.Other [] k) a
blanks_lex (w ∷ ws) k turns at h =
    let t = both (is_blank w) (all is_blank ws) h in
    let more : suc (length ws) + turns ≡ suc (length ws + turns) = omega arith in
    let far : (at + 1) + length ws ≡ at + suc (length ws) = omega arith in
    ap (λ n. lex_from n at after.Other [] (w ∷ (ws ++ k))) more ∙ lex_blank (length ws + turns) at w (ws ++ k) t.0
    ∙ blanks_lex ws k turns (at + 1) t.1 ∙ ap (λ n. lex_from turns n after.Other [] k) far

-- a string that isn't closed
text_digits : (at n : ℕ) (out ds : List ℕ) → all is_digit ds ≡ true → text_from at 34 out n false ds ≡ Err (lex_fault kinds.OpenString at)
unfolding text_from all
text_digits at n out [] h = refl
text_digits at n out (d ∷ ds) h =
    let t = both (is_digit d) (all is_digit ds) h in
    rw (no_quote d t.0, no_end d t.0, no_backslash d t.0) (text_digits at (suc n) (out ++ d ∷ []) ds t.1)

string_lex : (turns at : ℕ) (ds : List ℕ) → all is_digit ds ≡ true → lex_from (suc turns) at after.Other [] (34 ∷ ds) ≡ Err (lex_fault kinds.OpenString at)
unfolding lex_from step front barred text_at is_blank is_name_start is_digit is_quote
string_lex turns at ds h = rw (text_digits at 0 [] ds h) refl

-- a comment that isn't closed
comment_digits : (at n : ℕ) (ds : List ℕ) → all is_digit ds ≡ true → comment_from at n ds ≡ Err (lex_fault kinds.OpenComment at)
unfolding comment_from all
comment_digits at n [] h = refl
comment_digits at n (d ∷ ds) h =
    let t = both (is_digit d) (all is_digit ds) h in
    rw (no_star d t.0) (comment_digits at (suc n) ds t.1)

comment_lex : (turns at : ℕ) (ds : List ℕ) → all is_digit ds ≡ true → lex_from (suc turns) at after.Other [] (47 ∷ 42 ∷ ds) ≡ Err (lex_fault kinds.OpenComment at)
unfolding lex_from step front barred comment_at is_blank is_name_start is_digit is_quote
comment_lex turns at ds h = rw (comment_digits at 2 ds h) refl

-- a byte that begins no token
bad_lex : (turns at : ℕ) (ds : List ℕ) → lex_from (suc turns) at after.Other [] (96 ∷ ds) ≡ Err (lex_fault kinds.BadByte at)
unfolding lex_from step front barred punct_at single double marked is_blank is_name_start is_digit is_quote
bad_lex turns at [] = refl
bad_lex turns at (d ∷ ds) = refl

-- a closing parenthesis, and a comment of digits
lex_end : (turns at : ℕ) (last : After) (done : List Lexeme) → lex_from turns at last done [] ≡ Ok done
unfolding lex_from
lex_end zero at last done = refl
lex_end (suc turns) at last done = refl

gone : (ds : List ℕ) → all is_digit ds ≡ true → drop (span not_line_feed ds) ds ≡ []
unfolding span all
gone [] h = refl
gone (d ∷ ds) h =
    let t = both (is_digit d) (all is_digit ds) h in
    rw (no_feed d t.0) (gone ds t.1)

line_lex : (turns at : ℕ) (done : List Lexeme) (ds : List ℕ) → all is_digit ds ≡ true → lex_from (suc turns) at after.Other done (47 ∷ 47 ∷ ds) ≡ Ok done
unfolding lex_from step front barred comment_at added after_token is_blank is_name_start is_digit is_quote
line_lex turns at done ds h =
    ap (λ l. lex_from turns (at + suc (suc (span not_line_feed ds))) after.Other done l) (gone ds h) ∙ lex_end turns (at + suc (suc (span not_line_feed ds))) after.Other done

abbrev pub closing : ℕ → Lexeme
closing at = record { token = token.punct 3; at = at; len = 1 }

mark_lex : (turns at : ℕ) (rest : List ℕ) → lex_from (suc turns) at after.Other [] (41 ∷ 47 ∷ rest) ≡ lex_from turns (at + 1) after.Other (closing at ∷ []) (47 ∷ rest)
unfolding lex_from step front barred punct_at single double marked added after_token is_blank is_name_start is_digit is_quote
mark_lex turns at rest = refl

closing_lex : (turns at : ℕ) (ds : List ℕ) → all is_digit ds ≡ true → lex_from (suc (suc turns)) at after.Other [] (41 ∷ 47 ∷ 47 ∷ ds) ≡ Ok (closing at ∷ [])
closing_lex turns at ds h = mark_lex (suc turns) at (47 ∷ ds) ∙ line_lex turns (at + 1) (closing at ∷ []) ds h

-- the same behind blanks
behind : (ws k : List ℕ) → all is_blank ws ≡ true → lexing (ws ++ k) ≡ lex_from (length k) (length ws) after.Other [] k
unfolding lexing
behind ws k h =
    let at : 0 + length ws ≡ length ws = omega arith in
    ap (λ n. lex_from n 0 after.Other [] (ws ++ k)) (length-append ws k) ∙ blanks_lex ws k (length k) 0 h ∙ ap (λ n. lex_from (length k) n after.Other [] k) at

pub open_string : (ws ds : List ℕ) → all is_blank ws ≡ true → all is_digit ds ≡ true → lexing (ws ++ 34 ∷ ds) ≡ Err (lex_fault kinds.OpenString (length ws))
open_string ws ds h g = behind ws (34 ∷ ds) h ∙ string_lex (length ds) (length ws) ds g

pub open_comment : (ws ds : List ℕ) → all is_blank ws ≡ true → all is_digit ds ≡ true → lexing (ws ++ 47 ∷ 42 ∷ ds) ≡ Err (lex_fault kinds.OpenComment (length ws))
open_comment ws ds h g = behind ws (47 ∷ 42 ∷ ds) h ∙ comment_lex (suc (length ds)) (length ws) ds g

pub bad_byte : (ws ds : List ℕ) → all is_blank ws ≡ true → lexing (ws ++ 96 ∷ ds) ≡ Err (lex_fault kinds.BadByte (length ws))
bad_byte ws ds h = behind ws (96 ∷ ds) h ∙ bad_lex (length ds) (length ws) ds

pub closing_alone : (ws ds : List ℕ) → all is_blank ws ≡ true → all is_digit ds ≡ true → lexing (ws ++ 41 ∷ 47 ∷ 47 ∷ ds) ≡ Ok (closing (length ws) ∷ [])
closing_alone ws ds h g = behind ws (41 ∷ 47 ∷ 47 ∷ ds) h ∙ closing_lex (suc (length ds)) (length ws) ds g
