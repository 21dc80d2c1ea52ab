-- Worked examples of tokens and their faults.
use Rattle.std.specs.Prelude.{◌≡◌, ℕ, List, [], ◌∷◌, Bool, true, false, Result, Ok, Err, codes, map}
use Rattle.std.proofs.Common.{refl}
use Rattle.module_semantics.specs.Bytes.{is_blank, is_digit, is_name_start, is_name_byte, is_quote, is_line_end, is_escape, unescape, not_line_feed, span}
use Rattle.module_semantics.specs.Token.{Token, name, number, text, punct, Lexeme}
use Rattle.module_semantics.specs.Lexing.{lex_fault, begins, single, double, barred, after_token, front, number_at, number_from, text_at, text_from, comment_at, comment_from, punct_at, marked, step, added, lex_from, lexing}
use Rattle.module_semantics.specs.Lines.{line_feeds, since_line_feed, line_of, column_of, line_tokens_from, line_tokens}
use Rattle.module_semantics.specs.declared.tokens.LexFault.{LexFault}
use Rattle.module_semantics.specs.declared.tokens.LexKind.{LexKind}
use Rattle.module_semantics.specs.declared.tokens.LexKind.TheVariants.{BadByte, OpenString, OpenComment, BadEscape, NumberTooLarge}

abbrev pub tokens_only : Result (List Lexeme) LexFault → Result (List Token) LexFault
tokens_only (Ok ts) = Ok (map (λ t. t.token) ts)
tokens_only (Err f) = Err f

-- the tokens of a text without their places, or its fault
unfoldable pub lexed : List ℕ → Result (List Token) LexFault
lexed bytes = tokens_only (lexing bytes)

abbrev pub flags_only : List ℕ → Result (List Lexeme) LexFault → Result (List Bool) LexFault
flags_only bytes (Ok ts) = Ok (map (λ t. t.later) (line_tokens bytes ts))
flags_only bytes (Err f) = Err f

-- which tokens of a text begin a line
unfoldable pub begin_lines : List ℕ → Result (List Bool) LexFault
begin_lines bytes = flags_only bytes (lexing bytes)

abbrev pub bad : LexKind → ℕ → Result (List Token) LexFault
bad kind at = Err (lex_fault kind at)

pub an_empty_text_has_no_tokens : lexed [] ≡ Ok []
unfolding lexed lexing lex_from step front is_blank is_name_start is_digit is_quote is_name_byte is_line_end is_escape unescape not_line_feed span added after_token barred begins number_at number_from text_at text_from comment_at comment_from punct_at single double marked
an_empty_text_has_no_tokens = refl

pub the_longest_token_fits : lexed (codes "a?.b??c=>d ? .") ≡ Ok (name (codes "a") ∷ punct 16 ∷ name (codes "b") ∷ punct 17 ∷ name (codes "c") ∷ punct 15 ∷ name (codes "d") ∷ punct 13 ∷ punct 8 ∷ [])
unfolding lexed lexing lex_from step front is_blank is_name_start is_digit is_quote is_name_byte is_line_end is_escape unescape not_line_feed span added after_token barred begins number_at number_from text_at text_from comment_at comment_from punct_at single double marked
the_longest_token_fits = refl

pub each_punctuation_has_its_number : lexed (codes "{}()[],;.=+-*?:=>?.??") ≡ Ok (punct 0 ∷ punct 1 ∷ punct 2 ∷ punct 3 ∷ punct 4 ∷ punct 5 ∷ punct 6 ∷ punct 7 ∷ punct 8 ∷ punct 9 ∷ punct 10 ∷ punct 11 ∷ punct 12 ∷ punct 13 ∷ punct 14 ∷ punct 15 ∷ punct 16 ∷ punct 17 ∷ [])
unfolding lexed lexing lex_from step front is_blank is_name_start is_digit is_quote is_name_byte is_line_end is_escape unescape not_line_feed span added after_token barred begins number_at number_from text_at text_from comment_at comment_from punct_at single double marked
each_punctuation_has_its_number = refl

pub a_name_has_letters_digits_and_two_marks : lexed (codes "_a$9Z") ≡ Ok (name (codes "_a$9Z") ∷ [])
unfolding lexed lexing lex_from step front is_blank is_name_start is_digit is_quote is_name_byte is_line_end is_escape unescape not_line_feed span added after_token barred begins number_at number_from text_at text_from comment_at comment_from punct_at single double marked
a_name_has_letters_digits_and_two_marks = refl

pub a_text_is_what_it_stands_for : lexed (codes "'a\\'\"b'") ≡ Ok (text (codes "a'\"b") ∷ [])
unfolding lexed lexing lex_from step front is_blank is_name_start is_digit is_quote is_name_byte is_line_end is_escape unescape not_line_feed span added after_token barred begins number_at number_from text_at text_from comment_at comment_from punct_at single double marked
a_text_is_what_it_stands_for = refl

pub escapes_of_a_text : lexed (codes "\"\\n\\t\\r\\\\\"") ≡ Ok (text (10 ∷ 9 ∷ 13 ∷ 92 ∷ []) ∷ [])
unfolding lexed lexing lex_from step front is_blank is_name_start is_digit is_quote is_name_byte is_line_end is_escape unescape not_line_feed span added after_token barred begins number_at number_from text_at text_from comment_at comment_from punct_at single double marked
escapes_of_a_text = refl

pub comments_are_no_tokens : lexed (codes "1/* 2 **/3// 4") ≡ Ok (number 1 ∷ number 3 ∷ [])
unfolding lexed lexing lex_from step front is_blank is_name_start is_digit is_quote is_name_byte is_line_end is_escape unescape not_line_feed span added after_token barred begins number_at number_from text_at text_from comment_at comment_from punct_at single double marked
comments_are_no_tokens = refl

pub a_digit_after_a_leading_zero : lexed (codes "01") ≡ bad BadByte 1
unfolding lexed lexing lex_from step front is_blank is_name_start is_digit is_quote is_name_byte is_line_end is_escape unescape not_line_feed span added after_token barred begins number_at number_from text_at text_from comment_at comment_from punct_at single double marked
a_digit_after_a_leading_zero = refl

pub a_name_directly_after_a_number : lexed (codes "12a") ≡ bad BadByte 2
unfolding lexed lexing lex_from step front is_blank is_name_start is_digit is_quote is_name_byte is_line_end is_escape unescape not_line_feed span added after_token barred begins number_at number_from text_at text_from comment_at comment_from punct_at single double marked
a_name_directly_after_a_number = refl

pub two_adjacent_plus_signs : lexed (codes "console.log(1 ++ 2)") ≡ bad BadByte 15
unfolding lexed lexing lex_from step front is_blank is_name_start is_digit is_quote is_name_byte is_line_end is_escape unescape not_line_feed span added after_token barred begins number_at number_from text_at text_from comment_at comment_from punct_at single double marked
two_adjacent_plus_signs = refl

pub plus_signs_apart : lexed (codes "+ + -") ≡ Ok (punct 10 ∷ punct 10 ∷ punct 11 ∷ [])
unfolding lexed lexing lex_from step front is_blank is_name_start is_digit is_quote is_name_byte is_line_end is_escape unescape not_line_feed span added after_token barred begins number_at number_from text_at text_from comment_at comment_from punct_at single double marked
plus_signs_apart = refl

pub a_lone_slash : lexed (codes "a / b") ≡ bad BadByte 2
unfolding lexed lexing lex_from step front is_blank is_name_start is_digit is_quote is_name_byte is_line_end is_escape unescape not_line_feed span added after_token barred begins number_at number_from text_at text_from comment_at comment_from punct_at single double marked
a_lone_slash = refl

pub a_text_that_is_not_closed : lexed (codes "const a = \"x") ≡ bad OpenString 10
unfolding lexed lexing lex_from step front is_blank is_name_start is_digit is_quote is_name_byte is_line_end is_escape unescape not_line_feed span added after_token barred begins number_at number_from text_at text_from comment_at comment_from punct_at single double marked
a_text_that_is_not_closed = refl

pub a_text_that_meets_a_line_end : lexed (39 ∷ 97 ∷ 10 ∷ 39 ∷ []) ≡ bad OpenString 0
unfolding lexed lexing lex_from step front is_blank is_name_start is_digit is_quote is_name_byte is_line_end is_escape unescape not_line_feed span added after_token barred begins number_at number_from text_at text_from comment_at comment_from punct_at single double marked
a_text_that_meets_a_line_end = refl

pub a_bad_escape_comes_before_the_open_end : lexed (codes "'\\x") ≡ bad BadEscape 1
unfolding lexed lexing lex_from step front is_blank is_name_start is_digit is_quote is_name_byte is_line_end is_escape unescape not_line_feed span added after_token barred begins number_at number_from text_at text_from comment_at comment_from punct_at single double marked
a_bad_escape_comes_before_the_open_end = refl

pub a_backslash_at_the_end_is_a_bad_escape : lexed (codes "'\\") ≡ bad BadEscape 1
unfolding lexed lexing lex_from step front is_blank is_name_start is_digit is_quote is_name_byte is_line_end is_escape unescape not_line_feed span added after_token barred begins number_at number_from text_at text_from comment_at comment_from punct_at single double marked
a_backslash_at_the_end_is_a_bad_escape = refl

pub a_comment_does_not_close_itself : lexed (codes " /*/") ≡ bad OpenComment 1
unfolding lexed lexing lex_from step front is_blank is_name_start is_digit is_quote is_name_byte is_line_end is_escape unescape not_line_feed span added after_token barred begins number_at number_from text_at text_from comment_at comment_from punct_at single double marked
a_comment_does_not_close_itself = refl

pub the_largest_number : lexed (codes "9007199254740991") ≡ Ok (number 9007199254740991 ∷ [])
unfolding lexed lexing lex_from step front is_blank is_name_start is_digit is_quote is_name_byte is_line_end is_escape unescape not_line_feed span added after_token barred begins number_at number_from text_at text_from comment_at comment_from punct_at single double marked
the_largest_number = refl

pub a_number_past_the_largest : lexed (codes " 9007199254740992a") ≡ bad NumberTooLarge 1
unfolding lexed lexing lex_from step front is_blank is_name_start is_digit is_quote is_name_byte is_line_end is_escape unescape not_line_feed span added after_token barred begins number_at number_from text_at text_from comment_at comment_from punct_at single double marked
a_number_past_the_largest = refl

pub a_line_feed_begins_a_line : begin_lines (codes "a\nb c") ≡ Ok (false ∷ true ∷ false ∷ [])
unfolding begin_lines lexing lex_from step front is_blank is_name_start is_digit is_quote is_name_byte is_line_end is_escape unescape not_line_feed span added after_token barred begins number_at number_from text_at text_from comment_at comment_from punct_at single double marked line_feeds line_tokens_from line_tokens
a_line_feed_begins_a_line = refl

pub a_comment_may_hold_the_line_feed : begin_lines (codes "a/*\n*/b") ≡ Ok (false ∷ true ∷ [])
unfolding begin_lines lexing lex_from step front is_blank is_name_start is_digit is_quote is_name_byte is_line_end is_escape unescape not_line_feed span added after_token barred begins number_at number_from text_at text_from comment_at comment_from punct_at single double marked line_feeds line_tokens_from line_tokens
a_comment_may_hold_the_line_feed = refl

pub a_carriage_return_ends_no_line : begin_lines (97 ∷ 13 ∷ 98 ∷ []) ≡ Ok (false ∷ false ∷ [])
unfolding begin_lines lexing lex_from step front is_blank is_name_start is_digit is_quote is_name_byte is_line_end is_escape unescape not_line_feed span added after_token barred begins number_at number_from text_at text_from comment_at comment_from punct_at single double marked line_feeds line_tokens_from line_tokens
a_carriage_return_ends_no_line = refl

pub lines_and_columns_count_from_one : line_of (codes "ab\ncd") 4 ≡ 2
unfolding line_feeds
lines_and_columns_count_from_one = refl

pub columns_count_from_the_line_feed : column_of (codes "ab\ncd") 4 ≡ 2
unfolding since_line_feed
columns_count_from_the_line_feed = refl
