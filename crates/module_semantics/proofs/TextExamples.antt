-- Worked examples of texts and their first faults.
use Rattle.std.specs.Prelude.{◌≡◌, ℕ, [], ◌∷◌, true, false, Option, Some, None, Ok, codes}
use Rattle.std.specs.Str.{is_utf8, chars}
use Rattle.std.specs.Str.Lossy.{utf8_valid_len}
use Rattle.std.proofs.Common.{refl}
use Rattle.module_tree.specs.Syntax as tree
use Rattle.module_tree.specs.declared.tree.Op.TheVariants as ops
use Rattle.hmr_types.specs.ModName.{is_segment_byte}
use Rattle.hmr_types.specs.declared.analysis.FaultWord.{FaultWord}
use Rattle.hmr_types.specs.declared.analysis.FaultWord.TheVariants as words
use Rattle.hmr_types.specs.declared.analysis.TextFault.{TextFault}
use Rattle.module_semantics.specs.Bytes.{is_blank, is_digit, is_name_start, is_name_byte, is_quote, is_line_end, is_escape, unescape, not_line_feed, span}
use Rattle.module_semantics.specs.Lexing.{begins, single, double, barred, after_token, front, number_at, number_from, text_at, text_from, comment_at, comment_from, punct_at, marked, step, added, lex_from, lexing}
use Rattle.module_semantics.specs.Lines.{line_feeds, since_line_feed, line_tokens_from, line_tokens}
use Rattle.module_semantics.specs.Kinds.{found_word, word_kind, within}
use Rattle.module_semantics.specs.Readers.{next_in, taken, many_from, listed_from, ends, end, deep, next_two}
use Rattle.module_semantics.specs.Reading.{access, prim, unary, prod, sum, null, expr_over, expr, console_act, other_act, name_act, bag_act, thrown, told, import_stmt, else_part, if_stmt, stmt, braces, inner, body, in_parens, callback, list_callback, host_own, once, accepted, hot_call, hot_top, plain_top, top, guard, declaration, import_name, import_item, item, finished, module_reader, reading}
use Rattle.module_semantics.specs.NameRules.{has_name, repeated, expr_broken, all_broken, least}
use Rattle.module_semantics.specs.Resolving.{place_of}
use Rattle.module_semantics.specs.ModuleText.{parsing, fault}

-- a fault by its line, its column and its word
abbrev pub at : ℕ → ℕ → FaultWord → Option TextFault
at line col word = Some (record { line = line; col = col; word = word })

pub an_empty_text_is_a_module : fault [] ≡ None
unfolding is_utf8 chars parsing lexing lex_from step front is_blank is_name_start is_digit is_quote is_name_byte is_line_end is_escape unescape not_line_feed span added after_token barred begins number_at number_from text_at text_from comment_at comment_from punct_at single double marked line_feeds since_line_feed line_tokens_from line_tokens found_word word_kind within next_in taken many_from listed_from ends end deep next_two access prim unary prod sum null expr_over expr console_act other_act name_act bag_act thrown told import_stmt else_part if_stmt stmt braces inner body in_parens callback list_callback host_own once accepted hot_call hot_top plain_top top guard declaration import_name import_item item finished module_reader reading has_name repeated expr_broken all_broken least place_of lib.Utf8.encode
an_empty_text_is_a_module = refl

pub export_const_without_a_name : fault (codes "export const = 2;") ≡ at 1 14 words.Unexpected
unfolding is_utf8 chars parsing lexing lex_from step front is_blank is_name_start is_digit is_quote is_name_byte is_line_end is_escape unescape not_line_feed span added after_token barred begins number_at number_from text_at text_from comment_at comment_from punct_at single double marked line_feeds since_line_feed line_tokens_from line_tokens found_word word_kind within next_in taken many_from listed_from ends end deep next_two access prim unary prod sum null expr_over expr console_act other_act name_act bag_act thrown told import_stmt else_part if_stmt stmt braces inner body in_parens callback list_callback host_own once accepted hot_call hot_top plain_top top guard declaration import_name import_item item finished module_reader reading has_name repeated expr_broken all_broken least place_of lib.Utf8.encode
export_const_without_a_name = refl

pub a_name_declared_twice : fault (codes "const a = 1\nconst a = 2") ≡ at 2 7 words.DuplicateName
unfolding is_utf8 chars parsing lexing lex_from step front is_blank is_name_start is_digit is_quote is_name_byte is_line_end is_escape unescape not_line_feed span added after_token barred begins number_at number_from text_at text_from comment_at comment_from punct_at single double marked line_feeds since_line_feed line_tokens_from line_tokens found_word word_kind within next_in taken many_from listed_from ends end deep next_two access prim unary prod sum null expr_over expr console_act other_act name_act bag_act thrown told import_stmt else_part if_stmt stmt braces inner body in_parens callback list_callback host_own once accepted hot_call hot_top plain_top top guard declaration import_name import_item item finished module_reader reading has_name repeated expr_broken all_broken least place_of lib.Utf8.encode
a_name_declared_twice = refl

pub a_text_left_open : fault (codes "const a = \"x") ≡ at 1 11 words.OpenString
unfolding is_utf8 chars parsing lexing lex_from step front is_blank is_name_start is_digit is_quote is_name_byte is_line_end is_escape unescape not_line_feed span added after_token barred begins number_at number_from text_at text_from comment_at comment_from punct_at single double marked line_feeds since_line_feed line_tokens_from line_tokens found_word word_kind within next_in taken many_from listed_from ends end deep next_two access prim unary prod sum null expr_over expr console_act other_act name_act bag_act thrown told import_stmt else_part if_stmt stmt braces inner body in_parens callback list_callback host_own once accepted hot_call hot_top plain_top top guard declaration import_name import_item item finished module_reader reading has_name repeated expr_broken all_broken least place_of lib.Utf8.encode
a_text_left_open = refl

pub an_assignment_to_no_let : fault (codes "a = 1") ≡ at 1 1 words.NotAssignable
unfolding is_utf8 chars parsing lexing lex_from step front is_blank is_name_start is_digit is_quote is_name_byte is_line_end is_escape unescape not_line_feed span added after_token barred begins number_at number_from text_at text_from comment_at comment_from punct_at single double marked line_feeds since_line_feed line_tokens_from line_tokens found_word word_kind within next_in taken many_from listed_from ends end deep next_two access prim unary prod sum null expr_over expr console_act other_act name_act bag_act thrown told import_stmt else_part if_stmt stmt braces inner body in_parens callback list_callback host_own once accepted hot_call hot_top plain_top top guard declaration import_name import_item item finished module_reader reading has_name repeated expr_broken all_broken least place_of lib.Utf8.encode
an_assignment_to_no_let = refl

pub two_adjacent_plus_signs : fault (codes "console.log(1 ++ 2)") ≡ at 1 16 words.BadByte
unfolding is_utf8 chars parsing lexing lex_from step front is_blank is_name_start is_digit is_quote is_name_byte is_line_end is_escape unescape not_line_feed span added after_token barred begins number_at number_from text_at text_from comment_at comment_from punct_at single double marked line_feeds since_line_feed line_tokens_from line_tokens found_word word_kind within next_in taken many_from listed_from ends end deep next_two access prim unary prod sum null expr_over expr console_act other_act name_act bag_act thrown told import_stmt else_part if_stmt stmt braces inner body in_parens callback list_callback host_own once accepted hot_call hot_top plain_top top guard declaration import_name import_item item finished module_reader reading has_name repeated expr_broken all_broken least place_of lib.Utf8.encode
two_adjacent_plus_signs = refl

pub a_number_past_the_largest : fault (codes "export const n = 9007199254740992;") ≡ at 1 18 words.NumberTooLarge
unfolding is_utf8 chars parsing lexing lex_from step front is_blank is_name_start is_digit is_quote is_name_byte is_line_end is_escape unescape not_line_feed span added after_token barred begins number_at number_from text_at text_from comment_at comment_from punct_at single double marked line_feeds since_line_feed line_tokens_from line_tokens found_word word_kind within next_in taken many_from listed_from ends end deep next_two access prim unary prod sum null expr_over expr console_act other_act name_act bag_act thrown told import_stmt else_part if_stmt stmt braces inner body in_parens callback list_callback host_own once accepted hot_call hot_top plain_top top guard declaration import_name import_item item finished module_reader reading has_name repeated expr_broken all_broken least place_of lib.Utf8.encode
a_number_past_the_largest = refl

pub a_reserved_word_is_assigned : fault (codes "undefined = 1") ≡ at 1 1 words.Unexpected
unfolding is_utf8 chars parsing lexing lex_from step front is_blank is_name_start is_digit is_quote is_name_byte is_line_end is_escape unescape not_line_feed span added after_token barred begins number_at number_from text_at text_from comment_at comment_from punct_at single double marked line_feeds since_line_feed line_tokens_from line_tokens found_word word_kind within next_in taken many_from listed_from ends end deep next_two access prim unary prod sum null expr_over expr console_act other_act name_act bag_act thrown told import_stmt else_part if_stmt stmt braces inner body in_parens callback list_callback host_own once accepted hot_call hot_top plain_top top guard declaration import_name import_item item finished module_reader reading has_name repeated expr_broken all_broken least place_of lib.Utf8.encode
a_reserved_word_is_assigned = refl

pub const_is_no_target : fault (codes "const = 1") ≡ at 1 7 words.Unexpected
unfolding is_utf8 chars parsing lexing lex_from step front is_blank is_name_start is_digit is_quote is_name_byte is_line_end is_escape unescape not_line_feed span added after_token barred begins number_at number_from text_at text_from comment_at comment_from punct_at single double marked line_feeds since_line_feed line_tokens_from line_tokens found_word word_kind within next_in taken many_from listed_from ends end deep next_two access prim unary prod sum null expr_over expr console_act other_act name_act bag_act thrown told import_stmt else_part if_stmt stmt braces inner body in_parens callback list_callback host_own once accepted hot_call hot_top plain_top top guard declaration import_name import_item item finished module_reader reading has_name repeated expr_broken all_broken least place_of lib.Utf8.encode
const_is_no_target = refl

pub import_is_no_target : fault (codes "import.x = 1") ≡ at 1 8 words.Unexpected
unfolding is_utf8 chars parsing lexing lex_from step front is_blank is_name_start is_digit is_quote is_name_byte is_line_end is_escape unescape not_line_feed span added after_token barred begins number_at number_from text_at text_from comment_at comment_from punct_at single double marked line_feeds since_line_feed line_tokens_from line_tokens found_word word_kind within next_in taken many_from listed_from ends end deep next_two access prim unary prod sum null expr_over expr console_act other_act name_act bag_act thrown told import_stmt else_part if_stmt stmt braces inner body in_parens callback list_callback host_own once accepted hot_call hot_top plain_top top guard declaration import_name import_item item finished module_reader reading has_name repeated expr_broken all_broken least place_of lib.Utf8.encode
import_is_no_target = refl

pub a_reserved_word_is_imported : fault (codes "import { if } from") ≡ at 1 13 words.Unexpected
unfolding is_utf8 chars parsing lexing lex_from step front is_blank is_name_start is_digit is_quote is_name_byte is_line_end is_escape unescape not_line_feed span added after_token barred begins number_at number_from text_at text_from comment_at comment_from punct_at single double marked line_feeds since_line_feed line_tokens_from line_tokens found_word word_kind within next_in taken many_from listed_from ends end deep next_two access prim unary prod sum null expr_over expr console_act other_act name_act bag_act thrown told import_stmt else_part if_stmt stmt braces inner body in_parens callback list_callback host_own once accepted hot_call hot_top plain_top top guard declaration import_name import_item item finished module_reader reading has_name repeated expr_broken all_broken least place_of lib.Utf8.encode
a_reserved_word_is_imported = refl

pub a_reserved_word_before_as : fault (codes "import { if as a } from './b.js'") ≡ None
unfolding is_utf8 chars parsing lexing lex_from step front is_blank is_name_start is_digit is_quote is_name_byte is_line_end is_escape unescape not_line_feed span added after_token barred begins number_at number_from text_at text_from comment_at comment_from punct_at single double marked line_feeds since_line_feed line_tokens_from line_tokens found_word word_kind within next_in taken many_from listed_from ends end deep next_two access prim unary prod sum null expr_over expr console_act other_act name_act bag_act thrown told import_stmt else_part if_stmt stmt braces inner body in_parens callback list_callback host_own once accepted hot_call hot_top plain_top top guard declaration import_name import_item item finished module_reader reading has_name repeated expr_broken all_broken least place_of lib.Utf8.encode
a_reserved_word_before_as = refl

pub the_end_stands_after_blanks : fault (codes "const a =  ") ≡ at 1 12 words.Unexpected
unfolding is_utf8 chars parsing lexing lex_from step front is_blank is_name_start is_digit is_quote is_name_byte is_line_end is_escape unescape not_line_feed span added after_token barred begins number_at number_from text_at text_from comment_at comment_from punct_at single double marked line_feeds since_line_feed line_tokens_from line_tokens found_word word_kind within next_in taken many_from listed_from ends end deep next_two access prim unary prod sum null expr_over expr console_act other_act name_act bag_act thrown told import_stmt else_part if_stmt stmt braces inner body in_parens callback list_callback host_own once accepted hot_call hot_top plain_top top guard declaration import_name import_item item finished module_reader reading has_name repeated expr_broken all_broken least place_of lib.Utf8.encode
the_end_stands_after_blanks = refl

pub console_dot_begins_a_log : fault (codes "console.x = 1") ≡ at 1 9 words.Unexpected
unfolding is_utf8 chars parsing lexing lex_from step front is_blank is_name_start is_digit is_quote is_name_byte is_line_end is_escape unescape not_line_feed span added after_token barred begins number_at number_from text_at text_from comment_at comment_from punct_at single double marked line_feeds since_line_feed line_tokens_from line_tokens found_word word_kind within next_in taken many_from listed_from ends end deep next_two access prim unary prod sum null expr_over expr console_act other_act name_act bag_act thrown told import_stmt else_part if_stmt stmt braces inner body in_parens callback list_callback host_own once accepted hot_call hot_top plain_top top guard declaration import_name import_item item finished module_reader reading has_name repeated expr_broken all_broken least place_of lib.Utf8.encode
console_dot_begins_a_log = refl

pub console_is_a_name_elsewhere : fault (codes "let console = 1; console = 2") ≡ None
unfolding is_utf8 chars parsing lexing lex_from step front is_blank is_name_start is_digit is_quote is_name_byte is_line_end is_escape unescape not_line_feed span added after_token barred begins number_at number_from text_at text_from comment_at comment_from punct_at single double marked line_feeds since_line_feed line_tokens_from line_tokens found_word word_kind within next_in taken many_from listed_from ends end deep next_two access prim unary prod sum null expr_over expr console_act other_act name_act bag_act thrown told import_stmt else_part if_stmt stmt braces inner body in_parens callback list_callback host_own once accepted hot_call hot_top plain_top top guard declaration import_name import_item item finished module_reader reading has_name repeated expr_broken all_broken least place_of lib.Utf8.encode
console_is_a_name_elsewhere = refl

pub a_later_let_is_assignable_but_declared_twice : fault (codes "const a = 1; a = 2; let a = 3") ≡ at 1 25 words.DuplicateName
unfolding is_utf8 chars parsing lexing lex_from step front is_blank is_name_start is_digit is_quote is_name_byte is_line_end is_escape unescape not_line_feed span added after_token barred begins number_at number_from text_at text_from comment_at comment_from punct_at single double marked line_feeds since_line_feed line_tokens_from line_tokens found_word word_kind within next_in taken many_from listed_from ends end deep next_two access prim unary prod sum null expr_over expr console_act other_act name_act bag_act thrown told import_stmt else_part if_stmt stmt braces inner body in_parens callback list_callback host_own once accepted hot_call hot_top plain_top top guard declaration import_name import_item item finished module_reader reading has_name repeated expr_broken all_broken least place_of lib.Utf8.encode
a_later_let_is_assignable_but_declared_twice = refl

pub a_line_ends_a_statement : fault (codes "let a = 1\na = 2") ≡ None
unfolding is_utf8 chars parsing lexing lex_from step front is_blank is_name_start is_digit is_quote is_name_byte is_line_end is_escape unescape not_line_feed span added after_token barred begins number_at number_from text_at text_from comment_at comment_from punct_at single double marked line_feeds since_line_feed line_tokens_from line_tokens found_word word_kind within next_in taken many_from listed_from ends end deep next_two access prim unary prod sum null expr_over expr console_act other_act name_act bag_act thrown told import_stmt else_part if_stmt stmt braces inner body in_parens callback list_callback host_own once accepted hot_call hot_top plain_top top guard declaration import_name import_item item finished module_reader reading has_name repeated expr_broken all_broken least place_of lib.Utf8.encode
a_line_ends_a_statement = refl

pub one_line_is_one_statement : fault (codes "let a = 1 a = 2") ≡ at 1 11 words.Unexpected
unfolding is_utf8 chars parsing lexing lex_from step front is_blank is_name_start is_digit is_quote is_name_byte is_line_end is_escape unescape not_line_feed span added after_token barred begins number_at number_from text_at text_from comment_at comment_from punct_at single double marked line_feeds since_line_feed line_tokens_from line_tokens found_word word_kind within next_in taken many_from listed_from ends end deep next_two access prim unary prod sum null expr_over expr console_act other_act name_act bag_act thrown told import_stmt else_part if_stmt stmt braces inner body in_parens callback list_callback host_own once accepted hot_call hot_top plain_top top guard declaration import_name import_item item finished module_reader reading has_name repeated expr_broken all_broken least place_of lib.Utf8.encode
one_line_is_one_statement = refl

pub an_error_is_thrown : fault (codes "throw new Error(1)") ≡ None
unfolding is_utf8 chars parsing lexing lex_from step front is_blank is_name_start is_digit is_quote is_name_byte is_line_end is_escape unescape not_line_feed span added after_token barred begins number_at number_from text_at text_from comment_at comment_from punct_at single double marked line_feeds since_line_feed line_tokens_from line_tokens found_word word_kind within next_in taken many_from listed_from ends end deep next_two access prim unary prod sum null expr_over expr console_act other_act name_act bag_act thrown told import_stmt else_part if_stmt stmt braces inner body in_parens callback list_callback host_own once accepted hot_call hot_top plain_top top guard declaration import_name import_item item finished module_reader reading has_name repeated expr_broken all_broken least place_of lib.Utf8.encode
an_error_is_thrown = refl

pub the_name_new_is_thrown : fault (codes "let new = 1; throw new") ≡ None
unfolding is_utf8 chars parsing lexing lex_from step front is_blank is_name_start is_digit is_quote is_name_byte is_line_end is_escape unescape not_line_feed span added after_token barred begins number_at number_from text_at text_from comment_at comment_from punct_at single double marked line_feeds since_line_feed line_tokens_from line_tokens found_word word_kind within next_in taken many_from listed_from ends end deep next_two access prim unary prod sum null expr_over expr console_act other_act name_act bag_act thrown told import_stmt else_part if_stmt stmt braces inner body in_parens callback list_callback host_own once accepted hot_call hot_top plain_top top guard declaration import_name import_item item finished module_reader reading has_name repeated expr_broken all_broken least place_of lib.Utf8.encode
the_name_new_is_thrown = refl

pub new_before_error_is_the_form : fault (codes "throw new\nError = 1") ≡ at 2 7 words.Unexpected
unfolding is_utf8 chars parsing lexing lex_from step front is_blank is_name_start is_digit is_quote is_name_byte is_line_end is_escape unescape not_line_feed span added after_token barred begins number_at number_from text_at text_from comment_at comment_from punct_at single double marked line_feeds since_line_feed line_tokens_from line_tokens found_word word_kind within next_in taken many_from listed_from ends end deep next_two access prim unary prod sum null expr_over expr console_act other_act name_act bag_act thrown told import_stmt else_part if_stmt stmt braces inner body in_parens callback list_callback host_own once accepted hot_call hot_top plain_top top guard declaration import_name import_item item finished module_reader reading has_name repeated expr_broken all_broken least place_of lib.Utf8.encode
new_before_error_is_the_form = refl

pub no_invalidation_at_the_top : fault (codes "import.meta.hot.invalidate()") ≡ at 1 17 words.Unexpected
unfolding is_utf8 chars parsing lexing lex_from step front is_blank is_name_start is_digit is_quote is_name_byte is_line_end is_escape unescape not_line_feed span added after_token barred begins number_at number_from text_at text_from comment_at comment_from punct_at single double marked line_feeds since_line_feed line_tokens_from line_tokens found_word word_kind within next_in taken many_from listed_from ends end deep next_two access prim unary prod sum null expr_over expr console_act other_act name_act bag_act thrown told import_stmt else_part if_stmt stmt braces inner body in_parens callback list_callback host_own once accepted hot_call hot_top plain_top top guard declaration import_name import_item item finished module_reader reading has_name repeated expr_broken all_broken least place_of lib.Utf8.encode
no_invalidation_at_the_top = refl

pub no_invalidation_in_a_dispose_callback : fault (codes "import.meta.hot.dispose(() => import.meta.hot.invalidate())") ≡ at 1 31 words.Unexpected
unfolding is_utf8 chars parsing lexing lex_from step front is_blank is_name_start is_digit is_quote is_name_byte is_line_end is_escape unescape not_line_feed span added after_token barred begins number_at number_from text_at text_from comment_at comment_from punct_at single double marked line_feeds since_line_feed line_tokens_from line_tokens found_word word_kind within next_in taken many_from listed_from ends end deep next_two access prim unary prod sum null expr_over expr console_act other_act name_act bag_act thrown told import_stmt else_part if_stmt stmt braces inner body in_parens callback list_callback host_own once accepted hot_call hot_top plain_top top guard declaration import_name import_item item finished module_reader reading has_name repeated expr_broken all_broken least place_of lib.Utf8.encode
no_invalidation_in_a_dispose_callback = refl

pub a_block_of_an_if_has_braces : fault (codes "import.meta.hot.accept((m) => { if (m) import.meta.hot.invalidate() })") ≡ at 1 40 words.Unexpected
unfolding is_utf8 chars parsing lexing lex_from step front is_blank is_name_start is_digit is_quote is_name_byte is_line_end is_escape unescape not_line_feed span added after_token barred begins number_at number_from text_at text_from comment_at comment_from punct_at single double marked line_feeds since_line_feed line_tokens_from line_tokens found_word word_kind within next_in taken many_from listed_from ends end deep next_two access prim unary prod sum null expr_over expr console_act other_act name_act bag_act thrown told import_stmt else_part if_stmt stmt braces inner body in_parens callback list_callback host_own once accepted hot_call hot_top plain_top top guard declaration import_name import_item item finished module_reader reading has_name repeated expr_broken all_broken least place_of lib.Utf8.encode
a_block_of_an_if_has_braces = refl

pub a_parameter_is_a_whole_condition : fault (codes "import.meta.hot.accept(m => { if ((m)) { import.meta.hot.invalidate('x') } })") ≡ None
unfolding is_utf8 chars parsing lexing lex_from step front is_blank is_name_start is_digit is_quote is_name_byte is_line_end is_escape unescape not_line_feed span added after_token barred begins number_at number_from text_at text_from comment_at comment_from punct_at single double marked line_feeds since_line_feed line_tokens_from line_tokens found_word word_kind within next_in taken many_from listed_from ends end deep next_two access prim unary prod sum null expr_over expr console_act other_act name_act bag_act thrown told import_stmt else_part if_stmt stmt braces inner body in_parens callback list_callback host_own once accepted hot_call hot_top plain_top top guard declaration import_name import_item item finished module_reader reading has_name repeated expr_broken all_broken least place_of lib.Utf8.encode
a_parameter_is_a_whole_condition = refl

pub a_parameter_stands_alone : fault (codes "import.meta.hot.accept(m => { console.log(m) })") ≡ at 1 43 words.Unexpected
unfolding is_utf8 chars parsing lexing lex_from step front is_blank is_name_start is_digit is_quote is_name_byte is_line_end is_escape unescape not_line_feed span added after_token barred begins number_at number_from text_at text_from comment_at comment_from punct_at single double marked line_feeds since_line_feed line_tokens_from line_tokens found_word word_kind within next_in taken many_from listed_from ends end deep next_two access prim unary prod sum null expr_over expr console_act other_act name_act bag_act thrown told import_stmt else_part if_stmt stmt braces inner body in_parens callback list_callback host_own once accepted hot_call hot_top plain_top top guard declaration import_name import_item item finished module_reader reading has_name repeated expr_broken all_broken least place_of lib.Utf8.encode
a_parameter_stands_alone = refl

pub a_member_of_no_parameter : fault (codes "console.log(a.b)") ≡ at 1 13 words.Unexpected
unfolding is_utf8 chars parsing lexing lex_from step front is_blank is_name_start is_digit is_quote is_name_byte is_line_end is_escape unescape not_line_feed span added after_token barred begins number_at number_from text_at text_from comment_at comment_from punct_at single double marked line_feeds since_line_feed line_tokens_from line_tokens found_word word_kind within next_in taken many_from listed_from ends end deep next_two access prim unary prod sum null expr_over expr console_act other_act name_act bag_act thrown told import_stmt else_part if_stmt stmt braces inner body in_parens callback list_callback host_own once accepted hot_call hot_top plain_top top guard declaration import_name import_item item finished module_reader reading has_name repeated expr_broken all_broken least place_of lib.Utf8.encode
a_member_of_no_parameter = refl

pub host_begins_a_host_closure : fault (codes "import.meta.hot.dispose(host('L')); import.meta.hot.prune(host => console.log(host.x))") ≡ None
unfolding is_utf8 chars parsing lexing lex_from step front is_blank is_name_start is_digit is_quote is_name_byte is_line_end is_escape unescape not_line_feed span added after_token barred begins number_at number_from text_at text_from comment_at comment_from punct_at single double marked line_feeds since_line_feed line_tokens_from line_tokens found_word word_kind within next_in taken many_from listed_from ends end deep next_two access prim unary prod sum null expr_over expr console_act other_act name_act bag_act thrown told import_stmt else_part if_stmt stmt braces inner body in_parens callback list_callback host_own once accepted hot_call hot_top plain_top top guard declaration import_name import_item item finished module_reader reading has_name repeated expr_broken all_broken least place_of lib.Utf8.encode
host_begins_a_host_closure = refl

pub parameters_of_a_callback_differ : fault (codes "import.meta.hot.accept(['./a.js',], ([a, a]) => { })") ≡ at 1 42 words.DuplicateName
unfolding is_utf8 chars parsing lexing lex_from step front is_blank is_name_start is_digit is_quote is_name_byte is_line_end is_escape unescape not_line_feed span added after_token barred begins number_at number_from text_at text_from comment_at comment_from punct_at single double marked line_feeds since_line_feed line_tokens_from line_tokens found_word word_kind within next_in taken many_from listed_from ends end deep next_two access prim unary prod sum null expr_over expr console_act other_act name_act bag_act thrown told import_stmt else_part if_stmt stmt braces inner body in_parens callback list_callback host_own once accepted hot_call hot_top plain_top top guard declaration import_name import_item item finished module_reader reading has_name repeated expr_broken all_broken least place_of lib.Utf8.encode
parameters_of_a_callback_differ = refl

pub no_part_begins_at_a_closing_parenthesis : fault (codes "console.log((((((((((((((((((((((((((((((((((((((((((((((((((((((((((((((((()") ≡ at 1 77 words.Unexpected
unfolding is_utf8 chars parsing lexing lex_from step front is_blank is_name_start is_digit is_quote is_name_byte is_line_end is_escape unescape not_line_feed span added after_token barred begins number_at number_from text_at text_from comment_at comment_from punct_at single double marked line_feeds since_line_feed line_tokens_from line_tokens found_word word_kind within next_in taken many_from listed_from ends end deep next_two access prim unary prod sum null expr_over expr console_act other_act name_act bag_act thrown told import_stmt else_part if_stmt stmt braces inner body in_parens callback list_callback host_own once accepted hot_call hot_top plain_top top guard declaration import_name import_item item finished module_reader reading has_name repeated expr_broken all_broken least place_of lib.Utf8.encode
no_part_begins_at_a_closing_parenthesis = refl

pub sixty_three_parentheses_are_not_too_deep : fault (codes "console.log((((((((((((((((((((((((((((((((((((((((((((((((((((((((((((((((1))))))))))))))))))))))))))))))))))))))))))))))))))))))))))))))))") ≡ None
unfolding is_utf8 chars parsing lexing lex_from step front is_blank is_name_start is_digit is_quote is_name_byte is_line_end is_escape unescape not_line_feed span added after_token barred begins number_at number_from text_at text_from comment_at comment_from punct_at single double marked line_feeds since_line_feed line_tokens_from line_tokens found_word word_kind within next_in taken many_from listed_from ends end deep next_two access prim unary prod sum null expr_over expr console_act other_act name_act bag_act thrown told import_stmt else_part if_stmt stmt braces inner body in_parens callback list_callback host_own once accepted hot_call hot_top plain_top top guard declaration import_name import_item item finished module_reader reading has_name repeated expr_broken all_broken least place_of lib.Utf8.encode
sixty_three_parentheses_are_not_too_deep = refl

pub sixty_four_parentheses_are_too_deep : fault (codes "console.log(((((((((((((((((((((((((((((((((((((((((((((((((((((((((((((((((1)))))))))))))))))))))))))))))))))))))))))))))))))))))))))))))))))") ≡ at 1 77 words.TooDeep
unfolding is_utf8 chars parsing lexing lex_from step front is_blank is_name_start is_digit is_quote is_name_byte is_line_end is_escape unescape not_line_feed span added after_token barred begins number_at number_from text_at text_from comment_at comment_from punct_at single double marked line_feeds since_line_feed line_tokens_from line_tokens found_word word_kind within next_in taken many_from listed_from ends end deep next_two access prim unary prod sum null expr_over expr console_act other_act name_act bag_act thrown told import_stmt else_part if_stmt stmt braces inner body in_parens callback list_callback host_own once accepted hot_call hot_top plain_top top guard declaration import_name import_item item finished module_reader reading has_name repeated expr_broken all_broken least place_of lib.Utf8.encode
sixty_four_parentheses_are_too_deep = refl

pub bytes_that_are_no_text : fault (97 ∷ (255 ∷ [])) ≡ at 1 2 words.NotUtf8
unfolding is_utf8 chars parsing lexing lex_from step front is_blank is_name_start is_digit is_quote is_name_byte is_line_end is_escape unescape not_line_feed span added after_token barred begins number_at number_from text_at text_from comment_at comment_from punct_at single double marked line_feeds since_line_feed line_tokens_from line_tokens found_word word_kind within next_in taken many_from listed_from ends end deep next_two access prim unary prod sum null expr_over expr console_act other_act name_act bag_act thrown told import_stmt else_part if_stmt stmt braces inner body in_parens callback list_callback host_own once accepted hot_call hot_top plain_top top guard declaration import_name import_item item finished module_reader reading has_name repeated expr_broken all_broken least place_of lib.Utf8.encode utf8_valid_len
bytes_that_are_no_text = refl

pub the_canonical_example : parsing (codes "import {b as c,a} from './x.js'\nexport let n = 1+(2*c)\nimport.meta.hot.accept('./x.js', m => { n = m?.b })\n")
    ≡ Ok
    (tree.import (codes "./x.js") (record { exported = codes "b"; local = codes "c" } ∷ record { exported = codes "a"; local = codes "a" } ∷ [])
    ∷ tree.declare true true (codes "n") (tree.binary ops.Add (tree.num 1) (tree.binary ops.Mul (tree.num 2) (tree.name (codes "c"))))
    ∷ tree.deps false (codes "./x.js" ∷ []) (Some (record { params = codes "m" ∷ []; body = tree.one_stmt (tree.assign (codes "n") (tree.member 0 true (codes "b"))) tree.no_stmts }))
    ∷ [])
unfolding is_utf8 chars parsing lexing lex_from step front is_blank is_name_start is_digit is_quote is_name_byte is_line_end is_escape unescape not_line_feed span added after_token barred begins number_at number_from text_at text_from comment_at comment_from punct_at single double marked line_feeds since_line_feed line_tokens_from line_tokens found_word word_kind within next_in taken many_from listed_from ends end deep next_two access prim unary prod sum null expr_over expr console_act other_act name_act bag_act thrown told import_stmt else_part if_stmt stmt braces inner body in_parens callback list_callback host_own once accepted hot_call hot_top plain_top top guard declaration import_name import_item item finished module_reader reading has_name repeated expr_broken all_broken least place_of lib.Utf8.encode
the_canonical_example = refl

pub keys_of_a_dispose_parameter_are_the_bags : parsing (codes "import.meta.hot.dispose((d) => { d.x = d?.y })")
    ≡ Ok (tree.dispose (tree.code (record { params = []; body = tree.one_stmt (tree.bag_set (codes "x") (tree.bag (codes "y"))) tree.no_stmts })) ∷ [])
unfolding is_utf8 chars parsing lexing lex_from step front is_blank is_name_start is_digit is_quote is_name_byte is_line_end is_escape unescape not_line_feed span added after_token barred begins number_at number_from text_at text_from comment_at comment_from punct_at single double marked line_feeds since_line_feed line_tokens_from line_tokens found_word word_kind within next_in taken many_from listed_from ends end deep next_two access prim unary prod sum null expr_over expr console_act other_act name_act bag_act thrown told import_stmt else_part if_stmt stmt braces inner body in_parens callback list_callback host_own once accepted hot_call hot_top plain_top top guard declaration import_name import_item item finished module_reader reading has_name repeated expr_broken all_broken least place_of lib.Utf8.encode
keys_of_a_dispose_parameter_are_the_bags = refl

pub an_event_is_listened_to_by_its_module : parsing (codes "import.meta.hot.on('my:ping', (e) => { console.log(e.data) })")
    ≡ Ok (tree.deps false (codes "/event/my/ping" ∷ []) (Some (record { params = codes "e" ∷ []; body = tree.one_stmt (tree.log (tree.member 0 false (codes "data") ∷ [])) tree.no_stmts })) ∷ [])
unfolding is_utf8 chars parsing lexing lex_from step front is_blank is_name_start is_digit is_quote is_name_byte is_line_end is_escape unescape not_line_feed span added after_token barred begins number_at number_from text_at text_from comment_at comment_from punct_at single double marked line_feeds since_line_feed line_tokens_from line_tokens found_word word_kind within next_in taken many_from listed_from ends end deep next_two access prim unary prod sum null expr_over expr console_act other_act name_act bag_act thrown told import_stmt else_part if_stmt stmt braces inner body in_parens callback list_callback host_own once accepted hot_call hot_top plain_top top guard declaration import_name import_item item finished module_reader reading has_name repeated expr_broken all_broken least place_of lib.Utf8.encode is_segment_byte
an_event_is_listened_to_by_its_module = refl

pub no_event_without_a_segment : fault (codes "import.meta.hot.on('my:', () => { });\na = 1") ≡ at 1 20 words.Unexpected
unfolding is_utf8 chars parsing lexing lex_from step front is_blank is_name_start is_digit is_quote is_name_byte is_line_end is_escape unescape not_line_feed span added after_token barred begins number_at number_from text_at text_from comment_at comment_from punct_at single double marked line_feeds since_line_feed line_tokens_from line_tokens found_word word_kind within next_in taken many_from listed_from ends end deep next_two access prim unary prod sum null expr_over expr console_act other_act name_act bag_act thrown told import_stmt else_part if_stmt stmt braces inner body in_parens callback list_callback host_own once accepted hot_call hot_top plain_top top guard declaration import_name import_item item finished module_reader reading has_name repeated expr_broken all_broken least place_of lib.Utf8.encode is_segment_byte
no_event_without_a_segment = refl

pub an_earlier_name_goes_before_the_event : fault (codes "a = 1; import.meta.hot.on('', () => { })") ≡ at 1 1 words.NotAssignable
unfolding is_utf8 chars parsing lexing lex_from step front is_blank is_name_start is_digit is_quote is_name_byte is_line_end is_escape unescape not_line_feed span added after_token barred begins number_at number_from text_at text_from comment_at comment_from punct_at single double marked line_feeds since_line_feed line_tokens_from line_tokens found_word word_kind within next_in taken many_from listed_from ends end deep next_two access prim unary prod sum null expr_over expr console_act other_act name_act bag_act thrown told import_stmt else_part if_stmt stmt braces inner body in_parens callback list_callback host_own once accepted hot_call hot_top plain_top top guard declaration import_name import_item item finished module_reader reading has_name repeated expr_broken all_broken least place_of lib.Utf8.encode is_segment_byte
an_earlier_name_goes_before_the_event = refl

pub on_takes_a_callback : fault (codes "import.meta.hot.on('a')") ≡ at 1 23 words.Unexpected
unfolding is_utf8 chars parsing lexing lex_from step front is_blank is_name_start is_digit is_quote is_name_byte is_line_end is_escape unescape not_line_feed span added after_token barred begins number_at number_from text_at text_from comment_at comment_from punct_at single double marked line_feeds since_line_feed line_tokens_from line_tokens found_word word_kind within next_in taken many_from listed_from ends end deep next_two access prim unary prod sum null expr_over expr console_act other_act name_act bag_act thrown told import_stmt else_part if_stmt stmt braces inner body in_parens callback list_callback host_own once accepted hot_call hot_top plain_top top guard declaration import_name import_item item finished module_reader reading has_name repeated expr_broken all_broken least place_of lib.Utf8.encode
on_takes_a_callback = refl

pub on_is_a_name_elsewhere : fault (codes "export let on = 1; on = 2; console.log(on)") ≡ None
unfolding is_utf8 chars parsing lexing lex_from step front is_blank is_name_start is_digit is_quote is_name_byte is_line_end is_escape unescape not_line_feed span added after_token barred begins number_at number_from text_at text_from comment_at comment_from punct_at single double marked line_feeds since_line_feed line_tokens_from line_tokens found_word word_kind within next_in taken many_from listed_from ends end deep next_two access prim unary prod sum null expr_over expr console_act other_act name_act bag_act thrown told import_stmt else_part if_stmt stmt braces inner body in_parens callback list_callback host_own once accepted hot_call hot_top plain_top top guard declaration import_name import_item item finished module_reader reading has_name repeated expr_broken all_broken least place_of lib.Utf8.encode
on_is_a_name_elsewhere = refl
