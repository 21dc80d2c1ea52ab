use Rattle.std.proofs.Common.{refl}
use Rattle.hmr_types.specs.ModName.{is_segment_byte}
use Rattle.module_semantics.specs.Values.{number}
use Rattle.module_semantics.specs.Entries.{entry_at, with_entry}
use Rattle.std.specs.Str.{is_utf8, chars}
use Rattle.module_semantics.specs.Bytes.{is_blank, is_digit, is_name_start, is_name_byte, is_quote, is_line_end, is_escape, unescape, not_line_feed, span}
use Rattle.module_semantics.specs.Lexing.{begins, single, double, barred, after_token, front, number_at, number_from, text_at, text_from, comment_at, comment_from, punct_at, marked, step, added, lex_from, lexing}
use Rattle.module_semantics.specs.Lines.{line_feeds, since_line_feed, line_tokens_from, line_tokens}
use Rattle.module_semantics.specs.Kinds.{found_word, word_kind, within}
use Rattle.module_semantics.specs.Readers.{next_in, taken, many_from, listed_from, ends, end, deep, next_two}
use Rattle.module_semantics.specs.Reading.{access, prim, unary, prod, sum, null, expr_over, expr, console_act, other_act, name_act, bag_act, thrown, told, import_stmt, else_part, if_stmt, stmt, braces, inner, body, in_parens, callback, list_callback, host_own, once, accepted, hot_call, hot_top, plain_top, top, guard, declaration, import_name, import_item, item, finished, module_reader, reading}
use Rattle.module_semantics.specs.NameRules.{has_name, repeated, expr_broken, all_broken, least}
use Rattle.module_semantics.specs.Resolving.{place_of}
use Rattle.module_semantics.specs.ModuleText.{parsing}
use Rattle.journal_laws.proofs.texts.ended_text_had_assigned.Goals as goal

pub returns-clause-ended : goal.returns-clause-ended
unfolding is_utf8 chars parsing lexing lex_from step front is_blank is_name_start is_digit is_quote is_name_byte is_line_end is_escape unescape not_line_feed span added after_token barred begins number_at number_from text_at text_from comment_at comment_from punct_at single double marked line_feeds since_line_feed line_tokens_from line_tokens found_word word_kind within next_in taken many_from listed_from ends end deep next_two access prim unary prod sum null expr_over expr console_act other_act name_act bag_act thrown told import_stmt else_part if_stmt stmt braces inner body in_parens callback list_callback host_own once accepted hot_call hot_top plain_top top guard declaration import_name import_item item finished module_reader reading has_name repeated expr_broken all_broken least place_of lib.Utf8.encode number entry_at with_entry is_segment_byte
returns-clause-ended c = refl

pub returns-clause-live : goal.returns-clause-live
unfolding is_utf8 chars parsing lexing lex_from step front is_blank is_name_start is_digit is_quote is_name_byte is_line_end is_escape unescape not_line_feed span added after_token barred begins number_at number_from text_at text_from comment_at comment_from punct_at single double marked line_feeds since_line_feed line_tokens_from line_tokens found_word word_kind within next_in taken many_from listed_from ends end deep next_two access prim unary prod sum null expr_over expr console_act other_act name_act bag_act thrown told import_stmt else_part if_stmt stmt braces inner body in_parens callback list_callback host_own once accepted hot_call hot_top plain_top top guard declaration import_name import_item item finished module_reader reading has_name repeated expr_broken all_broken least place_of lib.Utf8.encode number entry_at with_entry is_segment_byte
returns-clause-live c = refl

pub returns-clause-anew : goal.returns-clause-anew
unfolding is_utf8 chars parsing lexing lex_from step front is_blank is_name_start is_digit is_quote is_name_byte is_line_end is_escape unescape not_line_feed span added after_token barred begins number_at number_from text_at text_from comment_at comment_from punct_at single double marked line_feeds since_line_feed line_tokens_from line_tokens found_word word_kind within next_in taken many_from listed_from ends end deep next_two access prim unary prod sum null expr_over expr console_act other_act name_act bag_act thrown told import_stmt else_part if_stmt stmt braces inner body in_parens callback list_callback host_own once accepted hot_call hot_top plain_top top guard declaration import_name import_item item finished module_reader reading has_name repeated expr_broken all_broken least place_of lib.Utf8.encode number entry_at with_entry is_segment_byte
returns-clause-anew c = refl

pub returns-clause-fates : goal.returns-clause-fates
unfolding is_utf8 chars parsing lexing lex_from step front is_blank is_name_start is_digit is_quote is_name_byte is_line_end is_escape unescape not_line_feed span added after_token barred begins number_at number_from text_at text_from comment_at comment_from punct_at single double marked line_feeds since_line_feed line_tokens_from line_tokens found_word word_kind within next_in taken many_from listed_from ends end deep next_two access prim unary prod sum null expr_over expr console_act other_act name_act bag_act thrown told import_stmt else_part if_stmt stmt braces inner body in_parens callback list_callback host_own once accepted hot_call hot_top plain_top top guard declaration import_name import_item item finished module_reader reading has_name repeated expr_broken all_broken least place_of lib.Utf8.encode number entry_at with_entry is_segment_byte
returns-clause-fates c = refl

pub returns-clause-stale : goal.returns-clause-stale
unfolding is_utf8 chars parsing lexing lex_from step front is_blank is_name_start is_digit is_quote is_name_byte is_line_end is_escape unescape not_line_feed span added after_token barred begins number_at number_from text_at text_from comment_at comment_from punct_at single double marked line_feeds since_line_feed line_tokens_from line_tokens found_word word_kind within next_in taken many_from listed_from ends end deep next_two access prim unary prod sum null expr_over expr console_act other_act name_act bag_act thrown told import_stmt else_part if_stmt stmt braces inner body in_parens callback list_callback host_own once accepted hot_call hot_top plain_top top guard declaration import_name import_item item finished module_reader reading has_name repeated expr_broken all_broken least place_of lib.Utf8.encode number entry_at with_entry is_segment_byte
returns-clause-stale c = refl
