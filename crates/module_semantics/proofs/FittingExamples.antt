-- Worked examples of modules that fit, and of such that don't.
use Rattle.std.specs.Prelude.{◌≡◌, ℕ, zero, suc, [], ◌∷◌, true, false, Some, None, codes}
use Rattle.std.proofs.Common.{refl}
use Rattle.std.specs.Str.{is_utf8, chars}
use Rattle.std.specs.Char.{encode_utf8}
use Rattle.module_tree.specs.Syntax.{ExprTree, num, text, name, member, neg, binary, param, value, no_stmts, one_stmt, log, assign, invalidate, branch, code, import, declare, act, own, deps, dispose}
use Rattle.module_tree.specs.declared.tree.Op.TheVariants as ops
use Rattle.module_semantics.specs.Bytes.{is_name_start, is_name_byte, is_digit}
use Rattle.module_semantics.specs.Kinds.{within, word_kind, found_word}
use Rattle.module_semantics.specs.Pieces.{all}
use Rattle.module_semantics.specs.NameRules.{has_name}
use Rattle.module_semantics.specs.Resolving.{place_of}
use Rattle.module_semantics.specs.CanonTokens.{fits_expr}
use Rattle.module_semantics.specs.Fitting.{fits}

abbrev x : ExprTree
x = name (codes "x")

-- import { b as c } from "./x.js"; let n = 1 + c; accept("./x.js", (m) => { if (m) { n = m?.b; } })
pub a_module_that_fits : fits
    (import (codes "./x.js") (record { exported = codes "b"; local = codes "c" } ∷ [])
    ∷ declare true true (codes "n") (binary ops.Add (num 1) (name (codes "c")))
    ∷ deps false (codes "./x.js" ∷ []) (Some (record { params = codes "m" ∷ []; body = one_stmt (branch (param 0) (one_stmt (assign (codes "n") (member 0 true (codes "b"))) no_stmts) no_stmts) no_stmts }))
    ∷ [])
    ≡ true
unfolding fits is_utf8 chars encode_utf8 is_name_start is_name_byte is_digit within word_kind found_word all has_name place_of fits_expr
a_module_that_fits = refl

pub a_constant_is_not_assigned : fits (declare false false (codes "n") x ∷ act (assign (codes "n") (num 2)) ∷ []) ≡ false
unfolding fits is_utf8 chars encode_utf8 is_name_start is_name_byte is_digit within word_kind found_word all has_name place_of fits_expr
a_constant_is_not_assigned = refl

pub a_name_is_bound_once : fits (import (codes "./x.js") (record { exported = codes "b"; local = codes "n" } ∷ []) ∷ declare false true (codes "n") (num 1) ∷ []) ≡ false
unfolding fits is_utf8 chars encode_utf8 is_name_start is_name_byte is_digit within word_kind found_word all has_name place_of fits_expr
a_name_is_bound_once = refl

pub a_reserved_word_is_no_name : fits (declare false true (codes "if") (num 1) ∷ []) ≡ false
unfolding fits is_utf8 chars encode_utf8 is_name_start is_name_byte is_digit within word_kind found_word all has_name place_of fits_expr
a_reserved_word_is_no_name = refl

pub a_name_looks_like_a_name : fits (declare false true (codes "1a") (num 1) ∷ []) ≡ false
unfolding fits is_utf8 chars encode_utf8 is_name_start is_name_byte is_digit within word_kind found_word all has_name place_of fits_expr
a_name_looks_like_a_name = refl

pub a_number_is_in_range : fits (act (log (num 9007199254740992 ∷ [])) ∷ []) ≡ false
unfolding fits is_utf8 chars encode_utf8 is_name_start is_name_byte is_digit within word_kind found_word all has_name place_of fits_expr
a_number_is_in_range = refl

pub a_text_is_utf8 : fits (act (log (text (255 ∷ []) ∷ [])) ∷ []) ≡ false
unfolding fits is_utf8 chars encode_utf8 is_name_start is_name_byte is_digit within word_kind found_word all has_name place_of fits_expr
a_text_is_utf8 = refl

pub no_branch_stands_at_the_top : fits (act (branch (value x) no_stmts no_stmts) ∷ []) ≡ false
unfolding fits is_utf8 chars encode_utf8 is_name_start is_name_byte is_digit within word_kind found_word all has_name place_of fits_expr
no_branch_stands_at_the_top = refl

pub a_callback_of_the_module_has_one_parameter : fits (own (Some (code (record { params = codes "a" ∷ codes "b" ∷ []; body = no_stmts }))) ∷ []) ≡ false
unfolding fits is_utf8 chars encode_utf8 is_name_start is_name_byte is_digit within word_kind found_word all has_name place_of fits_expr
a_callback_of_the_module_has_one_parameter = refl

pub parameters_are_different : fits (deps true [] (Some (record { params = codes "a" ∷ codes "a" ∷ []; body = no_stmts })) ∷ []) ≡ false
unfolding fits is_utf8 chars encode_utf8 is_name_start is_name_byte is_digit within word_kind found_word all has_name place_of fits_expr
parameters_are_different = refl

pub a_parameter_is_no_value : fits (own (Some (code (record { params = codes "x" ∷ []; body = one_stmt (log (x ∷ [])) no_stmts }))) ∷ []) ≡ false
unfolding fits is_utf8 chars encode_utf8 is_name_start is_name_byte is_digit within word_kind found_word all has_name place_of fits_expr
a_parameter_is_no_value = refl

pub a_key_is_of_a_parameter : fits (own (Some (code (record { params = codes "a" ∷ []; body = one_stmt (log (member 1 false (codes "k") ∷ [])) no_stmts }))) ∷ []) ≡ false
unfolding fits is_utf8 chars encode_utf8 is_name_start is_name_byte is_digit within word_kind found_word all has_name place_of fits_expr
a_key_is_of_a_parameter = refl

pub a_dispose_callback_keeps_no_parameter : fits (dispose (code (record { params = codes "a" ∷ []; body = no_stmts })) ∷ []) ≡ false
unfolding fits is_utf8 chars encode_utf8 is_name_start is_name_byte is_digit within word_kind found_word all has_name place_of fits_expr
a_dispose_callback_keeps_no_parameter = refl

pub nothing_is_invalidated_in_a_dispose_callback : fits (dispose (code (record { params = []; body = one_stmt (invalidate None) no_stmts })) ∷ []) ≡ false
unfolding fits is_utf8 chars encode_utf8 is_name_start is_name_byte is_digit within word_kind found_word all has_name place_of fits_expr
nothing_is_invalidated_in_a_dispose_callback = refl

pub two_specifiers_stand_in_a_list : fits (deps false (codes "./a.js" ∷ codes "./b.js" ∷ []) None ∷ []) ≡ false
unfolding fits is_utf8 chars encode_utf8 is_name_start is_name_byte is_digit within word_kind found_word all has_name place_of fits_expr
two_specifiers_stand_in_a_list = refl

-- so many minuses, each in parentheses but the first
abbrev minuses : ℕ → ExprTree
minuses zero = x
minuses (suc n) = neg (minuses n)

pub the_deepest_fits : fits (act (log (minuses 64 ∷ [])) ∷ []) ≡ true
unfolding fits is_utf8 chars encode_utf8 is_name_start is_name_byte is_digit within word_kind found_word all has_name place_of fits_expr
the_deepest_fits = refl

pub one_deeper_does_not_fit : fits (act (log (minuses 65 ∷ [])) ∷ []) ≡ false
unfolding fits is_utf8 chars encode_utf8 is_name_start is_name_byte is_digit within word_kind found_word all has_name place_of fits_expr
one_deeper_does_not_fit = refl
