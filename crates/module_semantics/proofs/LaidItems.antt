-- The canonical text of callbacks, items and whole modules is laid out in their canonical tokens.
use Rattle.std.proofs.Common.{◌≡◌, ℕ, List, [], ◌∷◌, ◌++◌, map, Bool, true, false, cond, Option, Some, None, refl, ap, subst, codes}
use Rattle.std.specs.List.{list_all}
use Rattle.std.specs.Str.{bytes_eq}
use Rattle.module_tree.specs.Syntax as tree
use Rattle.module_tree.specs.Syntax.{ExprTree, HandlerTree, OnceTree, ItemTree, ModuleTree}
use Rattle.module_tree.specs.declared.tree.ImportName.{ImportName}
use Rattle.module_semantics.specs.Token as token
use Rattle.module_semantics.specs.Token.{Token}
use Rattle.module_semantics.specs.Canon.{quoted, commas, callback_text, handler_text, list_params, list_handler_text, once_text, import_name_text, import_text, export_text, declare_text, call_text, own_text, specs_text, heard, deps_word, heard_text, deps_handler_text, item_text, canon}
use Rattle.module_semantics.specs.CanonTokens.{expr_tokens, stmts_tokens}
use Rattle.module_semantics.specs.CanonItems.{between_commas, name_tokens, text_tokens, callback_tokens, handler_tokens, list_params_tokens, list_handler_tokens, once_tokens, import_name_tokens, import_tokens, export_tokens, declare_token, call_tokens, own_tokens, specs_tokens, heard_tokens, deps_handler_tokens, item_tokens, canon_tokens}
use Rattle.module_semantics.specs.Fitting.{fits_specs}
use Rattle.module_semantics.proofs.PiecesLex.{both}
use Rattle.module_semantics.proofs.Layouts.{Laid, then_laid, closed_laid, tight_laid, no_text}
use Rattle.module_semantics.proofs.LaidLeaves.{name_laid, quoted_laid}
use Rattle.module_semantics.proofs.Literals.{laid_open, laid_close, laid_comma, laid_end_call, laid_equals, laid_end, laid_close_brace, laid_arrow, laid_no_params, laid_open_list, laid_close_list, laid_host, laid_as, laid_import, laid_import_names, laid_from, laid_export, laid_let, laid_const, laid_hot, laid_open_bracket, laid_close_bracket}
use Rattle.module_semantics.proofs.LaidExprs.{space_closes, paren_closes, bracket_closes, open_closes, semicolon_closes, Writable, name_first, text_first, two_writable, rest_writable, commas_laid, expr_laid}
use Rattle.module_semantics.proofs.LaidStmts.{stmt_laid, stmts_laid}

map_itself : (ns : List (List ℕ)) → map (λ (n : List ℕ). n) ns ≡ ns
map_itself [] = refl
map_itself (n ∷ ns) = ap (λ v. n ∷ v) (map_itself ns)

names_laid : (ns : List (List ℕ)) → Writable (between_commas name_tokens ns) → Laid true (commas ns) (between_commas name_tokens ns)
names_laid ns h = subst (λ v. Laid true (commas v) (between_commas name_tokens ns)) (map_itself ns) (commas_laid (λ n. n) name_tokens (λ n w. name_laid n (name_first n _ w)) ns h)

texts_laid : (ss : List (List ℕ)) → Writable (between_commas text_tokens ss) → Laid true (commas (map quoted ss)) (between_commas text_tokens ss)
texts_laid ss h = commas_laid quoted text_tokens (λ s w. tight_laid (quoted_laid s (text_first s _ w))) ss h

callback_laid : (params : List ℕ) (ts : List Token) (h : HandlerTree) → Laid false params ts → Writable (stmts_tokens h.params h.body) → Laid false (callback_text params h) (callback_tokens ts h)
callback_laid params ts h x w = then_laid x (then_laid laid_arrow (then_laid (stmts_laid h.params 1 h.body w) laid_close_brace))

callback_writable : (ts : List Token) (h : HandlerTree) → Writable (callback_tokens ts h) → Writable ts × Writable (stmts_tokens h.params h.body)
callback_writable ts h w =
    let t = two_writable ts _ w in
    (t.0, (two_writable (stmts_tokens h.params h.body) (token.punct 1 ∷ []) (rest_writable 2 _ t.1)).0)

handler_laid : (h : HandlerTree) → Writable (handler_tokens h) → Laid false (handler_text h) (handler_tokens h)
handler_laid h w =
    let t = callback_writable (token.punct 2 ∷ (between_commas name_tokens h.params ++ (token.punct 3 ∷ []))) h w in
    let u = two_writable (between_commas name_tokens h.params) (token.punct 3 ∷ []) (rest_writable 1 _ t.0) in
    callback_laid _ _ h (then_laid laid_open (closed_laid (names_laid h.params u.0) (paren_closes _) laid_close)) t.1

list_params_laid : (ns : List (List ℕ)) → Writable (list_params_tokens ns) → Laid false (list_params ns) (list_params_tokens ns)
list_params_laid [] w = laid_no_params
list_params_laid (n ∷ ns) w =
    let u = two_writable (between_commas name_tokens (n ∷ ns)) (token.punct 5 ∷ (token.punct 3 ∷ [])) (rest_writable 2 _ w) in
    then_laid laid_open_list (closed_laid (names_laid (n ∷ ns) u.0) (bracket_closes _) laid_close_list)

list_handler_laid : (h : HandlerTree) → Writable (list_handler_tokens h) → Laid false (list_handler_text h) (list_handler_tokens h)
list_handler_laid h w =
    let t = callback_writable (list_params_tokens h.params) h w in
    callback_laid _ _ h (list_params_laid h.params t.0) t.1

once_laid : (o : OnceTree) → Writable (once_tokens o) → Laid false (once_text o) (once_tokens o)
once_laid (tree.code h) w = handler_laid h w
once_laid (tree.host l) w = then_laid laid_host (then_laid (quoted_laid l (text_first l _ (rest_writable 2 (once_tokens (tree.host l)) w))) laid_close)

import_case : (i : ImportName) (b : Bool) → Writable (cond b (token.name i.local ∷ []) (token.name i.exported ∷ (token.name (codes "as") ∷ (token.name i.local ∷ [])))) → Laid true (cond b i.local (i.exported ++ (codes " as " ++ i.local))) (cond b (token.name i.local ∷ []) (token.name i.exported ∷ (token.name (codes "as") ∷ (token.name i.local ∷ []))))
import_case i true w = name_laid i.local (name_first i.local _ w)
import_case i false w = closed_laid (name_laid i.exported (name_first i.exported _ w)) (space_closes _) (then_laid laid_as (name_laid i.local (name_first i.local _ (rest_writable 2 _ w))))

import_name_laid : (i : ImportName) → Writable (import_name_tokens i) → Laid true (import_name_text i) (import_name_tokens i)
import_name_laid i w = import_case i (bytes_eq i.exported i.local) w

import_laid : (s : List ℕ) (is : List ImportName) → Writable (import_tokens s is) → Laid false (import_text s is) (import_tokens s is)
import_laid s [] w = then_laid laid_import (then_laid (quoted_laid s (text_first s _ (rest_writable 1 (import_tokens s []) w))) laid_end)
import_laid s (i ∷ is) w =
    let t = two_writable (between_commas import_name_tokens (i ∷ is)) _ (rest_writable 2 _ w) in
    then_laid laid_import_names (closed_laid (commas_laid import_name_text import_name_tokens import_name_laid (i ∷ is) t.0) (space_closes _) (then_laid laid_from (then_laid (quoted_laid s (text_first s _ (rest_writable 2 _ t.1))) laid_end)))

export_laid : (exported : Bool) → Laid false (export_text exported) (export_tokens exported)
export_laid true = laid_export
export_laid false = no_text

declare_word_laid : (mutable : Bool) → Laid false (declare_text mutable) (declare_token mutable ∷ [])
declare_word_laid true = laid_let
declare_word_laid false = laid_const

declare_laid : (exported mutable : Bool) (n : List ℕ) (e : ExprTree) → Writable (item_tokens (tree.declare exported mutable n e)) → Laid false (item_text (tree.declare exported mutable n e)) (item_tokens (tree.declare exported mutable n e))
declare_laid exported mutable n e w =
    let t = two_writable (export_tokens exported) _ w in
    let u = name_first n _ (rest_writable 1 _ t.1) in
    let v = two_writable (expr_tokens [] e) (token.punct 7 ∷ []) (rest_writable 3 _ t.1) in
    then_laid (export_laid exported) (then_laid (declare_word_laid mutable) (closed_laid (name_laid n u) (space_closes _) (then_laid laid_equals (closed_laid (expr_laid [] e v.0) (semicolon_closes _) laid_end))))

call_laid : (word args : List ℕ) (ts : List Token) → Writable (call_tokens word ts) → (Writable ts → Laid true args ts) → Laid false (call_text word args) (call_tokens word ts)
call_laid word args ts w x =
    let u = name_first word _ (rest_writable 6 (call_tokens word ts) w) in
    let v = two_writable ts (token.punct 3 ∷ (token.punct 7 ∷ [])) (rest_writable 8 (call_tokens word ts) w) in
    then_laid laid_hot (closed_laid (name_laid word u) (open_closes _) (then_laid laid_open (closed_laid (x v.0) (paren_closes _) laid_end_call)))

own_laid : (o : Option OnceTree) → Writable (own_tokens o) → Laid true (own_text o) (own_tokens o)
own_laid None w = tight_laid no_text
own_laid (Some o) w = tight_laid (once_laid o w)

specs_laid : (list : Bool) (ss : List (List ℕ)) → fits_specs list ss ≡ true → Writable (specs_tokens list ss) → Laid false (specs_text list ss) (specs_tokens list ss)
specs_laid true ss few w =
    let t = two_writable (between_commas text_tokens ss) (token.punct 5 ∷ []) (rest_writable 1 _ w) in
    then_laid laid_open_bracket (closed_laid (texts_laid ss t.0) (bracket_closes _) laid_close_bracket)
specs_laid false [] few w = absurd cc
specs_laid false (s ∷ []) few w = then_laid (quoted_laid s (text_first s _ w)) no_text
specs_laid false (s ∷ (t ∷ ss)) few w = absurd cc

deps_handler_laid : (list : Bool) (o : Option HandlerTree) → Writable (deps_handler_tokens list o) → Laid false (deps_handler_text list o) (deps_handler_tokens list o)
deps_handler_laid list None w = no_text
deps_handler_laid true (Some h) w = then_laid laid_comma (list_handler_laid h (rest_writable 1 _ w))
deps_handler_laid false (Some h) w = then_laid laid_comma (handler_laid h (rest_writable 1 _ w))

heard_laid : (event : Option (List ℕ)) (list : Bool) (ss : List (List ℕ)) → fits_specs list ss ≡ true → Writable (heard_tokens event list ss) → Laid false (heard_text event list ss) (heard_tokens event list ss)
heard_laid None list ss few w = specs_laid list ss few w
heard_laid (Some event) list ss few w = quoted_laid event (text_first event _ w)

deps_laid : (event : Option (List ℕ)) (list : Bool) (ss : List (List ℕ)) (o : Option HandlerTree) → fits_specs list ss ≡ true → Writable (heard_tokens event list ss ++ deps_handler_tokens list o) → Laid true (heard_text event list ss ++ deps_handler_text list o) (heard_tokens event list ss ++ deps_handler_tokens list o)
deps_laid event list ss o few w =
    let t = two_writable (heard_tokens event list ss) (deps_handler_tokens list o) w in
    tight_laid (then_laid (heard_laid event list ss few t.0) (deps_handler_laid list o t.1))

-- without the list form there is one specifier
abbrev pub one_specifier : ItemTree → Bool
one_specifier (tree.import s names) = true
one_specifier (tree.declare exported mutable n e) = true
one_specifier (tree.act s) = true
one_specifier (tree.own o) = true
one_specifier (tree.deps list ss h) = fits_specs list ss
one_specifier (tree.dispose o) = true
one_specifier (tree.prune o) = true
one_specifier tree.decline = true

pub item_laid : (i : ItemTree) → one_specifier i ≡ true → Writable (item_tokens i) → Laid false (item_text i) (item_tokens i)
item_laid (tree.import s names) one w = import_laid s names w
item_laid (tree.declare exported mutable n e) one w = declare_laid exported mutable n e w
item_laid (tree.act s) one w = stmt_laid [] 0 s w
item_laid (tree.own o) one w = call_laid (codes "accept") (own_text o) (own_tokens o) w (own_laid o)
item_laid (tree.deps list ss h) one w = call_laid (deps_word (heard list ss h)) _ _ w (deps_laid (heard list ss h) list ss h one)
item_laid (tree.dispose o) one w = call_laid (codes "dispose") _ _ w (λ v. tight_laid (once_laid o v))
item_laid (tree.prune o) one w = call_laid (codes "prune") _ _ w (λ v. tight_laid (once_laid o v))
item_laid tree.decline one w = call_laid (codes "decline") [] [] w (λ v. tight_laid no_text)

pub canon_laid : (m : ModuleTree) → list_all one_specifier m ≡ true → Writable (canon_tokens m) → Laid false (canon m) (canon_tokens m)
canon_laid [] one w = no_text
canon_laid (i ∷ m) one w =
    let o = both (one_specifier i) (list_all one_specifier m) one in
    let t = two_writable (item_tokens i) (canon_tokens m) w in
    then_laid (item_laid i o.0 t.0) (canon_laid m o.1 t.1)
