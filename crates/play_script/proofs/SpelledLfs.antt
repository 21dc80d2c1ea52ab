-- No LF stands within a line of a script's canonical spelling.
use Rattle.std.proofs.Common.{ℕ, List, [], ◌∷◌, ◌++◌, length, Bool, true, false, cond, map, ◌≡◌, refl, ◌∙◌, arith}
use Rattle.std.specs.Prelude.{◌&&◌, ◌==◌, codes, decimal, not, nat_lt}
use Rattle.std.specs.List.{flat_map, list_all, list_any}
use Rattle.std.proofs.lemmas.Bool.{and_parts, and_from}
use Rattle.std.proofs.lemmas.List.Folds.{list_all-append}
use Rattle.hmr_types.specs.Event.{is_event_module}
use Rattle.hmr_types.specs.ModName.{is_name, is_text}
use Rattle.hmr_types.specs.declared.limits.TheConstants.{LARGEST_CLIENT, LARGEST_NUMBER, ROOTS}
use Rattle.play_script.specs.declared.script_line.ScriptLine.{ScriptLine}
use Rattle.play_script.specs.declared.script_line.ScriptLine.TheVariants as lines
use Rattle.play_script.specs.Texts.{event_text, names_text, spaced}
use Rattle.play_script.specs.Script.{Line, is_line_end, lines_from}
use Rattle.play_script.specs.Spelling.{are_roots, command_lines, command_text, fits, in_range, is_opening, is_word_value, is_writable, open_word, text_lines}
use Rattle.play_script.proofs.SpelledLines.{in_range-parts, opening_parts, word_parts}
use Rattle.play_script.proofs.SpelledNames.{has_no_lf, has_no_lf-event, has_no_lf-name}
use Rattle.play_script.proofs.SpelledNumbers.{has_no_lf-decimal}
use Rattle.play_script.proofs.SpelledTexts.{are_lines, lines_no_lf}

client_no_lf : (n : ℕ) → in_range LARGEST_CLIENT n ≡ true → has_no_lf (decimal n) ≡ true
client_no_lf n h = let here = in_range-parts LARGEST_CLIENT n h in has_no_lf-decimal n (omega (arith, here.1))

version_no_lf : (n : ℕ) → in_range LARGEST_NUMBER n ≡ true → has_no_lf (decimal n) ≡ true
version_no_lf n h = let here = in_range-parts LARGEST_NUMBER n h in has_no_lf-decimal n (omega (arith, here.1))

two_no_lf : (v w : List ℕ) → has_no_lf v ≡ true → has_no_lf w ≡ true → has_no_lf (v ++ spaced w) ≡ true
two_no_lf v w a b = list_all-append (λ x. not (is_line_end x)) v (spaced w) ∙ and_from _ _ a b

names_no_lf : (names : List (List ℕ)) → list_all is_name names ≡ true → has_no_lf (names_text names) ≡ true
names_no_lf [] h = refl
names_no_lf (n ∷ ns) h =
    let here = and_parts (is_name n) (list_all is_name ns) h in
    list_all-append (λ x. not (is_line_end x)) (spaced n) (names_text ns) ∙ and_from _ _ (has_no_lf-name n here.0) (names_no_lf ns here.1)

word_no_lf : (t : Bool) → has_no_lf (codes "open" ++ cond t (codes "2") []) ≡ true
word_no_lf true = refl
word_no_lf false = refl

opening_no_lf : (format : ℕ) (roots : List (List ℕ)) → is_opening format roots ≡ true → has_no_lf (open_word format ++ names_text roots) ≡ true
opening_no_lf format roots h = list_all-append (λ x. not (is_line_end x)) (open_word format) (names_text roots) ∙ and_from _ _ (word_no_lf (format == 2)) (names_no_lf roots (opening_parts format roots h).names)

text_no_lf : (line : ScriptLine) → is_writable line ≡ true → has_no_lf (command_text line) ≡ true
text_no_lf lines.Quiet h = refl
text_no_lf (lines.Edit name text) h = has_no_lf-name name (and_parts (is_name name) (list_all fits (lines_from [] text)) h).0
text_no_lf (lines.Remove name) h = has_no_lf-name name h
text_no_lf lines.SettleAll h = refl
text_no_lf (lines.Settle name n) h = let both = and_parts (is_name name) (in_range LARGEST_NUMBER n) h in two_no_lf name (decimal n) (has_no_lf-name name both.0) (version_no_lf n both.1)
text_no_lf (lines.Open format roots) h = opening_no_lf format roots h
text_no_lf (lines.Close n) h = client_no_lf n h
text_no_lf (lines.Turn n) h = client_no_lf n h
text_no_lf (lines.Turns c k) h = let both = and_parts (in_range LARGEST_CLIENT c) (in_range LARGEST_CLIENT k) h in two_no_lf (decimal c) (decimal k) (client_no_lf c both.0) (client_no_lf k both.1)
text_no_lf (lines.Emit event text) h = let both = and_parts (is_event_module event) (is_word_value text) h in two_no_lf (event_text event) text (has_no_lf-event event both.0) (word_parts text both.1).line_ends
text_no_lf (lines.Hear n) h = client_no_lf n h
text_no_lf (lines.Show n) h = client_no_lf n h
text_no_lf (lines.Values n) h = client_no_lf n h
text_no_lf (lines.Fates n) h = client_no_lf n h
text_no_lf lines.Fresh h = refl
text_no_lf (lines.FreshOf n) h = client_no_lf n h

barred_no_lf : (ls : List Line) → are_lines ls ≡ true → list_all has_no_lf (map (λ line. codes "|" ++ line.bytes) ls) ≡ true
barred_no_lf [] h = refl
barred_no_lf (l ∷ ls) h = let here = and_parts (has_no_lf l.bytes) (are_lines ls) h in and_from _ _ here.0 (barred_no_lf ls here.1)

below_no_lf : (line : ScriptLine) → list_all has_no_lf (text_lines line) ≡ true
below_no_lf (lines.Edit name text) = barred_no_lf (lines_from [] text) (lines_no_lf text [] refl)
below_no_lf line = refl

pub commands_no_lf : (ls : List ScriptLine) → list_all is_writable ls ≡ true → list_all has_no_lf (flat_map command_lines ls) ≡ true
commands_no_lf [] h = refl
commands_no_lf (l ∷ ls) h =
    let here = and_parts (is_writable l) (list_all is_writable ls) h in
    list_all-append has_no_lf (command_lines l) (flat_map command_lines ls) ∙ and_from _ _ (and_from _ _ (text_no_lf l here.0) (below_no_lf l)) (commands_no_lf ls here.1)

pub roots_no_lf : (rs before : List (List ℕ)) → are_roots before rs ≡ true → list_all has_no_lf (map (λ name. codes "root" ++ spaced name) rs) ≡ true
roots_no_lf [] before h = refl
roots_no_lf (r ∷ rs) before h =
    let all = and_parts (is_name r && nat_lt (length before) ROOTS && not (list_any (λ root. is_text root r) before)) (are_roots (before ++ r ∷ []) rs) h in
    let new = and_parts (is_name r && nat_lt (length before) ROOTS) (not (list_any (λ root. is_text root r) before)) all.0 in
    let name = (and_parts (is_name r) (nat_lt (length before) ROOTS) new.0).0 in
    and_from _ _ (has_no_lf-name r name) (roots_no_lf rs (before ++ r ∷ []) all.1)
