-- The lines of a script's canonical spelling say its commands.
use Rattle.std.proofs.Common.{ℕ, List, [], ◌∷◌, ◌++◌, length, true, map, ◌≡◌, refl, sym, ap, ◌∙◌, append_assoc}
use Rattle.std.specs.Prelude.{◌&&◌, codes, not, nat_lt, None}
use Rattle.std.specs.List.{flat_map, list_all, list_any}
use Rattle.std.proofs.lemmas.Bool.{and_parts}
use Rattle.std.proofs.lemmas.List.{append-nil, map-append}
use Rattle.hmr_types.specs.ModName.{is_name, is_text}
use Rattle.hmr_types.specs.declared.limits.TheConstants.{ROOTS}
use Rattle.play_script.specs.declared.script_line.ScriptLine.{ScriptLine}
use Rattle.play_script.specs.declared.script_line.ScriptLine.TheVariants as lines
use Rattle.play_script.specs.declared.words.Said.TheVariants as says
use Rattle.play_script.specs.Texts.{spaced}
use Rattle.play_script.specs.Script.{Contents, Line, command_of, commands, lines_from, text_below, text_of, with_first}
use Rattle.play_script.specs.Spelling.{HasSpelling, are_roots, command_lines, command_text, fits, is_writable, script_lines}
use Rattle.play_script.proofs.SpelledLines.{Says, command_says, root_says}
use Rattle.play_script.proofs.SpelledTexts.{ended, joined, joined-lines}

abbrev root_line : List ℕ → List ℕ
root_line name = codes "root" ++ spaced name

roots_say : (rs before : List (List ℕ)) (more : List Line) → are_roots before rs ≡ true → commands (map ended (map root_line rs) ++ more) ≡ commands more
roots_say [] before more h = refl
roots_say (r ∷ rs) before more h =
    let all = and_parts (is_name r && nat_lt (length before) ROOTS && not (list_any (λ root. is_text root r) before)) (are_roots (before ++ r ∷ []) rs) h in
    let new = and_parts (is_name r && nat_lt (length before) ROOTS) (not (list_any (λ root. is_text root r) before)) all.0 in
    let name = (and_parts (is_name r) (nat_lt (length before) ROOTS) new.0).0 in
    let below = map ended (map root_line rs) ++ more in
    ap (λ s. with_first (command_of s below) (commands below)) (root_says r name).1 ∙ roots_say rs (before ++ r ∷ []) more all.1

abbrev barred : List Line → List (List ℕ)
barred = map (λ line. codes "|" ++ line.bytes)

-- the text of lines of text
barred_text : (ls more : List Line) → text_below (map ended (barred ls) ++ more) ≡ joined ls ++ text_below more
barred_text [] more = refl
barred_text (l ∷ ls) more =
    ap (λ below. l.bytes ++ (codes "\n" ++ below)) (barred_text ls more)
    ∙ (ap (λ below. l.bytes ++ below) (sym (append_assoc (codes "\n") (joined ls) (text_below more)))
    ∙ sym (append_assoc l.bytes (codes "\n" ++ joined ls) (text_below more)))

-- lines of text say no command
barred_say : (ls more : List Line) → commands (map ended (barred ls) ++ more) ≡ commands more
barred_say [] more = refl
barred_say (l ∷ ls) more = barred_say ls more

-- no command's line is a line of text
not_text : (line : ScriptLine) → text_of (command_text line) ≡ None
not_text (lines.Edit name text) = refl
not_text lines.Quiet = refl
not_text (lines.Remove name) = refl
not_text lines.SettleAll = refl
not_text (lines.Settle name n) = refl
not_text (lines.Open format roots) = refl
not_text (lines.Close n) = refl
not_text (lines.Turn n) = refl
not_text (lines.Turns n k) = refl
not_text (lines.Emit event text) = refl
not_text (lines.Hear n) = refl
not_text (lines.Show n) = refl
not_text (lines.Values n) = refl
not_text (lines.Fates n) = refl
not_text lines.Fresh = refl
not_text (lines.FreshOf n) = refl

no_text : (ls : List ScriptLine) → text_below (map ended (flat_map command_lines ls)) ≡ []
no_text [] = refl
no_text (l ∷ ls) = rw (not_text l) refl

plain : (line : ScriptLine) (more : List Line) → Says (command_text line) (says.Command line) → commands (ended (command_text line) ∷ more) ≡ line ∷ commands more
plain line more h = ap (λ s. with_first (command_of s more) (commands more)) h.1

edit : (name text : List ℕ) (more : List Line) → is_writable (lines.Edit name text) ≡ true → text_below more ≡ [] → commands (map ended (command_lines (lines.Edit name text)) ++ more) ≡ lines.Edit name text ∷ commands more
edit name text more h none =
    let both = and_parts (is_name name) (list_all fits (lines_from [] text)) h in
    let below = map ended (barred (lines_from [] text)) ++ more in
    let whole : text_below below ≡ text = barred_text (lines_from [] text) more ∙ (ap (λ t. joined (lines_from [] text) ++ t) none ∙ (append-nil (joined (lines_from [] text)) ∙ joined-lines text [] both.1)) in
    ap (λ s. with_first (command_of s below) (commands below)) (command_says (lines.Edit name text) h).1
    ∙ (ap (λ t. lines.Edit name t ∷ commands below) whole ∙ ap (λ rest. lines.Edit name text ∷ rest) (barred_say (lines_from [] text) more))

one : (line : ScriptLine) (more : List Line) → is_writable line ≡ true → text_below more ≡ [] → commands (map ended (command_lines line) ++ more) ≡ line ∷ commands more
one (lines.Edit name text) more h none = edit name text more h none
one lines.Quiet more h none = plain lines.Quiet more (command_says lines.Quiet h)
one (lines.Remove name) more h none = plain (lines.Remove name) more (command_says (lines.Remove name) h)
one lines.SettleAll more h none = plain lines.SettleAll more (command_says lines.SettleAll h)
one (lines.Settle name n) more h none = plain (lines.Settle name n) more (command_says (lines.Settle name n) h)
one (lines.Open format roots) more h none = plain (lines.Open format roots) more (command_says (lines.Open format roots) h)
one (lines.Close n) more h none = plain (lines.Close n) more (command_says (lines.Close n) h)
one (lines.Turn n) more h none = plain (lines.Turn n) more (command_says (lines.Turn n) h)
one (lines.Turns n k) more h none = plain (lines.Turns n k) more (command_says (lines.Turns n k) h)
one (lines.Emit event text) more h none = plain (lines.Emit event text) more (command_says (lines.Emit event text) h)
one (lines.Hear n) more h none = plain (lines.Hear n) more (command_says (lines.Hear n) h)
one (lines.Show n) more h none = plain (lines.Show n) more (command_says (lines.Show n) h)
one (lines.Values n) more h none = plain (lines.Values n) more (command_says (lines.Values n) h)
one (lines.Fates n) more h none = plain (lines.Fates n) more (command_says (lines.Fates n) h)
one lines.Fresh more h none = plain lines.Fresh more (command_says lines.Fresh h)
one (lines.FreshOf n) more h none = plain (lines.FreshOf n) more (command_says (lines.FreshOf n) h)

all_said : (ls : List ScriptLine) → list_all is_writable ls ≡ true → commands (map ended (flat_map command_lines ls)) ≡ ls
all_said [] h = refl
all_said (l ∷ ls) h =
    let here = and_parts (is_writable l) (list_all is_writable ls) h in
    ap commands (map-append ended (command_lines l) (flat_map command_lines ls))
    ∙ (one l (map ended (flat_map command_lines ls)) here.0 (no_text ls) ∙ ap (λ more. l ∷ more) (all_said ls here.1))

-- the lines of a spelling say its commands
pub spelling_says : (s : Contents) → HasSpelling s → commands (map ended (script_lines s)) ≡ s.lines
spelling_says s h =
    ap commands (map-append ended (map root_line s.roots) (flat_map command_lines s.lines))
    ∙ (roots_say s.roots [] (map ended (flat_map command_lines s.lines)) h.roots ∙ all_said s.lines h.lines)
