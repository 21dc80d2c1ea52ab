-- The lines of a script's canonical spelling pass the check, and its roots stand after them.
use Rattle.std.proofs.Common.{ℕ, ◌+◌, List, [], ◌∷◌, ◌++◌, length, Bool, true, false, map, ◌≡◌, refl, sym, ap, subst, ◌∙◌, arith, append_assoc, Ok}
use Rattle.std.specs.Prelude.{◌&&◌, codes, not, nat_lt}
use Rattle.std.specs.List.{flat_map, list_all, list_any}
use Rattle.std.specs.Str.{is_utf8}
use Rattle.std.proofs.lemmas.Bool.{and_parts}
use Rattle.std.proofs.lemmas.Bool.Decides.{nat_tests}
use Rattle.std.proofs.lemmas.List.{append-nil, map-append}
use Rattle.std.proofs.lemmas.Str.{IsUtf8-from_is_utf8, is_utf8-from_IsUtf8}
use Rattle.hmr_types.specs.ModName.{is_name, is_text}
use Rattle.hmr_types.specs.Results.{◌>>=◌}
use Rattle.hmr_types.specs.declared.limits.TheConstants.{ROOTS}
use Rattle.play_script.specs.declared.draft.Draft.{Draft}
use Rattle.play_script.specs.declared.form.Form.TheVariants as forms
use Rattle.play_script.specs.declared.script_line.ScriptLine.{ScriptLine}
use Rattle.play_script.specs.declared.script_line.ScriptLine.TheVariants as lines
use Rattle.play_script.specs.declared.words.Said.{Said}
use Rattle.play_script.specs.declared.words.Said.TheVariants as says
use Rattle.play_script.specs.Texts.{spaced}
use Rattle.play_script.specs.Script.{Contents, Line, beginning, checked, is_empty, line_read, line_said_in, lines_from, numbered, placed}
use Rattle.play_script.specs.Spelling.{HasSpelling, are_roots, command_lines, command_text, fits, is_writable, script_lines}
use Rattle.play_script.proofs.SpelledLines.{Says, command_says, root_says, bar_utf8}
use Rattle.play_script.proofs.SpelledTexts.{ended}

-- the lines lead from one script so far to another, whatever stands below them
abbrev Leads : Draft → List (List ℕ) → Draft → Type 0
Leads d ls e = (n : ℕ) (more : List Line) → (k : ℕ) × (checked d n (map ended ls ++ more) ≡ checked e k more)

stays : (d : Draft) → Leads d [] d
stays d = λ n more. (n, refl)

by_line : (d next e : Draft) (line : List ℕ) (ls : List (List ℕ)) → line_read d line true ≡ Ok next → Leads next ls e → Leads d (line ∷ ls) e
by_line d next e line ls read leads = λ n more.
    let below = leads (n + 1) more in
    (below.0, ap (λ r. numbered n r >>= λ x. checked x (n + 1) (map ended ls ++ more)) read ∙ below.1)

by_both : (d e f : Draft) (xs ys : List (List ℕ)) → Leads d xs e → Leads e ys f → Leads d (xs ++ ys) f
by_both d e f xs ys first second = λ n more.
    let a = first n (map ended ys ++ more) in
    let b = second a.0 more in
    (b.0, ap (λ l. checked d n (l ++ more)) (map-append ended xs ys) ∙ (ap (checked d n) (append_assoc (map ended xs) (map ended ys) more) ∙ (a.1 ∙ b.1)))

-- a line that says this is placed
read_of : (d : Draft) (line : List ℕ) (s : Said) → d.form ≡ forms.Page → Says line s → line_read d line true ≡ placed d s
read_of d line s page h = ap (λ f. line_said_in f line true >>= placed d) page ∙ ap (λ r. r >>= placed d) h.0

abbrev of_roots : List (List ℕ) → Bool → Bool → Draft
of_roots roots began in_edit = record { form = forms.Page; roots = roots; began = began; in_edit = in_edit }

abbrev root_line : List ℕ → List ℕ
root_line name = codes "root" ++ spaced name

roots_lead : (rs before : List (List ℕ)) → are_roots before rs ≡ true → Leads (of_roots before false false) (map root_line rs) (of_roots (before ++ rs) false false)
roots_lead [] before h = subst (λ b. Leads (of_roots before false false) [] (of_roots b false false)) (sym (append-nil before)) (stays (of_roots before false false))
roots_lead (r ∷ rs) before h =
    let all = and_parts (is_name r && nat_lt (length before) ROOTS && not (list_any (λ root. is_text root r) before)) (are_roots (before ++ r ∷ []) rs) h in
    let new = and_parts (is_name r && nat_lt (length before) ROOTS) (not (list_any (λ root. is_text root r) before)) all.0 in
    let two = and_parts (is_name r) (nat_lt (length before) ROOTS) new.0 in
    let few = two.1 in
    let other = new.1 in
    let here = of_roots before false false in
    let next = of_roots (before ++ r ∷ []) false false in
    let place : placed here (says.Root r) ≡ Ok next = rw (few, other) refl in
    by_line here next (of_roots (before ++ r ∷ rs) false false) (root_line r) (map root_line rs) (read_of here (root_line r) (says.Root r) refl (root_says r two.0) ∙ place)
    (subst (λ b. Leads next (map root_line rs) (of_roots b false false)) (append_assoc before (r ∷ []) rs) (roots_lead rs (before ++ r ∷ []) all.1))

text_read : (roots : List (List ℕ)) (bytes : List ℕ) → is_utf8 bytes ≡ true → nat_lt (length bytes) 65535 ≡ true → line_read (of_roots roots true true) (codes "|" ++ bytes) true ≡ Ok (of_roots roots true true)
text_read roots bytes u few =
    let utf8 = is_utf8-from_IsUtf8 (codes "|" ++ bytes) (bar_utf8 bytes (IsUtf8-from_is_utf8 bytes u)) in
    let long : nat_lt 65535 (length (codes "|" ++ bytes)) ≡ false = grind (arith, nat_tests, few) in
    rw (utf8, long) refl

-- lines of text stay in an edit
text_leads : (ls : List Line) (roots : List (List ℕ)) → list_all fits ls ≡ true → Leads (of_roots roots true true) (map (λ line. codes "|" ++ line.bytes) ls) (of_roots roots true true)
text_leads [] roots h = stays (of_roots roots true true)
text_leads (l ∷ ls) roots h =
    let here = and_parts (fits l) (list_all fits ls) h in
    let whole = and_parts (l.ended && is_utf8 l.bytes) (nat_lt (length l.bytes) 65535) here.0 in
    let utf8 = (and_parts l.ended (is_utf8 l.bytes) whole.0).1 in
    by_line (of_roots roots true true) (of_roots roots true true) (of_roots roots true true) (codes "|" ++ l.bytes) (map (λ line. codes "|" ++ line.bytes) ls)
    (text_read roots l.bytes utf8 whole.1) (text_leads ls roots here.1)

-- a command's lines lead on, with the same roots
abbrev Passes : List (List ℕ) → Bool → Bool → List (List ℕ) → Type 0
Passes roots b c ls = (in_edit : Bool) × Leads (of_roots roots b c) ls (of_roots roots true in_edit)

some_root : (roots : List (List ℕ)) → is_empty roots ≡ false → not (is_empty roots) ≡ true
some_root roots h = rw h refl

plain : (roots : List (List ℕ)) (b c : Bool) (line : ScriptLine) → is_empty roots ≡ false → Says (command_text line) (says.Command line) → Passes roots b c (command_text line ∷ [])
plain roots b c line some h =
    let d = of_roots roots b c in
    let e = of_roots roots true false in
    let root = some_root roots some in
    let place : placed d (says.Command line) ≡ Ok e = rw root refl in
    (false, by_line d e e (command_text line) [] (read_of d (command_text line) (says.Command line) refl h ∙ place) (stays e))

edit : (roots : List (List ℕ)) (b c : Bool) (name text : List ℕ) → is_empty roots ≡ false → is_writable (lines.Edit name text) ≡ true → Passes roots b c (command_lines (lines.Edit name text))
edit roots b c name text some h =
    let both = and_parts (is_name name) (list_all fits (lines_from [] text)) h in
    let d = of_roots roots b c in
    let e = of_roots roots true true in
    let root = some_root roots some in
    let place : placed d (says.Edit name) ≡ Ok e = rw root refl in
    let line = command_text (lines.Edit name text) in
    (true, by_line d e e line (map (λ line. codes "|" ++ line.bytes) (lines_from [] text)) (read_of d line (says.Edit name) refl (command_says (lines.Edit name text) h) ∙ place) (text_leads (lines_from [] text) roots both.1))

one : (roots : List (List ℕ)) (b c : Bool) (line : ScriptLine) → is_empty roots ≡ false → is_writable line ≡ true → Passes roots b c (command_lines line)
one roots b c (lines.Edit name text) some h = edit roots b c name text some h
one roots b c lines.Quiet some h = plain roots b c lines.Quiet some (command_says lines.Quiet h)
one roots b c (lines.Remove name) some h = plain roots b c (lines.Remove name) some (command_says (lines.Remove name) h)
one roots b c lines.SettleAll some h = plain roots b c lines.SettleAll some (command_says lines.SettleAll h)
one roots b c (lines.Settle name n) some h = plain roots b c (lines.Settle name n) some (command_says (lines.Settle name n) h)
one roots b c (lines.Open format names) some h = plain roots b c (lines.Open format names) some (command_says (lines.Open format names) h)
one roots b c (lines.Close n) some h = plain roots b c (lines.Close n) some (command_says (lines.Close n) h)
one roots b c (lines.Turn n) some h = plain roots b c (lines.Turn n) some (command_says (lines.Turn n) h)
one roots b c (lines.Turns n k) some h = plain roots b c (lines.Turns n k) some (command_says (lines.Turns n k) h)
one roots b c (lines.Emit event text) some h = plain roots b c (lines.Emit event text) some (command_says (lines.Emit event text) h)
one roots b c (lines.Hear n) some h = plain roots b c (lines.Hear n) some (command_says (lines.Hear n) h)
one roots b c (lines.Show n) some h = plain roots b c (lines.Show n) some (command_says (lines.Show n) h)
one roots b c (lines.Values n) some h = plain roots b c (lines.Values n) some (command_says (lines.Values n) h)
one roots b c (lines.Fates n) some h = plain roots b c (lines.Fates n) some (command_says (lines.Fates n) h)
one roots b c lines.Fresh some h = plain roots b c lines.Fresh some (command_says lines.Fresh h)
one roots b c (lines.FreshOf n) some h = plain roots b c (lines.FreshOf n) some (command_says (lines.FreshOf n) h)

-- what the lines of commands lead to
abbrev Ends : List (List ℕ) → Bool → Bool → List ScriptLine → Type 0
Ends roots b c ls = (e : Draft) × Leads (of_roots roots b c) (flat_map command_lines ls) e × (e.roots ≡ roots)

commands_lead : (ls : List ScriptLine) (roots : List (List ℕ)) (b c : Bool) → is_empty roots ≡ false → list_all is_writable ls ≡ true → Ends roots b c ls
commands_lead [] roots b c some h = (of_roots roots b c, stays (of_roots roots b c), refl)
commands_lead (l ∷ ls) roots b c some h =
    let here = and_parts (is_writable l) (list_all is_writable ls) h in
    let first = one roots b c l some here.0 in
    let rest = commands_lead ls roots true first.0 some here.1 in
    (rest.0, by_both (of_roots roots b c) (of_roots roots true first.0) rest.0 (command_lines l) (flat_map command_lines ls) first.1 rest.1, rest.2)

none_of : (ls : List ScriptLine) (roots : List (List ℕ)) → is_empty ls ≡ true → Ends roots false false ls
none_of [] roots h = (of_roots roots false false, stays (of_roots roots false false), refl)
none_of (l ∷ ls) roots h = absurd (cc)

below_roots : (s : Contents) (e : Bool) → is_empty s.roots ≡ e → HasSpelling s → Ends s.roots false false s.lines
below_roots s false e h = commands_lead s.lines s.roots false false e h.lines
below_roots s true e h = none_of s.lines s.roots (h.some_root e)

-- the lines of a spelling pass, and its roots stand after them
pub spelling_passes : (s : Contents) → HasSpelling s → (e : Draft) × (checked (beginning forms.Page) 1 (map ended (script_lines s)) ≡ Ok e) × (e.roots ≡ s.roots)
spelling_passes s h =
    let ends = below_roots s (is_empty s.roots) refl h in
    let leads = by_both (beginning forms.Page) (of_roots s.roots false false) ends.0 (map root_line s.roots) (flat_map command_lines s.lines) (roots_lead s.roots [] h.roots) ends.1 in
    (ends.0, ap (checked (beginning forms.Page) 1) (sym (append-nil (map ended (script_lines s)))) ∙ (leads 1 []).1, ends.2)
