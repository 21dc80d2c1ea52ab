-- The canonical spelling of a script, and which scripts have one.
use Rattle.std.specs.Prelude.{◌≡◌, ◌∷◌, ◌++◌, ◌&&◌, ◌==◌, []}
use Rattle.std.specs.Prelude.{ℕ, length, Bool, true, not, nat_le, nat_lt, if◌then◌else◌, List, codes, map}
use Rattle.std.specs.List.{flat_map, list_all, list_any}
use Rattle.std.specs.Str.{is_utf8}
use Rattle.hmr_types.specs.Event.{is_event_module}
use Rattle.hmr_types.specs.ModName.{is_name, is_text}
use Rattle.hmr_types.specs.declared.limits.TheConstants.{LARGEST_CLIENT, LARGEST_NUMBER}
use Rattle.hmr_types.specs.declared.limits.TheConstants.{ROOTS, SCRIPT_LINE_BYTES}
use Rattle.play_script.specs.declared.script_line.ScriptLine.{ScriptLine}
use Rattle.play_script.specs.declared.script_line.ScriptLine.TheVariants as lines
use Rattle.play_script.specs.Texts.{event_text, names_text, spaced, spaced_number}
use Rattle.play_script.specs.Script.{Contents, Line, is_empty, is_line_end, is_text_value, lines_from}

-- the word that opens a client of this format
abbrev pub open_word : ℕ → List ℕ
open_word format = codes "open" ++ (if format == 2 then codes "2" else [])

-- the line of a command
abbrev pub command_text : ScriptLine → List ℕ
command_text lines.Quiet = codes "quiet"
command_text (lines.Edit name text) = codes "edit" ++ spaced name
command_text (lines.Remove name) = codes "remove" ++ spaced name
command_text lines.SettleAll = codes "settle"
command_text (lines.Settle name version) = codes "settle" ++ spaced name ++ spaced_number version
command_text (lines.Open format roots) = open_word format ++ names_text roots
command_text (lines.Close client) = codes "close" ++ spaced_number client
command_text (lines.Turn client) = codes "turn" ++ spaced_number client
command_text (lines.Turns client most) = codes "turns" ++ spaced_number client ++ spaced_number most
command_text (lines.Emit event text) = codes "emit" ++ spaced (event_text event) ++ spaced text
command_text (lines.Hear client) = codes "hear" ++ spaced_number client
command_text (lines.Show client) = codes "show" ++ spaced_number client
command_text (lines.Values client) = codes "values" ++ spaced_number client
command_text (lines.Fates client) = codes "fates" ++ spaced_number client
command_text lines.Fresh = codes "fresh"
command_text (lines.FreshOf client) = codes "fresh" ++ spaced_number client

-- the lines of a command's text, each behind `|`
abbrev pub text_lines : ScriptLine → List (List ℕ)
text_lines (lines.Edit name text) = map (λ line. codes "|" ++ line.bytes) (lines_from [] text)
text_lines line = []

-- the lines of a command
abbrev pub command_lines : ScriptLine → List (List ℕ)
command_lines line = command_text line ∷ text_lines line

-- the lines of a script: its roots, then its commands
abbrev pub script_lines : Contents → List (List ℕ)
script_lines script =
    map (λ name. codes "root" ++ spaced name) script.roots ++ flat_map command_lines script.lines

-- lines, each with LF
abbrev pub ended_by_lf : List (List ℕ) → List ℕ
ended_by_lf [] = []
ended_by_lf (line ∷ more) = line ++ (codes "\n" ++ ended_by_lf more)

-- the canonical spelling of a script
abbrev pub spelling : Contents → List ℕ
spelling script = ended_by_lf (script_lines script)

-- a number from 1 to the most
abbrev pub in_range : ℕ → ℕ → Bool
in_range most n = nat_lt 0 n && nat_le n most

-- a line of an edit's text, which stands in a script behind `|`
abbrev pub fits : Line → Bool
fits line = line.ended && is_utf8 line.bytes && nat_lt (length line.bytes) SCRIPT_LINE_BYTES

-- an opening in format 1 or 2, whose names are names and stand on one line
abbrev pub is_opening : ℕ → List (List ℕ) → Bool
is_opening format roots =
    in_range 2 format && list_all is_name roots
    && nat_le (length (open_word format ++ names_text roots)) SCRIPT_LINE_BYTES

-- a text value that is one word of a line: no space and no LF stands in it
abbrev pub is_word_value : List ℕ → Bool
is_word_value text =
    is_text_value text && list_all (λ b. not (b == 32)) text && list_all (λ b. not (is_line_end b)) text

-- a command whose names are names, whose numbers are in their range, and whose text is lines that fit
abbrev pub is_writable : ScriptLine → Bool
is_writable (lines.Edit name text) = is_name name && list_all fits (lines_from [] text)
is_writable (lines.Remove name) = is_name name
is_writable (lines.Settle name version) = is_name name && in_range LARGEST_NUMBER version
is_writable (lines.Open format roots) = is_opening format roots
is_writable (lines.Close client) = in_range LARGEST_CLIENT client
is_writable (lines.Turn client) = in_range LARGEST_CLIENT client
is_writable (lines.Turns client most) = in_range LARGEST_CLIENT client && in_range LARGEST_CLIENT most
is_writable (lines.Emit event text) = is_event_module event && is_word_value text
is_writable (lines.Hear client) = in_range LARGEST_CLIENT client
is_writable (lines.Show client) = in_range LARGEST_CLIENT client
is_writable (lines.Values client) = in_range LARGEST_CLIENT client
is_writable (lines.Fates client) = in_range LARGEST_CLIENT client
is_writable (lines.FreshOf client) = in_range LARGEST_CLIENT client
is_writable line = true

-- roots behind others: names, none of them an earlier one, and at most 16 in all
abbrev pub are_roots : List (List ℕ) → List (List ℕ) → Bool
are_roots before [] = true
are_roots before (name ∷ more) =
    is_name name && nat_lt (length before) ROOTS && not (list_any (λ root. is_text root name) before)
    && are_roots (before ++ name ∷ []) more

-- a script that has a spelling
pub record HasSpelling (script : Contents) : Type 0 where
  pub roots : are_roots [] script.roots ≡ true
  pub lines : list_all is_writable script.lines ≡ true
  pub some_root : is_empty script.roots ≡ true → is_empty script.lines ≡ true
