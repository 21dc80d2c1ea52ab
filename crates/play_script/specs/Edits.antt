-- Which bytes are edits, and what they say; or the first fault of those that are none. Edits are lines of a
-- script that has no command but `edit` and `remove`, and needs no root.
use Rattle.std.specs.Prelude.{◌≡◌, ℕ, List, [], ◌∷◌, Option, Some, None, Result, Ok}
use Rattle.hmr_types.specs.Results.{◌>>=◌}
use Rattle.play_script.specs.declared.fault.ScriptFault.{ScriptFault}
use Rattle.play_script.specs.declared.form.Form.TheVariants as forms
use Rattle.play_script.specs.declared.script_line.ScriptLine.{ScriptLine}
use Rattle.play_script.specs.declared.script_line.ScriptLine.TheVariants as lines
use Rattle.play_script.specs.Script.{beginning, checked, commands, lines_from}

-- the name of a module, and its text; or none, where the module is taken away
abbrev pub Edit : Type 0
Edit = List ℕ × Option (List ℕ)

-- the edit that a command is, where it is one
abbrev pub edit_of : ScriptLine → Option Edit
edit_of (lines.Edit name text) = Some (name, Some text)
edit_of (lines.Remove name) = Some (name, None)
edit_of other = None

abbrev pub with_edit : Option Edit → List Edit → List Edit
with_edit (Some edit) more = edit ∷ more
with_edit None more = more

-- the edits among commands
abbrev pub edits_among : List ScriptLine → List Edit
edits_among [] = []
edits_among (command ∷ more) = with_edit (edit_of command) (edits_among more)

-- the edits that a text's lines say
abbrev pub edits_in : List ℕ → List Edit
edits_in text = edits_among (commands (lines_from [] text))

-- the edits that bytes say, or their first fault
abbrev pub edits_of : List ℕ → Result (List Edit) ScriptFault
edits_of text = checked (beginning forms.Edits) 1 (lines_from [] text) >>= λ draft. Ok (edits_in text)

-- what was left begins with the next edit, and the rest is left; or nothing was left, nor is
abbrev pub IsNextEdit : Option Edit → List Edit → List Edit → Type 0
IsNextEdit (Some edit) before after = before ≡ edit ∷ after
IsNextEdit None before after = (before ≡ []) × (after ≡ [])
