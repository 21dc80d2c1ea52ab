-- The next of a script's commands, and what is known of it.
use Rattle.std.specs.Prelude.{◌≡◌, ◌⊎◌, List, [], ◌∷◌, Option, Some, None}
use Rattle.play_script.specs.declared.script_line.ScriptLine.{ScriptLine}
use Rattle.play_script.specs.declared.script_line.ScriptLine.TheVariants as lines

-- what was left begins with the next command, and the rest is left; or nothing was left, nor is
abbrev pub IsNext : Option ScriptLine → List ScriptLine → List ScriptLine → Type 0
IsNext (Some command) before after = before ≡ command ∷ after
IsNext None before after = (before ≡ []) × (after ≡ [])

-- a client is opened in format 1 or 2
abbrev pub HasFormat : ScriptLine → Type 0
HasFormat (lines.Open format roots) = (format ≡ 1) ⊎ (format ≡ 2)
HasFormat line = Unit {0}
