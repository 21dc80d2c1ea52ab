-- The script that is made of a number of modules and a seed.
use Rattle.std.specs.Prelude.{◌+◌, ◌*◌, ◌/◌, ◌%◌, ◌==◌, [], ◌∷◌, ◌++◌}
use Rattle.std.specs.Prelude.{ℕ, zero, suc, nat_lt, if◌then◌else◌, List, codes, decimal}
use Rattle.std.specs.List.{flat_map}
use Rattle.play_script.specs.Script.{Contents}
use Rattle.play_script.specs.declared.script_line.ScriptLine.{ScriptLine}
use Rattle.play_script.specs.declared.script_line.ScriptLine.TheVariants as lines

-- the state after the next draw
unfoldable pub next : ℕ → ℕ
next s = (s * 1103515245 + 12345) % 2147483648

-- the number below a bound that a state gives: its low bits aren't used
unfoldable pub drawn : ℕ → ℕ → ℕ
drawn s bound = (s / 65536) % bound

-- the state after so many draws
unfoldable pub state_after : ℕ → ℕ → ℕ
state_after s zero = s
state_after s (suc k) = next (state_after s k)

-- the name of a module
unfoldable pub module_name : ℕ → List ℕ
module_name i = codes "/m" ++ decimal i ++ codes ".js"

-- the modules that a module imports, as far as there are such modules
abbrev pub children : ℕ → List ℕ
children i = (4 * i + 1) ∷ (4 * i + 2) ∷ (4 * i + 3) ∷ (4 * i + 4) ∷ []

-- the import of a module
abbrev pub import_line : ℕ → List ℕ
import_line c =
    codes "import { v as v" ++ decimal c ++ codes " } from \"./m" ++ decimal c ++ codes ".js\";\n"

-- the import of a module, where there are so many modules that it is one of them
abbrev pub import_of : ℕ → ℕ → List ℕ
import_of n c = if nat_lt c n then import_line c else []

-- the value of a module
abbrev pub value_line : ℕ → List ℕ
value_line k = codes "export const v = " ++ decimal k ++ codes ";\n"

-- a module accepts itself where 0 was drawn
abbrev pub accept_line : ℕ → List ℕ
accept_line a = if a == 0 then codes "import.meta.hot.accept();\n" else []

-- the text of a module of a page of n
unfoldable pub module_text : ℕ → ℕ → ℕ → ℕ → List ℕ
module_text n i k a = flat_map (import_of n) (children i) ++ value_line k ++ accept_line a

-- an edit of a module
unfoldable pub edit_of : ℕ → ℕ → ℕ → ℕ → ScriptLine
edit_of n i k a = lines.Edit (module_name i) (module_text n i k a)

-- the first edits of the first so many modules
unfoldable pub made : ℕ → ℕ → ℕ → List ScriptLine
made n s zero = []
made n s (suc i) = made n s i ++ edit_of n i 0 (drawn (state_after s (suc i)) 3) ∷ []

-- the load of the page
abbrev pub opening : ℕ → List ScriptLine
opening n = lines.SettleAll ∷ lines.Open 1 [] ∷ lines.Turns 1 (n + 4) ∷ []

-- a round: a module is drawn, and whether it accepts itself; it gets this value, and then come turns
unfoldable pub round : ℕ → ℕ → ℕ → List ScriptLine
round n s k =
    edit_of n (drawn (next s) n) k (drawn (next (next s)) 3)
    ∷ lines.SettleAll ∷ lines.Turns 1 (2 * n + 16) ∷ []

-- the first so many rounds, each after two draws more
unfoldable pub rounds : ℕ → ℕ → ℕ → List ScriptLine
rounds n s zero = []
rounds n s (suc r) = rounds n s r ++ round n (state_after s (2 * r)) (r + 1)

-- what is shown at the end: the client's table, and that of a fresh load
abbrev pub ending : List ScriptLine
ending = lines.Show 1 ∷ lines.Fresh ∷ []

-- the script of a page of n modules
abbrev pub generated : ℕ → ℕ → Contents
generated n s = record {
  roots = module_name 0 ∷ [];
  lines = (lines.Quiet ∷ []) ++ made n s n ++ opening n ++ rounds n (state_after s n) 8 ++ ending;
}
