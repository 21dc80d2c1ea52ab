-- What the check of a module text tells: its canonical text and analysis, or its first fault.
use Rattle.std.specs.Prelude.{[], ◌∷◌, ◌++◌}
use Rattle.std.specs.Prelude.{ℕ, List, codes, Bool, true, false, Result, Ok, Err}
use Rattle.hmr_types.specs.declared.analysis.Analysis.{Analysis}
use Rattle.hmr_types.specs.declared.analysis.Outcome.{Outcome}
use Rattle.hmr_types.specs.declared.analysis.Outcome.TheVariants.{Good, Bad}
use Rattle.hmr_types.specs.declared.analysis.TextFault.{TextFault}
use Rattle.module_tree.specs.Syntax.{ModuleTree}
use Rattle.module_semantics.specs.Analysis.{analysed, scan_outcome}
use Rattle.module_semantics.specs.Canon.{canon}
use Rattle.module_semantics.specs.ModuleText.{parsing}
use Rattle.play_script.specs.Texts.{names_text}
use Rattle.play_text.specs.Lines.{text_fault}

-- the line of a fault: its place and its word
abbrev pub text_fault_line : TextFault → List ℕ
text_fault_line fault = codes "fault " ++ text_fault fault ++ codes "\n"

-- the line of a word and the names behind it, where there is a name
abbrev pub names_line : List ℕ → List (List ℕ) → List ℕ
names_line word [] = []
names_line word (n ∷ ns) = word ++ names_text (n ∷ ns) ++ codes "\n"

-- a line that stands or doesn't
abbrev pub flag_line : List ℕ → Bool → List ℕ
flag_line line true = line
flag_line line false = []

-- the lines of an analysis: those that have something to tell
abbrev pub analysis_lines : Analysis → List ℕ
analysis_lines a =
    names_line (codes "imports") a.imports ++ names_line (codes "exports") a.exports
    ++ flag_line (codes "self\n") a.self_accepts
    ++ names_line (codes "accepts") a.accepted ++ flag_line (codes "declines\n") a.declined

-- the report of a module: its canonical text, and the lines of its analysis
abbrev pub analysis_report : ModuleTree → Analysis → List ℕ
analysis_report m a = canon m ++ analysis_lines a

-- the report of a module, or of a fault of its specifiers and imports
abbrev pub outcome_report : ModuleTree → Outcome → List ℕ
outcome_report m (Good a) = analysis_report m a
outcome_report m (Bad fault) = text_fault_line fault

abbrev pub tree_report : List ℕ → ModuleTree → List ℕ
tree_report name m = outcome_report m (scan_outcome (analysed name m))

-- the report of what a text reads as, or of its first fault
abbrev pub reading_report : List ℕ → Result ModuleTree TextFault → List ℕ
reading_report name (Ok m) = tree_report name m
reading_report name (Err fault) = text_fault_line fault

-- the report of a text as that of the module of this name
abbrev pub report : List ℕ → List ℕ → List ℕ
report name text = reading_report name (parsing text)
