-- The text that stands for one that is refused: blanks up to the line and column of the fault, and there a fault of the
-- module language.
use Rattle.std.specs.Prelude.{ℕ, ◌-◌, min, List, ◌++◌, length, replicate, codes, decimal}
use Rattle.hmr_types.specs.declared.analysis.FaultWord.{FaultWord}
use Rattle.hmr_types.specs.declared.analysis.FaultWord.TheVariants as words
use Rattle.hmr_types.specs.declared.analysis.TextFault.{TextFault}
use Rattle.module_semantics.specs.Lines.{column_of, line_of}
use Rattle.es_scan.specs.declared.fault.Fault.{Fault}
use Rattle.es_scan.specs.declared.fault.FaultKind.{FaultKind}
use Rattle.es_scan.specs.declared.fault.FaultKind.TheVariants as kinds
use Rattle.skeletons.specs.declared.refusal.TheConstants.{FARTHEST}

-- the word of the module language for a fault; running out of memory is none of a text
abbrev pub fault_word : FaultKind → FaultWord
fault_word kinds.OpenString = words.OpenString
fault_word kinds.OpenTemplate = words.BadByte
fault_word kinds.OpenComment = words.OpenComment
fault_word kinds.OpenRegularExpression = words.BadByte
fault_word kinds.OpenBracket = words.Unexpected
fault_word kinds.UnmatchedBracket = words.Unexpected
fault_word kinds.OutOfMemory = words.Unexpected

-- bytes with the fault of a word
abbrev pub wrong : FaultWord → List ℕ
wrong words.OpenString = codes "\""
wrong words.OpenComment = codes "/*"
wrong words.BadByte = codes "`"
wrong word = codes ")//"

-- the place of a fault in its text
abbrev pub place_in : List ℕ → Fault → ℕ
place_in text f = min f.at (length text)

-- the fault that is told of the module: at the line and column of the text's own, or as far as is shown
abbrev pub refusal : List ℕ → Fault → TextFault
refusal text f = record {
  line = min (line_of text (place_in text f)) FARTHEST;
  col = min (column_of text (place_in text f)) FARTHEST;
  word = fault_word f.kind;
}

-- a text with a fault
abbrev pub text_with : ℕ → TextFault → List ℕ
text_with stamp f =
    replicate (f.line - 1) 10 ++ (replicate (f.col - 1) 32 ++ (wrong f.word ++ decimal stamp))
