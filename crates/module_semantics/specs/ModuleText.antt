-- Which text reads as which module, and what the first fault of the others is.
use Rattle.std.specs.Prelude.{◌≡◌, ℕ, ◌-◌, List, [], ◌∷◌, length, drop, if◌then◌else◌, Option, Some, None}
use Rattle.std.specs.Prelude.{Result, Ok, Err, IsUtf8}
use Rattle.std.specs.Str.{is_utf8}
use Rattle.std.specs.Str.Lossy.{utf8_valid_len}
use Rattle.module_tree.specs.Syntax.{ModuleTree}
use Rattle.hmr_types.specs.declared.limits.TheConstants.{DEPTH}
use Rattle.hmr_types.specs.declared.analysis.FaultWord.{FaultWord}
use Rattle.hmr_types.specs.declared.analysis.FaultWord.TheVariants as words
use Rattle.hmr_types.specs.declared.analysis.TextFault.{TextFault}
use Rattle.module_semantics.specs.Token.{Lexeme, LineToken}
use Rattle.module_semantics.specs.Lexing.{lexing}
use Rattle.module_semantics.specs.Lines.{line_of, column_of, line_tokens}
use Rattle.module_semantics.specs.Pieces.{IsLexing}
use Rattle.module_semantics.specs.Raw.{RawItem}
use Rattle.module_semantics.specs.Readers.{GrammarFault, unexpected, too_deep}
use Rattle.module_semantics.specs.Reading.{reading}
use Rattle.module_semantics.specs.ModuleTokens.{Says}
use Rattle.module_semantics.specs.NameRules.{Broken, first_broken}
use Rattle.module_semantics.specs.Resolving.{module_tree}
use Rattle.module_semantics.specs.declared.tokens.LexFault.{LexFault}
use Rattle.module_semantics.specs.declared.tokens.LexKind.{LexKind}
use Rattle.module_semantics.specs.declared.tokens.LexKind.TheVariants as kinds

-- the text is UTF-8, it is blanks, comments and longest tokens, its tokens have the grammar at no more than
-- the depth, the rules on names hold, and this is its tree
pub record ReadsAs (text : List ℕ) (m : ModuleTree) : Type 0 where
  pub utf8 : IsUtf8 text
  pub tokens : List Lexeme
  pub lexed : IsLexing text tokens
  pub items : List RawItem
  pub says : Says DEPTH (line_tokens text tokens) items
  pub named : first_broken items ≡ None
  pub is : module_tree items ≡ m

-- the word of a fault of the tokens; out of memory is none of a text
abbrev pub lex_word : LexKind → FaultWord
lex_word kinds.BadByte = words.BadByte
lex_word kinds.OpenString = words.OpenString
lex_word kinds.OpenComment = words.OpenComment
lex_word kinds.BadEscape = words.BadEscape
lex_word kinds.NumberTooLarge = words.NumberTooLarge
lex_word kinds.TooManyTokens = words.TooManyTokens
lex_word kinds.NoMemory = words.TooManyTokens

-- a fault at a place of a text
abbrev pub fault_at : List ℕ → ℕ → FaultWord → TextFault
fault_at text place word = record { line = line_of text place; col = column_of text place; word = word }

-- the place at which n of the tokens are left: the first of these, or the end of the text
abbrev pub place_at : List ℕ → List LineToken → ℕ
place_at text [] = length text
place_at text (t ∷ ts) = t.at

-- the place at which n of the tokens are left
abbrev pub place_left : List ℕ → List LineToken → ℕ → ℕ
place_left text ts n = place_at text (drop (length ts - n) ts)

-- a fault of the grammar with its line and column
abbrev pub grammar_fault : List ℕ → List LineToken → GrammarFault → TextFault
grammar_fault text ts (unexpected n) = fault_at text (place_left text ts n) words.Unexpected
grammar_fault text ts (too_deep n) = fault_at text (place_left text ts n) words.TooDeep

-- the tree, where the rules on names hold
abbrev pub named : List ℕ → List RawItem → Option Broken → Result ModuleTree TextFault
named text items None = Ok (module_tree items)
named text items (Some b) = Err (fault_at text b.at b.word)

-- the tree, where the tokens have the grammar
abbrev pub read_items : List ℕ → List LineToken → Result (List RawItem) GrammarFault →
    Result ModuleTree TextFault
read_items text ts (Ok items) = named text items (first_broken items)
read_items text ts (Err f) = Err (grammar_fault text ts f)

-- the tree, where the text is tokens
abbrev pub read_tokens : List ℕ → Result (List Lexeme) LexFault → Result ModuleTree TextFault
read_tokens text (Ok ts) = read_items text (line_tokens text ts) (reading DEPTH (line_tokens text ts))
read_tokens text (Err f) = Err (fault_at text f.at (lex_word f.kind))

-- the module that a text reads as, or its first fault: of its bytes, its tokens, its grammar, or its names
unfoldable pub parsing : List ℕ → Result ModuleTree TextFault
parsing text =
    if is_utf8 text then read_tokens text (lexing text)
    else Err (fault_at text (utf8_valid_len text) words.NotUtf8)

-- the fault, where there is one
abbrev pub fault_of : Result ModuleTree TextFault → Option TextFault
fault_of (Ok m) = None
fault_of (Err f) = Some f

-- the first fault of a text, unless it is a module
abbrev pub fault : List ℕ → Option TextFault
fault text = fault_of (parsing text)
