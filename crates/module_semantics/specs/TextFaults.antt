-- What the first fault of a text is, by what is wrong with it: its bytes, then its tokens, then its grammar
-- or its depth, then its names.
use Rattle.std.specs.Prelude.{◌≡◌, ℕ, List, ◌⊎◌, Some, IsUtf8}
use Rattle.std.specs.Str.Lossy.{utf8_valid_len}
use Rattle.hmr_types.specs.declared.limits.TheConstants.{DEPTH}
use Rattle.hmr_types.specs.declared.analysis.FaultWord.TheVariants as words
use Rattle.hmr_types.specs.declared.analysis.TextFault.{TextFault}
use Rattle.module_semantics.specs.Token.{Lexeme}
use Rattle.module_semantics.specs.Lines.{line_tokens}
use Rattle.module_semantics.specs.Pieces.{IsLexing}
use Rattle.module_semantics.specs.LexFaults.{IsFirstLexFault}
use Rattle.module_semantics.specs.Raw.{RawItem}
use Rattle.module_semantics.specs.ModuleTokens.{Says, FirstUnexpected, TooDeepAt}
use Rattle.module_semantics.specs.NameRules.{Broken, first_broken}
use Rattle.module_semantics.specs.ModuleText.{lex_word, fault_at, place_left}
use Rattle.module_semantics.specs.declared.tokens.LexFault.{LexFault}

-- the text isn't UTF-8: the fault stands where the longest part at its front that is ends
pub record IsNoText (text : List ℕ) (f : TextFault) : Type 0 where
  pub other : ¬ (IsUtf8 text)
  pub is : f ≡ fault_at text (utf8_valid_len text) words.NotUtf8

-- the text isn't tokens
pub record HasNoTokens (text : List ℕ) (f : TextFault) : Type 0 where
  pub utf8 : IsUtf8 text
  pub fault : LexFault
  pub first : IsFirstLexFault text fault
  pub is : f ≡ fault_at text fault.at (lex_word fault.kind)

-- the tokens leave the grammar
pub record LeavesGrammar (text : List ℕ) (f : TextFault) : Type 0 where
  pub utf8 : IsUtf8 text
  pub tokens : List Lexeme
  pub lexed : IsLexing text tokens
  pub left : ℕ
  pub first : FirstUnexpected (line_tokens text tokens) left
  pub is : f ≡ fault_at text (place_left text (line_tokens text tokens) left) words.Unexpected

-- the tokens are too deep
pub record GoesTooDeep (text : List ℕ) (f : TextFault) : Type 0 where
  pub utf8 : IsUtf8 text
  pub tokens : List Lexeme
  pub lexed : IsLexing text tokens
  pub left : ℕ
  pub deep : TooDeepAt DEPTH (line_tokens text tokens) left
  pub is : f ≡ fault_at text (place_left text (line_tokens text tokens) left) words.TooDeep

-- the text has the grammar, and a rule on names is broken
pub record BreaksNames (text : List ℕ) (f : TextFault) : Type 0 where
  pub utf8 : IsUtf8 text
  pub tokens : List Lexeme
  pub lexed : IsLexing text tokens
  pub items : List RawItem
  pub says : Says DEPTH (line_tokens text tokens) items
  pub broken : Broken
  pub first : first_broken items ≡ Some broken
  pub is : f ≡ fault_at text broken.at broken.word

-- the first fault of a text
abbrev pub IsFault : List ℕ → TextFault → Type 0
IsFault text f =
    IsNoText text f ⊎ HasNoTokens text f ⊎ LeavesGrammar text f ⊎ GoesTooDeep text f ⊎ BreaksNames text f
