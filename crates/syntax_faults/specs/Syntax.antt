-- Faults of a module text as code gives them.
use Rattle.std.specs.Prelude.{◌≡◌, Option, Some, None, Result, Ok, Err}
use Rattle.std.specs.Option.{option_map}
use Rattle.module_tree.specs.Syntax.{ModuleTree}
use Rattle.hmr_types.specs.declared.analysis.FaultWord.{FaultWord}
use Rattle.hmr_types.specs.declared.analysis.FaultWord.TheVariants as words
use Rattle.hmr_types.specs.declared.analysis.TextFault.{TextFault}
use Rattle.module_semantics.specs.declared.tokens.LexKind.{LexKind}
use Rattle.module_semantics.specs.declared.tokens.LexKind.TheVariants as lex
use Rattle.syntax_faults.specs.declared.syntax_fault.SyntaxFault.{SyntaxFault}
use Rattle.syntax_faults.specs.declared.syntax_fault.SyntaxKind.{SyntaxKind}
use Rattle.syntax_faults.specs.declared.syntax_fault.SyntaxKind.TheVariants as kinds

-- the word of a fault of the tokens, none where memory ran out
abbrev pub token_word : LexKind → Option FaultWord
token_word lex.BadByte = Some words.BadByte
token_word lex.OpenString = Some words.OpenString
token_word lex.OpenComment = Some words.OpenComment
token_word lex.BadEscape = Some words.BadEscape
token_word lex.NumberTooLarge = Some words.NumberTooLarge
token_word lex.TooManyTokens = Some words.TooManyTokens
token_word lex.NoMemory = None

-- the word of what is wrong, none where memory ran out
abbrev pub word_of : SyntaxKind → Option FaultWord
word_of (kinds.Lex kind) = token_word kind
word_of kinds.Unexpected = Some words.Unexpected
word_of kinds.TooDeep = Some words.TooDeep
word_of kinds.DuplicateName = Some words.DuplicateName
word_of kinds.NotUtf8 = Some words.NotUtf8
word_of kinds.NotAssignable = Some words.NotAssignable
word_of kinds.NoMemory = None

-- the fault of the text, none where memory ran out
abbrev pub text_fault_of : SyntaxFault → Option TextFault
text_fault_of f = option_map (λ w. record { line = f.line; col = f.col; word = w }) (word_of f.kind)

-- out of memory has no place
abbrev pub no_memory : SyntaxFault
no_memory = record { line = 0; col = 0; kind = kinds.NoMemory }

-- a fault of the text is the one that the definition gives; out of memory says nothing of the text, and has
-- no place
abbrev pub FaultIs : Option TextFault → SyntaxFault → Result ModuleTree TextFault → Type 0
FaultIs None f read = f ≡ no_memory
FaultIs (Some told) f read = read ≡ Err told

-- what code returned, seen by view, is what the definition gives, unless memory ran out
abbrev pub Parses : {X : Type 0} → (X → ModuleTree) → Result X SyntaxFault → Result ModuleTree TextFault
    → Type 0
Parses view (Ok x) read = read ≡ Ok (view x)
Parses view (Err f) read = FaultIs (text_fault_of f) f read
