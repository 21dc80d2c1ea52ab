-- The numbers that the definitions give to the kinds of tokens.
use Rattle.std.specs.Prelude.{ℕ}
use Rattle.module_semantics.specs.Kinds.{OTHER, IMPORT, EXPORT, CONST, LET, IF, ELSE, THROW, UNDEFINED}
use Rattle.module_semantics.specs.Kinds.{NULL, TRUE, FALSE, CONSOLE, LOG, HOST, NEW, ERROR, FROM, AS, META}
use Rattle.module_semantics.specs.Kinds.{HOT, DATA, ACCEPT, DISPOSE, PRUNE, DECLINE, INVALIDATE, ON, NUMBER}
use Rattle.module_semantics.specs.Kinds.{TEXT, OPEN_BRACE, CLOSE_BRACE, OPEN, CLOSE, OPEN_BRACKET}
use Rattle.module_semantics.specs.Kinds.{CLOSE_BRACKET, COMMA, SEMICOLON, DOT, EQUALS, PLUS, MINUS, TIMES}
use Rattle.module_semantics.specs.Kinds.{QUESTION, COLON, ARROW, SAFE_DOT, NULLISH}
use Rattle.token_kinds.specs.declared.kind.Kind.{Kind}
use Rattle.token_kinds.specs.declared.kind.Kind.TheVariants as kinds

-- the number of a kind
abbrev pub code_of : Kind → ℕ
code_of kinds.Other = OTHER
code_of kinds.Import = IMPORT
code_of kinds.Export = EXPORT
code_of kinds.Const = CONST
code_of kinds.Let = LET
code_of kinds.If = IF
code_of kinds.Else = ELSE
code_of kinds.Throw = THROW
code_of kinds.Undefined = UNDEFINED
code_of kinds.Null = NULL
code_of kinds.True = TRUE
code_of kinds.False = FALSE
code_of kinds.Console = CONSOLE
code_of kinds.Log = LOG
code_of kinds.Host = HOST
code_of kinds.New = NEW
code_of kinds.Error = ERROR
code_of kinds.From = FROM
code_of kinds.As = AS
code_of kinds.Meta = META
code_of kinds.Hot = HOT
code_of kinds.Data = DATA
code_of kinds.Accept = ACCEPT
code_of kinds.Dispose = DISPOSE
code_of kinds.Prune = PRUNE
code_of kinds.Decline = DECLINE
code_of kinds.Invalidate = INVALIDATE
code_of kinds.On = ON
code_of kinds.Number = NUMBER
code_of kinds.Text = TEXT
code_of kinds.OpenBrace = OPEN_BRACE
code_of kinds.CloseBrace = CLOSE_BRACE
code_of kinds.Open = OPEN
code_of kinds.Close = CLOSE
code_of kinds.OpenBracket = OPEN_BRACKET
code_of kinds.CloseBracket = CLOSE_BRACKET
code_of kinds.Comma = COMMA
code_of kinds.Semicolon = SEMICOLON
code_of kinds.Dot = DOT
code_of kinds.Equals = EQUALS
code_of kinds.Plus = PLUS
code_of kinds.Minus = MINUS
code_of kinds.Times = TIMES
code_of kinds.Question = QUESTION
code_of kinds.Colon = COLON
code_of kinds.Arrow = ARROW
code_of kinds.SafeDot = SAFE_DOT
code_of kinds.Nullish = NULLISH
