-- The plain data that tokens stand for.
use Rattle.std.specs.Prelude.{ℕ, List, map}
use Rattle.module_semantics.specs.Token as plain
use Rattle.module_semantics.specs.Token.{Lexeme}
use Rattle.hot_lexer.specs.declared.punct.Punct.{Punct}
use Rattle.hot_lexer.specs.declared.punct.Punct.TheVariants as puncts
use Rattle.hot_lexer.specs.declared.token.TokenKind.{TokenKind}
use Rattle.hot_lexer.specs.declared.token.TokenKind.TheVariants as kinds
use Rattle.hot_lexer.specs.declared.token.Token.{Token}

-- the place of a punctuation, from 0, in `{ } ( ) [ ] , ; . = + - * ? : => ?. ??`
abbrev pub place_of : Punct → ℕ
place_of puncts.OpenBrace = 0
place_of puncts.CloseBrace = 1
place_of puncts.Open = 2
place_of puncts.Close = 3
place_of puncts.OpenBracket = 4
place_of puncts.CloseBracket = 5
place_of puncts.Comma = 6
place_of puncts.Semicolon = 7
place_of puncts.Dot = 8
place_of puncts.Equals = 9
place_of puncts.Plus = 10
place_of puncts.Minus = 11
place_of puncts.Times = 12
place_of puncts.Question = 13
place_of puncts.Colon = 14
place_of puncts.Arrow = 15
place_of puncts.SafeDot = 16
place_of puncts.Nullish = 17

-- what a token is
abbrev pub token_of : TokenKind → plain.Token
token_of (kinds.Name name) = plain.name name.now
token_of (kinds.Number n) = plain.number n
token_of (kinds.Text text) = plain.text text
token_of (kinds.Punct p) = plain.punct (place_of p)

-- a token where it stands
abbrev pub lexeme_of : Token → Lexeme
lexeme_of t = record { token = token_of t.kind; at = t.at; len = t.len }

-- tokens, in order
abbrev pub lexemes_of : List Token → List Lexeme
lexemes_of ts = map lexeme_of ts
