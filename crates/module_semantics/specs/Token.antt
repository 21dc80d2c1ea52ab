-- Tokens of a module text as plain data.
use Rattle.std.specs.Prelude.{ℕ, List, Bool}

-- a name by its bytes, a number by its value, a text by the bytes that it stands for, and a punctuation by
-- its place, from 0, in `{ } ( ) [ ] , ; . = + - * ? : => ?. ??`
pub data Token : Type 0 where
  name : List ℕ → Token
  number : ℕ → Token
  text : List ℕ → Token
  punct : ℕ → Token

-- a token, the place of its first byte, from 0, and how many bytes it has
pub record Lexeme : Type 0 where
  pub token : Token
  pub at : ℕ
  pub len : ℕ

-- a token, the place of its first byte, and whether it begins on a later line than the one on which the
-- token before it ends
pub record LineToken : Type 0 where
  pub token : Token
  pub at : ℕ
  pub later : Bool
