-- The first fault of a text: pieces by the rules, and then something that is wrong.
use Rattle.std.specs.Prelude.{◌≡◌, ℕ, suc, ◌+◌, ◌-◌, ◌<◌, ◌≤◌, List, ◌∷◌, ◌++◌, length, true, false, ◌⊎◌}
use Rattle.std.specs.Prelude.{◌==◌, Some, None}
use Rattle.module_semantics.specs.Token.{Token}
use Rattle.module_semantics.specs.Bytes.{is_blank, is_digit, is_name_start, is_quote}
use Rattle.module_semantics.specs.Bytes.{not_line_end, is_escape}
use Rattle.module_semantics.specs.Lexing.{begins, single, barred}
use Rattle.module_semantics.specs.Pieces.{Part, spelled_parts, parts_size, Piece, first, more, token_of}
use Rattle.module_semantics.specs.Pieces.{IsPiece, IsLongest, value, all, opens, unclosed, are_inside}
use Rattle.module_semantics.specs.Pieces.{spelled_all, Fit, last_of, size_all, tokens_from}
use Rattle.module_semantics.specs.declared.tokens.After.{After}
use Rattle.module_semantics.specs.declared.tokens.After.TheVariants as after
use Rattle.module_semantics.specs.declared.tokens.LexFault.{LexFault}
use Rattle.module_semantics.specs.declared.tokens.LexKind.{LexKind}
use Rattle.module_semantics.specs.declared.tokens.LexKind.TheVariants.{BadByte, OpenString, OpenComment}
use Rattle.module_semantics.specs.declared.tokens.LexKind.TheVariants.{BadEscape, NumberTooLarge}
use Rattle.module_semantics.specs.declared.tokens.LexKind.TheVariants.{TooManyTokens, NoMemory}
use Rattle.hmr_types.specs.declared.limits.TheConstants.{TOKENS, LARGEST_NUMBER}

-- no piece begins with b and the bytes after it
pub record BeginsNothing (b : ℕ) (bs : List ℕ) : Type 0 where
  pub blank : is_blank b ≡ false
  pub name : is_name_start b ≡ false
  pub digit : is_digit b ≡ false
  pub quote : is_quote b ≡ false
  pub mark : single b ≡ None
  pub comment : ((b == 47) ≡ true) → (begins 47 bs ≡ false) × (begins 42 bs ≡ false)

-- what is wrong with the piece that begins with b, at a place, and where
abbrev pub WrongPiece : ℕ → ℕ → List ℕ → LexKind → ℕ → Type 0
WrongPiece at b bs BadByte place = (place ≡ at) × BeginsNothing b bs
WrongPiece at b bs OpenString place = (ps : List Part) × (k : List ℕ) × (place ≡ at) × (is_quote b ≡ true)
    × (bs ≡ spelled_parts ps k) × (are_inside b ps ≡ true) × (opens not_line_end k ≡ false)
WrongPiece at b bs BadEscape place =
    (ps : List Part) × (k : List ℕ) × (place ≡ at + suc (parts_size ps)) × (is_quote b ≡ true)
    × (bs ≡ spelled_parts ps (92 ∷ k)) × (are_inside b ps ≡ true) × (opens is_escape k ≡ false)
WrongPiece at b bs OpenComment place =
    (k : List ℕ) × (place ≡ at) × (b ≡ 47) × (bs ≡ 42 ∷ k) × (unclosed k ≡ true)
WrongPiece at b bs NumberTooLarge place =
    (ds : List ℕ) × (k : List ℕ) × (place ≡ at) × (is_digit b ≡ true) × ((b == 48) ≡ false) × (bs ≡ ds ++ k)
    × (all is_digit ds ≡ true) × (opens is_digit k ≡ false) × (LARGEST_NUMBER < value (b - 48) ds)
WrongPiece at b bs TooManyTokens place = ⊥
WrongPiece at b bs NoMemory place = ⊥

-- what is wrong at a place, after a token and after some number of tokens: a byte that the token before
-- bars, a piece that begins so and isn't by the rules, or one token too many
abbrev pub Wrong : After → ℕ → ℕ → ℕ → List ℕ → LexFault → Type 0
Wrong last count at b bs f =
    ((f.kind ≡ BadByte) × (f.at ≡ at) × (barred last b ≡ true))
    ⊎ ((barred last b ≡ false) × WrongPiece at b bs f.kind f.at)
    ⊎ ((f.kind ≡ TooManyTokens) × (f.at ≡ at) × (barred last b ≡ false) × (TOKENS ≤ count)
    × (p : Piece) × (k : List ℕ) × (t : Token) × (first p ≡ b) × (bs ≡ more p k) × (token_of p ≡ Some t)
    × IsPiece p × IsLongest p k)

-- pieces by the rules stand before the place, and there something is wrong
pub record IsFirstLexFault (bytes : List ℕ) (f : LexFault) : Type 0 where
  pub pieces : List Piece
  pub b : ℕ
  pub rest : List ℕ
  pub whole : bytes ≡ spelled_all pieces (b ∷ rest)
  pub fit : Fit after.Other pieces (b ∷ rest)
  pub few : length (tokens_from 0 pieces) ≤ TOKENS
  pub wrong : Wrong (last_of after.Other pieces) (length (tokens_from 0 pieces)) (size_all pieces) b rest f
