-- A text as pieces: blanks, comments and longest tokens.
use Rattle.std.specs.Prelude.{◌≡◌, ◌+◌, ◌*◌, ◌-◌, ◌≤◌, [], ◌∷◌, ◌++◌}
use Rattle.std.specs.Prelude.{ℕ, suc, List, length, Bool, true, false}
use Rattle.std.specs.Prelude.{not, ◌&&◌, ◌==◌, Option, Some, None}
use Rattle.module_semantics.specs.Token.{Token, name, number, text, punct, Lexeme}
use Rattle.module_semantics.specs.Bytes.{is_blank, is_digit, is_name_start, is_name_byte, is_quote}
use Rattle.module_semantics.specs.Bytes.{is_line_end, is_escape, unescape, not_line_feed}
use Rattle.module_semantics.specs.Lexing.{begins, single, double, barred, after_token}
use Rattle.module_semantics.specs.declared.tokens.After.{After}
use Rattle.module_semantics.specs.declared.tokens.After.TheVariants as after
use Rattle.hmr_types.specs.declared.limits.TheConstants.{TOKENS, LARGEST_NUMBER}

-- what stands between quotes: a byte as it is, or a backslash and a byte
pub data Part : Type 0 where
  plain : ℕ → Part
  escaped : ℕ → Part

-- line and block: the bytes of a comment. word, digits: the first byte and the others. quoted: the quote and
-- what is inside. mark, pair: the bytes of a punctuation, and its number
pub data Piece : Type 0 where
  blank : ℕ → Piece
  line : List ℕ → Piece
  block : List ℕ → Piece
  word : ℕ → List ℕ → Piece
  nought : Piece
  digits : ℕ → List ℕ → Piece
  quoted : ℕ → List Part → Piece
  mark : ℕ → ℕ → Piece
  pair : ℕ → ℕ → ℕ → Piece

-- the bytes of the parts, before k
abbrev pub spelled_parts : List Part → List ℕ → List ℕ
spelled_parts [] k = k
spelled_parts (plain b ∷ ps) k = b ∷ spelled_parts ps k
spelled_parts (escaped e ∷ ps) k = 92 ∷ e ∷ spelled_parts ps k

-- how many bytes the parts have
abbrev pub parts_size : List Part → ℕ
parts_size [] = 0
parts_size (plain b ∷ ps) = suc (parts_size ps)
parts_size (escaped e ∷ ps) = suc (suc (parts_size ps))

-- the bytes that the parts stand for
abbrev pub parts_text : List Part → List ℕ
parts_text [] = []
parts_text (plain b ∷ ps) = b ∷ parts_text ps
parts_text (escaped e ∷ ps) = unescape e ∷ parts_text ps

-- the first byte
abbrev pub first : Piece → ℕ
first (blank b) = b
first (line cs) = 47
first (block cs) = 47
first (word b cs) = b
first nought = 48
first (digits b ds) = b
first (quoted q ps) = q
first (mark b p) = b
first (pair b c p) = b

-- the bytes after the first, before k
abbrev pub more : Piece → List ℕ → List ℕ
more (blank b) k = k
more (line cs) k = 47 ∷ (cs ++ k)
more (block cs) k = 42 ∷ (cs ++ (42 ∷ 47 ∷ k))
more (word b cs) k = cs ++ k
more nought k = k
more (digits b ds) k = ds ++ k
more (quoted q ps) k = spelled_parts ps (q ∷ k)
more (mark b p) k = k
more (pair b c p) k = c ∷ k

-- all its bytes, before k
abbrev pub spelled : Piece → List ℕ → List ℕ
spelled p k = first p ∷ more p k

-- how many bytes it has
abbrev pub size : Piece → ℕ
size (blank b) = 1
size (line cs) = suc (suc (length cs))
size (block cs) = suc (suc (suc (suc (length cs))))
size (word b cs) = suc (length cs)
size nought = 1
size (digits b ds) = suc (length ds)
size (quoted q ps) = suc (suc (parts_size ps))
size (mark b p) = 1
size (pair b c p) = 2

-- the number that digits stand for, after a value
abbrev pub value : ℕ → List ℕ → ℕ
value v [] = v
value v (d ∷ ds) = value (10 * v + (d - 48)) ds

-- the token that it is, unless it is a blank or a comment
abbrev pub token_of : Piece → Option Token
token_of (blank b) = None
token_of (line cs) = None
token_of (block cs) = None
token_of (word b cs) = Some (name (b ∷ cs))
token_of nought = Some (number 0)
token_of (digits b ds) = Some (number (value (b - 48) ds))
token_of (quoted q ps) = Some (text (parts_text ps))
token_of (mark b p) = Some (punct p)
token_of (pair b c p) = Some (punct p)

-- each byte is of the class
unfoldable pub all : (ℕ → Bool) → List ℕ → Bool
all p [] = true
all p (b ∷ bs) = p b && all p bs

-- the list has a first byte, of the class
unfoldable pub opens : (ℕ → Bool) → List ℕ → Bool
opens p [] = false
opens p (b ∷ bs) = p b

-- no `*/` stands in the bytes
unfoldable pub unclosed : List ℕ → Bool
unclosed [] = true
unclosed (b ∷ bs) = not (b == 42 && begins 47 bs) && unclosed bs

-- the parts may stand between these quotes
unfoldable pub are_inside : ℕ → List Part → Bool
are_inside q [] = true
are_inside q (plain b ∷ ps) = (not (b == q) && not (is_line_end b) && not (b == 92)) && are_inside q ps
are_inside q (escaped e ∷ ps) = is_escape e && are_inside q ps

-- the piece is by the rules
abbrev pub IsPiece : Piece → Type 0
IsPiece (blank b) = is_blank b ≡ true
IsPiece (line cs) = all not_line_feed cs ≡ true
IsPiece (block cs) = unclosed cs ≡ true
IsPiece (word b cs) = (is_name_start b ≡ true) × (all is_name_byte cs ≡ true)
IsPiece nought = Unit {0}
IsPiece (digits b ds) = (is_digit b ≡ true) × ((b == 48) ≡ false) × (all is_digit ds ≡ true)
    × (value (b - 48) ds ≤ LARGEST_NUMBER)
IsPiece (quoted q ps) = (is_quote q ≡ true) × (are_inside q ps ≡ true)
IsPiece (mark b p) = single b ≡ Some p
IsPiece (pair b c p) = double b c ≡ Some p

-- nothing of what follows, which is k, would have made it longer
abbrev pub IsLongest : Piece → List ℕ → Type 0
IsLongest (blank b) k = Unit {0}
IsLongest (line cs) k = opens not_line_feed k ≡ false
IsLongest (block cs) k = Unit {0}
IsLongest (word b cs) k = opens is_name_byte k ≡ false
IsLongest nought k = Unit {0}
IsLongest (digits b ds) k = opens is_digit k ≡ false
IsLongest (quoted q ps) k = Unit {0}
IsLongest (mark b p) k = (c : ℕ) (cs : List ℕ) → k ≡ c ∷ cs → double b c ≡ None
IsLongest (pair b c p) k = Unit {0}

-- pieces, before k
abbrev pub spelled_all : List Piece → List ℕ → List ℕ
spelled_all [] k = k
spelled_all (p ∷ ps) k = spelled p (spelled_all ps k)

-- each piece by the rules, longest, and not barred by the token directly before it
abbrev pub Fit : After → List Piece → List ℕ → Type 0
Fit last [] k = Unit {0}
Fit last (p ∷ ps) k = IsPiece p × IsLongest p (spelled_all ps k) × (barred last (first p) ≡ false)
    × Fit (after_token (token_of p)) ps k

-- what the last of the pieces is to the byte after it
abbrev pub last_of : After → List Piece → After
last_of last [] = last
last_of last (p ∷ ps) = last_of (after_token (token_of p)) ps

-- how many bytes the pieces have
abbrev pub size_all : List Piece → ℕ
size_all [] = 0
size_all (p ∷ ps) = size p + size_all ps

-- these tokens after the one of a piece
abbrev pub with_token : ℕ → Option Token → ℕ → List Lexeme → List Lexeme
with_token at None n ts = ts
with_token at (Some t) n ts = record { token = t; at = at; len = n } ∷ ts

-- the tokens of pieces that begin at a place
abbrev pub tokens_from : ℕ → List Piece → List Lexeme
tokens_from at [] = []
tokens_from at (p ∷ ps) = with_token at (token_of p) (size p) (tokens_from (at + size p) ps)

-- the text is pieces by the rules, each as long as it can be, and these are their tokens
pub record IsLexing (bytes : List ℕ) (ts : List Lexeme) : Type 0 where
  pub pieces : List Piece
  pub whole : bytes ≡ spelled_all pieces []
  pub fit : Fit after.Other pieces []
  pub tokens : ts ≡ tokens_from 0 pieces
  pub few : length ts ≤ TOKENS

-- it has no number with further digits
abbrev pub no_number : Piece → Bool
no_number (blank b) = true
no_number (line cs) = true
no_number (block cs) = true
no_number (word b cs) = true
no_number nought = true
no_number (digits b ds) = false
no_number (quoted q ps) = true
no_number (mark b p) = true
no_number (pair b c p) = true
