-- What lexing gives: the tokens of a text, or its first fault. `Pieces` and `LexFaults` say the same by
-- rules on whole texts.
use Rattle.std.specs.Prelude.{◌≡◌, ◌+◌, ◌*◌, ◌-◌, [], ◌∷◌, ◌++◌}
use Rattle.std.specs.Prelude.{ℕ, zero, suc, List, length, take, drop, Bool}
use Rattle.std.specs.Prelude.{true, false, ◌&&◌, ◌==◌, nat_lt, if◌then◌else◌, Option, Some, None, Result, Ok}
use Rattle.std.specs.Prelude.{Err}
use Rattle.hmr_types.specs.declared.limits.TheConstants.{TOKENS, LARGEST_NUMBER}
use Rattle.module_semantics.specs.Steps.{◌>>=◌}
use Rattle.module_semantics.specs.Token.{Token, name, number, text, punct, Lexeme}
use Rattle.module_semantics.specs.Bytes.{is_blank, is_digit, is_name_start, is_name_byte, is_quote}
use Rattle.module_semantics.specs.Bytes.{is_line_end, is_escape, unescape, not_line_feed, span}
use Rattle.module_semantics.specs.declared.tokens.After.{After}
use Rattle.module_semantics.specs.declared.tokens.After.TheVariants as after
use Rattle.module_semantics.specs.declared.tokens.LexKind.{LexKind}
use Rattle.module_semantics.specs.declared.tokens.LexKind.TheVariants.{BadByte, OpenString, OpenComment}
use Rattle.module_semantics.specs.declared.tokens.LexKind.TheVariants.{BadEscape, NumberTooLarge}
use Rattle.module_semantics.specs.declared.tokens.LexKind.TheVariants.{TooManyTokens, NoMemory}
use Rattle.module_semantics.specs.declared.tokens.LexFault.{LexFault}

-- a fault by its kind and its place
abbrev pub lex_fault : LexKind → ℕ → LexFault
lex_fault kind at = record { at = at; kind = kind }

-- the number's value and length, where v and n are those of the digits before
unfoldable pub number_from : ℕ → ℕ → ℕ → List ℕ → Result (ℕ × ℕ) LexFault
number_from at v n [] = Ok (v, n)
number_from at v n (b ∷ bs) =
    if is_digit b
    then (if nat_lt LARGEST_NUMBER (10 * v + (b - 48)) then Err (lex_fault NumberTooLarge at)
    else number_from at (10 * v + (b - 48)) (suc n) bs)
    else Ok (v, n)

-- the text and its length, after n bytes behind its quote that stand for out, the last of them a backslash
-- of its own where `pending`
unfoldable pub text_from : ℕ → ℕ → List ℕ → ℕ → Bool → List ℕ → Result (List ℕ × ℕ) LexFault
text_from at q out n true [] = Err (lex_fault BadEscape (at + n))
text_from at q out n false [] = Err (lex_fault OpenString at)
text_from at q out n true (b ∷ bs) =
    if is_escape b then text_from at q (out ++ (unescape b ∷ [])) (suc n) false bs
    else Err (lex_fault BadEscape (at + n))
text_from at q out n false (b ∷ bs) =
    if b == q then Ok (out, suc (suc n))
    else if is_line_end b then Err (lex_fault OpenString at)
    else if b == 92 then text_from at q out (suc n) true bs
    else text_from at q (out ++ (b ∷ [])) (suc n) false bs

-- the list has this byte first
unfoldable pub begins : ℕ → List ℕ → Bool
begins c [] = false
begins c (b ∷ bs) = b == c

-- the length of a comment, after n bytes of it
unfoldable pub comment_from : ℕ → ℕ → List ℕ → Result ℕ LexFault
comment_from at n [] = Err (lex_fault OpenComment at)
comment_from at n (b ∷ bs) = if b == 42 && begins 47 bs then Ok (suc (suc n)) else comment_from at (suc n) bs

-- of a piece of the text: its token, where it is one, and how many bytes it has
abbrev pub Front : Type 0
Front = Result (Option Token × ℕ) LexFault

-- a comment, after its first slash
unfoldable pub comment_at : ℕ → List ℕ → Front
comment_at at [] = Err (lex_fault BadByte at)
comment_at at (c ∷ bs) = if c == 47 then Ok (None, suc (suc (span not_line_feed bs)))
    else if c == 42 then (do
      n ← comment_from at 2 bs
      Ok (None, n)) else Err (lex_fault BadByte at)

-- a number, by its first digit and what follows
unfoldable pub number_at : ℕ → ℕ → List ℕ → Front
number_at at b bs = if b == 48 then Ok (Some (number 0), 1) else (do
  x ← number_from at (b - 48) 1 bs
  Ok (Some (number x.0), x.1))

-- a text, by its quote and what follows
unfoldable pub text_at : ℕ → ℕ → List ℕ → Front
text_at at b bs = do
  x ← text_from at b [] 0 false bs
  Ok (Some (text x.0), x.1)

-- what a table has beside this byte
unfoldable pub marked : ℕ → List (ℕ × ℕ) → Option ℕ
marked b [] = None
marked b (m ∷ ms) = if b == m.0 then Some m.1 else marked b ms

-- `{ } ( ) [ ] , ; . = + - * ? :`, each with its number
abbrev pub marks : List (ℕ × ℕ)
marks =
    (123, 0) ∷ (125, 1) ∷ (40, 2) ∷ (41, 3) ∷ (91, 4) ∷ (93, 5) ∷ (44, 6) ∷ (59, 7) ∷ (46, 8) ∷ (61, 9)
    ∷ (43, 10) ∷ (45, 11) ∷ (42, 12) ∷ (63, 13) ∷ (58, 14) ∷ []

-- the number of a punctuation of one byte
unfoldable pub single : ℕ → Option ℕ
single b = marked b marks

-- of two bytes: `=>`, `?.` and `??`
unfoldable pub double : ℕ → ℕ → Option ℕ
double b c =
    if b == 61 && c == 62 then Some 15
    else if b == 63 && c == 46 then Some 16
    else if b == 63 && c == 63 then Some 17
    else None

-- a punctuation of one byte, or none
abbrev pub single_at : ℕ → Option ℕ → Front
single_at at (Some p) = Ok (Some (punct p), 1)
single_at at None = Err (lex_fault BadByte at)

-- a punctuation of two bytes, or another
abbrev pub double_at : Option ℕ → Front → Front
double_at (Some p) other = Ok (Some (punct p), 2)
double_at None other = other

-- the longest punctuation
unfoldable pub punct_at : ℕ → ℕ → List ℕ → Front
punct_at at b [] = single_at at (single b)
punct_at at b (c ∷ bs) = double_at (double b c) (single_at at (single b))

-- the piece that begins with b at a place
unfoldable pub front : ℕ → ℕ → List ℕ → Front
front at b bs =
    if is_blank b then Ok (None, 1)
    else if is_name_start b
    then Ok (Some (name (b ∷ take (span is_name_byte bs) bs)), suc (span is_name_byte bs))
    else if is_digit b then number_at at b bs
    else if is_quote b then text_at at b bs
    else if b == 47 then comment_at at bs
    else punct_at at b bs

-- what a piece is to the byte directly after it
unfoldable pub after_token : Option Token → After
after_token None = after.Other
after_token (Some (name n)) = after.Other
after_token (Some (number n)) = after.Number
after_token (Some (text t)) = after.Other
after_token (Some (punct p)) = if p == 10 then after.Plus else if p == 11 then after.Minus else after.Other

-- the byte may not stand there: a name's or a digit after a number, a second `+` or a second `-`
unfoldable pub barred : After → ℕ → Bool
barred after.Other b = false
barred after.Number b = is_name_byte b
barred after.Plus b = b == 43
barred after.Minus b = b == 45

-- the tokens so far, with the one of the next piece
unfoldable pub added : ℕ → List Lexeme → Option Token × ℕ → Result (List Lexeme) LexFault
added at done (None, n) = Ok done
added at done (Some t, n) =
    if nat_lt (length done) TOKENS then Ok (done ++ (record { token = t; at = at; len = n } ∷ []))
    else Err (lex_fault TooManyTokens at)

-- one piece, that begins with b: its length, what it is to the byte after it, and the tokens up to its end
unfoldable pub step : ℕ → After → List Lexeme → ℕ → List ℕ → Result (ℕ × (After × List Lexeme)) LexFault
step at last done b bs = if barred last b then Err (lex_fault BadByte at) else (do
  piece ← front at b bs
  next ← added at done piece
  Ok (piece.1, (after_token piece.0, next)))

-- at most this many pieces, the first of them at a place, after the tokens so far
unfoldable pub lex_from : ℕ → ℕ → After → List Lexeme → List ℕ → Result (List Lexeme) LexFault
lex_from zero at last done bs = Ok done
lex_from (suc turns) at last done [] = Ok done
lex_from (suc turns) at last done (b ∷ bs) = do
  s ← step at last done b bs
  lex_from turns (at + s.0) s.1.0 s.1.1 (drop s.0 (b ∷ bs))

-- the tokens of a text, or its first fault
unfoldable pub lexing : List ℕ → Result (List Lexeme) LexFault
lexing bs = lex_from (length bs) 0 after.Other [] bs

-- a fault of code, beside what lexing gives: out of memory says nothing of the text
abbrev pub FaultIs : {Y : Type 0} → LexKind → LexFault → Result Y LexFault → Type 0
FaultIs NoMemory f read = Unit {0}
FaultIs BadByte f read = read ≡ Err f
FaultIs OpenString f read = read ≡ Err f
FaultIs OpenComment f read = read ≡ Err f
FaultIs BadEscape f read = read ≡ Err f
FaultIs NumberTooLarge f read = read ≡ Err f
FaultIs TooManyTokens f read = read ≡ Err f

-- what code returned, seen by view, is what lexing gives, unless memory ran out
abbrev pub Gives : {X Y : Type 0} → (X → Y) → Result X LexFault → Result Y LexFault → Type 0
Gives view (Ok x) read = read ≡ Ok (view x)
Gives view (Err f) read = FaultIs f.kind f read
