-- Tokens stand in order and within their text.
use Rattle.std.proofs.Common.{◌≡◌, ℕ, ◌+◌, ◌≤◌, List, [], ◌∷◌, length, Option, Some, None, Ok, refl, sym, ap, arith, length-append, subst}
use Rattle.module_semantics.specs.Token.{Token, Lexeme}
use Rattle.module_semantics.specs.Lexing.{lexing}
use Rattle.module_semantics.specs.Pieces.{Part, plain, escaped, Piece, blank, line, block, word, nought, digits, quoted, mark, pair, spelled_parts, parts_size, spelled, size, token_of, spelled_all, size_all, with_token, tokens_from}
use Rattle.module_semantics.proofs.PiecesLex.{size_pos}
use Rattle.module_semantics.proofs.LexedPieces.{was_lexed}
use Rattle.hot_lexer.specs.Order.{AreBetween}

parts_length : (ps : List Part) (k : List ℕ) → length (spelled_parts ps k) ≡ parts_size ps + length k
parts_length [] k = omega arith
parts_length (plain b ∷ ps) k = omega (arith, parts_length ps k)
parts_length (escaped e ∷ ps) k = omega (arith, parts_length ps k)

piece_length : (p : Piece) (k : List ℕ) → length (spelled p k) ≡ size p + length k
piece_length (blank b) k = omega arith
piece_length (line cs) k = omega (arith, length-append cs k)
piece_length (block cs) k = omega (arith, length-append cs (42 ∷ 47 ∷ k))
piece_length (word b cs) k = omega (arith, length-append cs k)
piece_length nought k = omega arith
piece_length (digits b ds) k = omega (arith, length-append ds k)
piece_length (quoted q ps) k = omega (arith, parts_length ps (q ∷ k))
piece_length (mark b p) k = omega arith
piece_length (pair b c p) k = omega arith

whole_length : (ps : List Piece) → length (spelled_all ps []) ≡ size_all ps
whole_length [] = refl
whole_length (p ∷ ps) = omega (arith, piece_length p (spelled_all ps []), whole_length ps)

earlier : (start before end : ℕ) (ts : List Lexeme) → before ≤ start → AreBetween start end ts → AreBetween before end ts
earlier start before end [] le h = omega (arith, le, h)
earlier start before end (t ∷ ts) le h = (omega (arith, le, h.0), h.1, h.2)

one_between : (at end : ℕ) (t : Option Token) (n : ℕ) (ts : List Lexeme) → 1 ≤ n → AreBetween (at + n) end ts → AreBetween at end (with_token at t n ts)
one_between at end None n ts pos h = earlier (at + n) at end ts (omega arith) h
one_between at end (Some t) n ts pos h = (omega arith, pos, h)

all_between : (at : ℕ) (ps : List Piece) → AreBetween at (at + size_all ps) (tokens_from at ps)
all_between at [] = omega arith
all_between at (p ∷ ps) =
    let place : at + size p + size_all ps ≡ at + (size p + size_all ps) = omega arith in
    let rest = subst (λ end. AreBetween (at + size p) end (tokens_from (at + size p) ps)) place (all_between (at + size p) ps) in
    one_between at (at + (size p + size_all ps)) (token_of p) (size p) (tokens_from (at + size p) ps) (size_pos p) rest

pub in_order : (text : List ℕ) (ts : List Lexeme) → lexing text ≡ Ok ts → AreBetween 0 (length text) ts
in_order text ts h =
    let l = was_lexed text ts h in
    let end : 0 + size_all l.pieces ≡ length text = omega (arith, whole_length l.pieces, ap length l.whole) in
    subst (AreBetween 0 (length text)) (sym l.tokens) (subst (λ end. AreBetween 0 end (tokens_from 0 l.pieces)) end (all_between 0 l.pieces))
