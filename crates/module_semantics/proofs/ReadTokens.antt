-- The tokens of a text can be written again: names look like names, numbers are in range, and texts are UTF-8.
use Rattle.std.proofs.Common.{◌≡◌, ℕ, ◌+◌, ◌-◌, ◌<◌, ◌≤◌, List, [], ◌∷◌, ◌++◌, map, inl, inr, length, get_or, Bool, true, false, not, ◌&&◌, ◌==◌, nat_le, Option, Some, None, refl, sym, ap, subst, arith, append_assoc, length-append}
use Rattle.std.specs.List.{list_all}
use Rattle.std.specs.Str.{IsUtf8}
use Rattle.std.proofs.Math.Seq.{take-append_seam, get_or-append_seam, drop-append-add}
use Rattle.std.proofs.lemmas.Bool.{eqb-true}
use Rattle.std.proofs.lemmas.Bool.Decides.{nat_tests}
use Rattle.std.proofs.lemmas.Str.{IsUtf8-take, IsUtf8-drop, IsUtf8-append, IsUtf8-nil, IsCharBoundary-before_ascii, IsCharBoundary-after_ascii, is_utf8-from_IsUtf8}
use Rattle.hmr_types.specs.declared.limits.TheConstants.{LARGEST_NUMBER}
use Rattle.module_semantics.specs.Token.{Token}
use Rattle.module_semantics.specs.Bytes.{is_blank, is_digit, is_name_start, is_name_byte, is_quote, is_escape, unescape, not_line_feed}
use Rattle.module_semantics.specs.Lexing.{after_token, single, double, marked, marks}
use Rattle.module_semantics.specs.Pieces.{Part, plain, escaped, Piece, blank, line, block, word, nought, digits, quoted, mark, pair, spelled_parts, parts_text, spelled, spelled_all, value, token_of, all, opens, are_inside, IsPiece, IsLongest, Fit}
use Rattle.module_semantics.specs.Fitting.{writable}
use Rattle.module_semantics.specs.declared.tokens.After.{After}
use Rattle.module_semantics.proofs.PiecesLex.{both, went_some}
use Rattle.module_semantics.proofs.LexedPieces.{and_yes}
use Rattle.module_semantics.proofs.EscapedTexts.{ascii_test, ascii_small, byte_utf8, name_start_small, name_byte_small}
use Rattle.module_semantics.proofs.Layouts.{and_token, tokens_of}

-- a text may be cut around a byte of ASCII
split_ascii : (xs : List ℕ) (b : ℕ) (ys : List ℕ) → b < 128 → IsUtf8 (xs ++ (b ∷ ys)) → IsUtf8 xs × IsUtf8 ys
split_ascii xs b ys h u =
    let bs = xs ++ (b ∷ ys) in
    let i = length xs in
    let inside : i < length bs = omega (arith, length-append xs (b ∷ ys)) in
    let small : get_or bs i 0 < 128 = rw (get_or-append_seam xs b ys 0) h in (
      subst IsUtf8 (take-append_seam xs (b ∷ ys)) (IsUtf8-take bs i u (IsCharBoundary-before_ascii bs i inside small)),
      subst IsUtf8 (drop-append-add xs (b ∷ ys) 1) (IsUtf8-drop bs (i + 1) u (IsCharBoundary-after_ascii bs i u inside small)),
    )

past_ascii : (b : ℕ) (ys : List ℕ) → b < 128 → IsUtf8 (b ∷ ys) → IsUtf8 ys
past_ascii b ys h u = (split_ascii [] b ys h u).1

pub not_false : (b : Bool) → not b ≡ false → b ≡ true
not_false true h = refl
not_false false h = absurd cc

in_range : (n : ℕ) → n ≤ LARGEST_NUMBER → nat_le n LARGEST_NUMBER ≡ true
in_range n h = search (arith, h)

-- a run of a class of ASCII
past_run : (p : ℕ → Bool) → ((b : ℕ) → p b ≡ true → b < 128) → (cs k : List ℕ) → all p cs ≡ true → IsUtf8 (cs ++ k) → IsUtf8 k
unfolding all
past_run p small [] k h u = u
past_run p small (c ∷ cs) k h u = let t = both (p c) (all p cs) h in past_run p small cs k t.1 (past_ascii c (cs ++ k) (small c t.0) u)

digit_small : (b : ℕ) → is_digit b ≡ true → b < 128
unfolding is_digit
digit_small b h = grind (arith, nat_tests)

blank_small : (b : ℕ) → is_blank b ≡ true → b < 128
unfolding is_blank
blank_small b h = grind (arith, nat_tests)

quote_small : (b : ℕ) → is_quote b ≡ true → b < 128
unfolding is_quote
quote_small b h = grind (arith, nat_tests)

escape_small : (b : ℕ) → is_escape b ≡ true → (b < 128) × (unescape b < 128)
unfolding is_escape unescape
escape_small b h = (grind (arith, nat_tests), grind (arith, nat_tests))

marked_small : (b : ℕ) (ms : List (ℕ × ℕ)) (p : ℕ) → all ascii_test (map (λ m. m.0) ms) ≡ true → marked b ms ≡ Some p → ascii_test b ≡ true
unfolding marked all
marked_small b [] p h e = absurd cc
marked_small b (m ∷ ms) p h e =
    let t = both (ascii_test m.0) (all ascii_test (map (λ m. m.0) ms)) h in
    elim (went_some (b == m.0) m.1 (marked b ms) p e) [
      | inl w ↦ rw (eqb-true b m.0 w) t.0
      | inr w ↦ marked_small b ms p t.1 w
    ]

marks_small : all ascii_test (map (λ m. m.0) marks) ≡ true
unfolding all ascii_test
marks_small = refl

mark_small : (b p : ℕ) → single b ≡ Some p → b < 128
unfolding single
mark_small b p h = ascii_small b (marked_small b marks p marks_small h)

both_small : (b c x y : ℕ) → (b == x && c == y) ≡ true → x < 128 → y < 128 → (b < 128) × (c < 128)
both_small b c x y h k l = let t = both (b == x) (c == y) h in (subst (λ v. v < 128) (sym (eqb-true b x t.0)) k, subst (λ v. v < 128) (sym (eqb-true c y t.1)) l)

pair_small : (b c p : ℕ) → double b c ≡ Some p → (b < 128) × (c < 128)
unfolding double
pair_small b c p h = elim (went_some (b == 61 && c == 62) 15 _ p h) [
  | inl w ↦ both_small b c 61 62 w (omega arith) (omega arith)
  | inr w ↦ elim (went_some (b == 63 && c == 46) 16 _ p w) [
    | inl v ↦ both_small b c 63 46 v (omega arith) (omega arith)
    | inr v ↦ elim (went_some (b == 63 && c == 63) 17 None p v) [ inl u ↦ both_small b c 63 63 u (omega arith) (omega arith) | inr u ↦ absurd cc ]
  ]
]

-- the bytes that the parts of a text stand for, after others
parts_utf8 : (q : ℕ) (out : List ℕ) (ps : List Part) → are_inside q ps ≡ true → IsUtf8 (out ++ spelled_parts ps []) → IsUtf8 (out ++ parts_text ps)
unfolding are_inside
parts_utf8 q out [] h u = u
parts_utf8 q out (plain b ∷ ps) h u =
    let t = both _ (are_inside q ps) h in
    rw (← append_assoc out (b ∷ []) (parts_text ps)) (parts_utf8 q (out ++ (b ∷ [])) ps t.1 (rw (append_assoc out (b ∷ []) (spelled_parts ps [])) u))
parts_utf8 q out (escaped e ∷ ps) h u =
    let t = both (is_escape e) (are_inside q ps) h in
    let s = split_ascii out 92 (e ∷ spelled_parts ps []) (omega arith) u in
    let small = escape_small e t.0 in
    IsUtf8-append out (unescape e ∷ parts_text ps) s.0 (IsUtf8-append (unescape e ∷ []) (parts_text ps) (byte_utf8 (unescape e) small.1) (parts_utf8 q [] ps t.1 (past_ascii e (spelled_parts ps []) small.0 s.1)))

parts_end : (ps : List Part) (k : List ℕ) → spelled_parts ps k ≡ spelled_parts ps [] ++ k
parts_end [] k = refl
parts_end (plain b ∷ ps) k = ap (λ v. b ∷ v) (parts_end ps k)
parts_end (escaped e ∷ ps) k = ap (λ v. 92 ∷ (e ∷ v)) (parts_end ps k)

-- the token of a piece can be written, and what follows the piece is UTF-8
abbrev Written : Option Token → List ℕ → Type 0
Written None k = IsUtf8 k
Written (Some t) k = (writable t ≡ true) × IsUtf8 k

line_past : (cs k : List ℕ) → opens not_line_feed k ≡ false → IsUtf8 (cs ++ k) → IsUtf8 k
unfolding opens not_line_feed
line_past cs [] h u = IsUtf8-nil
line_past cs (b ∷ k) h u = let feed : b ≡ 10 = eqb-true b 10 (not_false (b == 10) h) in IsUtf8-append (b ∷ []) k (byte_utf8 b (omega (arith, feed))) (split_ascii cs b k (omega (arith, feed)) u).1

piece_sound : (p : Piece) (k : List ℕ) → IsPiece p → IsLongest p k → IsUtf8 (spelled p k) → Written (token_of p) k
piece_sound (blank b) k is longest u = past_ascii b k (blank_small b is) u
piece_sound (line cs) k is longest u = line_past cs k longest (past_ascii 47 (cs ++ k) (omega arith) (past_ascii 47 (47 ∷ (cs ++ k)) (omega arith) u))
piece_sound (block cs) k is longest u = past_ascii 47 k (omega arith) (split_ascii cs 42 (47 ∷ k) (omega arith) (past_ascii 42 (cs ++ (42 ∷ (47 ∷ k))) (omega arith) (past_ascii 47 (42 ∷ (cs ++ (42 ∷ (47 ∷ k)))) (omega arith) u))).1
piece_sound (word b cs) k is longest u = (and_yes (is_name_start b) (all is_name_byte cs) is.0 is.1, past_run is_name_byte name_byte_small cs k is.1 (past_ascii b (cs ++ k) (name_start_small b is.0) u))
piece_sound nought k is longest u = (refl, past_ascii 48 k (omega arith) u)
piece_sound (digits b ds) k is longest u = (in_range (value (b - 48) ds) is.3, past_run is_digit digit_small ds k is.2 (past_ascii b (ds ++ k) (digit_small b is.0) u))
piece_sound (quoted q ps) k is longest u =
    let inner : IsUtf8 (spelled_parts ps [] ++ (q ∷ k)) = subst IsUtf8 (parts_end ps (q ∷ k)) (past_ascii q (spelled_parts ps (q ∷ k)) (quote_small q is.0) u) in
    let s = split_ascii (spelled_parts ps []) q k (quote_small q is.0) inner in
    (is_utf8-from_IsUtf8 (parts_text ps) (parts_utf8 q [] ps is.1 s.0), s.1)
piece_sound (mark b p) k is longest u = (refl, past_ascii b k (mark_small b p is) u)
piece_sound (pair b c p) k is longest u = let small = pair_small b c p is in (refl, past_ascii c k small.1 (past_ascii b (c ∷ k) small.0 u))

with_sound : (t : Option Token) (k : List ℕ) (ts : List Token) → Written t k → (IsUtf8 k → list_all writable ts ≡ true) → list_all writable (and_token t ts) ≡ true
with_sound None k ts s rest = rest s
with_sound (Some t) k ts s rest = rw s.0 (rest s.1)

pub pieces_writable : (last : After) (ps : List Piece) → Fit last ps [] → IsUtf8 (spelled_all ps []) → list_all writable (tokens_of ps) ≡ true
pieces_writable last [] fit u = refl
pieces_writable last (p ∷ ps) fit u = with_sound (token_of p) (spelled_all ps []) (tokens_of ps) (piece_sound p (spelled_all ps []) fit.0 fit.1 u) (pieces_writable (after_token (token_of p)) ps fit.3)
