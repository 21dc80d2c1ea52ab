-- Fixed words and marks of canonical texts are laid out: they are cut into pieces, and a test says that these fit whatever
-- follows.
use Rattle.std.proofs.Common.{◌≡◌, ℕ, List, [], ◌∷◌, ◌++◌, Bool, true, false, not, ◌&&◌, ◌==◌, if◌then◌else◌, Option, Some, None, refl, sym, ap, ◌∙◌, codes}
use Rattle.std.proofs.lemmas.List.{append_assoc}
use Rattle.std.specs.List.{list_all}
use Rattle.std.specs.Str.{bytes_eq}
use Rattle.std.proofs.lemmas.Bool.{eqb-true}
use Rattle.module_semantics.specs.Token as token
use Rattle.module_semantics.specs.Token.{Token}
use Rattle.module_semantics.specs.Bytes.{is_blank, is_name_start, is_name_byte, is_digit}
use Rattle.module_semantics.specs.Lexing.{after_token, barred, single, double, marked}
use Rattle.module_semantics.specs.Pieces.{Piece, blank, line, block, word, nought, digits, quoted, mark, pair, first, spelled, spelled_all, token_of, all, opens, IsPiece, IsLongest, Fit, last_of}
use Rattle.module_semantics.specs.declared.tokens.After.{After}
use Rattle.module_semantics.specs.declared.tokens.After.TheVariants as after
use Rattle.module_semantics.proofs.PiecesLex.{both, nots}
use Rattle.module_semantics.proofs.LexedPieces.{none_pair}
use Rattle.module_semantics.proofs.Marks.{same_bytes}
use Rattle.module_semantics.proofs.EscapedTexts.{ascii_test, ascii_utf8}
use Rattle.module_semantics.proofs.Layouts.{Laid, tokens_of}

-- a letter before pieces: it makes the word longer that stands there
abbrev with_letter : ℕ → List Piece → List Piece
with_letter b (word c cs ∷ ps) = word b (c ∷ cs) ∷ ps
with_letter b ps = word b [] ∷ ps

-- the number of a mark; no mark has the number 99
abbrev mark_number : Option ℕ → ℕ
mark_number None = 99
mark_number (Some p) = p

abbrev with_pair : ℕ → ℕ → Option ℕ → List Piece → List Piece → List Piece
with_pair b c (Some p) ps qs = pair b c p ∷ ps
with_pair b c None ps qs = mark b (mark_number (single b)) ∷ qs

-- a mark before pieces: perhaps it makes a pair with the one that stands there
abbrev with_mark : ℕ → List Piece → List Piece
with_mark b (mark c p ∷ ps) = with_pair b c (double b c) ps (mark c p ∷ ps)
with_mark b ps = mark b (mark_number (single b)) ∷ ps

abbrev with_byte : ℕ → List Piece → List Piece
with_byte b ps = if is_name_start b then with_letter b ps else if is_blank b then blank b ∷ ps else with_mark b ps

-- fixed bytes in pieces
abbrev pub cut : List ℕ → List Piece
cut [] = []
cut (b ∷ bs) = with_byte b (cut bs)

-- the number is there
abbrev is_of : Option ℕ → ℕ → Bool
is_of None p = false
is_of (Some q) p = q == p

abbrev is_nothing : Option ℕ → Bool
is_nothing None = true
is_nothing (Some q) = false

-- a blank, a word or a mark by the rules
abbrev is_fixed : Piece → Bool
is_fixed (blank b) = is_blank b
is_fixed (line cs) = false
is_fixed (block cs) = false
is_fixed (word b cs) = is_name_start b && all is_name_byte cs
is_fixed nought = false
is_fixed (digits b ds) = false
is_fixed (quoted q ps) = false
is_fixed (mark b p) = is_of (single b) p
is_fixed (pair b c p) = is_of (double b c) p

-- what follows makes it no longer
abbrev is_apart : Piece → List Piece → Bool
is_apart (blank b) qs = true
is_apart (line cs) qs = false
is_apart (block cs) qs = false
is_apart (word b cs) [] = false
is_apart (word b cs) (q ∷ qs) = not (is_name_byte (first q))
is_apart nought qs = false
is_apart (digits b ds) qs = false
is_apart (quoted q ps) qs = false
is_apart (mark b p) [] = not (b == 61) && not (b == 63)
is_apart (mark b p) (q ∷ qs) = is_nothing (double b (first q))
is_apart (pair b c p) qs = true

abbrev is_other : After → Bool
is_other after.Other = true
is_other after.Number = false
is_other after.Plus = false
is_other after.Minus = false

-- pieces by the rules that fit whatever follows
abbrev are_fixed : After → List Piece → Bool
are_fixed last [] = is_other last
are_fixed last (p ∷ ps) = is_fixed p && is_apart p ps && not (barred last (first p)) && are_fixed (after_token (token_of p)) ps

of_is : (o : Option ℕ) (p : ℕ) → is_of o p ≡ true → o ≡ Some p
of_is None p h = absurd cc
of_is (Some q) p h = ap Some (eqb-true q p h)

nothing_is : (o : Option ℕ) → is_nothing o ≡ true → o ≡ None
nothing_is None h = refl
nothing_is (Some q) h = absurd cc

fixed_is : (p : Piece) → is_fixed p ≡ true → IsPiece p
fixed_is (blank b) h = h
fixed_is (line cs) h = absurd cc
fixed_is (block cs) h = absurd cc
fixed_is (word b cs) h = both (is_name_start b) (all is_name_byte cs) h
fixed_is nought h = tt
fixed_is (digits b ds) h = absurd cc
fixed_is (quoted q ps) h = absurd cc
fixed_is (mark b p) h = of_is (single b) p h
fixed_is (pair b c p) h = of_is (double b c) p h

single_only : (b c : ℕ) → (b == 61) ≡ false → (b == 63) ≡ false → double b c ≡ None
unfolding double
single_only b c h k = rw (h, k) refl

apart_is : (p : Piece) (qs : List Piece) (k : List ℕ) → is_apart p qs ≡ true → IsLongest p (spelled_all qs k)
unfolding opens
apart_is (blank b) qs k h = tt
apart_is (line cs) qs k h = absurd cc
apart_is (block cs) qs k h = tt
apart_is (word b cs) [] k h = absurd cc
apart_is (word b cs) (q ∷ qs) k h = nots (is_name_byte (first q)) h
apart_is nought qs k h = tt
apart_is (digits b ds) qs k h = absurd cc
apart_is (quoted q ps) qs k h = tt
apart_is (mark b p) [] k h = let t = both (not (b == 61)) (not (b == 63)) h in λ c cs e. single_only b c (nots (b == 61) t.0) (nots (b == 63) t.1)
apart_is (mark b p) (q ∷ qs) k h = λ c cs e. none_pair b (first q) _ (nothing_is (double b (first q)) h) c cs e
apart_is (pair b c p) qs k h = tt

fixed_fit : (last : After) (ps : List Piece) (k : List ℕ) → are_fixed last ps ≡ true → Fit last ps k
fixed_fit last [] k h = tt
fixed_fit last (p ∷ ps) k h =
    let t = both (is_fixed p && is_apart p ps && not (barred last (first p))) (are_fixed (after_token (token_of p)) ps) h in
    let u = both (is_fixed p && is_apart p ps) (not (barred last (first p))) t.0 in
    let v = both (is_fixed p) (is_apart p ps) u.0 in
    (fixed_is p v.0, apart_is p ps k v.1, nots (barred last (first p)) u.1, fixed_fit (after_token (token_of p)) ps k t.1)

other_is : (last : After) → is_other last ≡ true → last ≡ after.Other
other_is after.Other h = refl
other_is after.Number h = absurd cc
other_is after.Plus h = absurd cc
other_is after.Minus h = absurd cc

fixed_last : (last : After) (ps : List Piece) → are_fixed last ps ≡ true → last_of last ps ≡ after.Other
fixed_last last [] h = other_is last h
fixed_last last (p ∷ ps) h = let t = both (is_fixed p && is_apart p ps && not (barred last (first p))) (are_fixed (after_token (token_of p)) ps) h in fixed_last (after_token (token_of p)) ps t.1

more_append : (p : Piece) (xs k : List ℕ) → is_fixed p ≡ true → spelled p (xs ++ k) ≡ spelled p xs ++ k
more_append (blank b) xs k h = refl
more_append (line cs) xs k h = absurd cc
more_append (block cs) xs k h = absurd cc
more_append (word b cs) xs k h = ap (λ v. b ∷ v) (sym (append_assoc cs xs k))
more_append nought xs k h = refl
more_append (digits b ds) xs k h = absurd cc
more_append (quoted q ps) xs k h = absurd cc
more_append (mark b p) xs k h = refl
more_append (pair b c p) xs k h = refl

fixed_append : (last : After) (ps : List Piece) (k : List ℕ) → are_fixed last ps ≡ true → spelled_all ps k ≡ spelled_all ps [] ++ k
fixed_append last [] k h = refl
fixed_append last (p ∷ ps) k h =
    let t = both (is_fixed p && is_apart p ps && not (barred last (first p))) (are_fixed (after_token (token_of p)) ps) h in
    let u = both (is_fixed p && is_apart p ps) (not (barred last (first p))) t.0 in
    let v = both (is_fixed p) (is_apart p ps) u.0 in
    ap (spelled p) (fixed_append (after_token (token_of p)) ps k t.1) ∙ more_append p (spelled_all ps []) k v.0

-- the bytes are fixed pieces
abbrev pub is_literal : List ℕ → Bool
is_literal bs = are_fixed after.Other (cut bs) && bytes_eq (spelled_all (cut bs) []) bs && list_all ascii_test bs

pub literal_laid : (bs : List ℕ) → is_literal bs ≡ true → Laid false bs (tokens_of (cut bs))
literal_laid bs h =
    let u = both (are_fixed after.Other (cut bs) && bytes_eq (spelled_all (cut bs) []) bs) (list_all ascii_test bs) h in
    let t = both (are_fixed after.Other (cut bs)) (bytes_eq (spelled_all (cut bs) []) bs) u.0 in
    record {
      pieces = cut bs;
      whole = λ k. fixed_append after.Other (cut bs) k t.0 ∙ ap (λ v. v ++ k) (same_bytes.is (spelled_all (cut bs) []) bs t.1);
      tokens = refl;
      fit = λ k e. fixed_fit after.Other (cut bs) k t.0;
      ends = λ h. fixed_last after.Other (cut bs) t.0;
      utf8 = ascii_utf8 bs u.1;
    }

-- fixed words and marks
pub laid_data : Laid false (codes "import.meta.hot.data.") (token.name (codes "import") ∷ token.punct 8 ∷ token.name (codes "meta") ∷ token.punct 8 ∷ token.name (codes "hot") ∷ token.punct 8 ∷ token.name (codes "data") ∷ token.punct 8 ∷ [])
unfolding is_blank is_name_start is_name_byte is_digit single double marked after_token barred all ascii_test
laid_data = literal_laid (codes "import.meta.hot.data.") refl

pub laid_dot : Laid false (codes ".") (token.punct 8 ∷ [])
unfolding is_blank is_name_start is_name_byte is_digit single double marked after_token barred all ascii_test
laid_dot = literal_laid (codes ".") refl

pub laid_safe_dot : Laid false (codes "?.") (token.punct 16 ∷ [])
unfolding is_blank is_name_start is_name_byte is_digit single double marked after_token barred all ascii_test
laid_safe_dot = literal_laid (codes "?.") refl

pub laid_null : Laid false (codes " ?? ") (token.punct 17 ∷ [])
unfolding is_blank is_name_start is_name_byte is_digit single double marked after_token barred all ascii_test
laid_null = literal_laid (codes " ?? ") refl

pub laid_plus : Laid false (codes " + ") (token.punct 10 ∷ [])
unfolding is_blank is_name_start is_name_byte is_digit single double marked after_token barred all ascii_test
laid_plus = literal_laid (codes " + ") refl

pub laid_minus : Laid false (codes " - ") (token.punct 11 ∷ [])
unfolding is_blank is_name_start is_name_byte is_digit single double marked after_token barred all ascii_test
laid_minus = literal_laid (codes " - ") refl

pub laid_times : Laid false (codes " * ") (token.punct 12 ∷ [])
unfolding is_blank is_name_start is_name_byte is_digit single double marked after_token barred all ascii_test
laid_times = literal_laid (codes " * ") refl

pub laid_question : Laid false (codes " ? ") (token.punct 13 ∷ [])
unfolding is_blank is_name_start is_name_byte is_digit single double marked after_token barred all ascii_test
laid_question = literal_laid (codes " ? ") refl

pub laid_colon : Laid false (codes " : ") (token.punct 14 ∷ [])
unfolding is_blank is_name_start is_name_byte is_digit single double marked after_token barred all ascii_test
laid_colon = literal_laid (codes " : ") refl

pub laid_open : Laid false (codes "(") (token.punct 2 ∷ [])
unfolding is_blank is_name_start is_name_byte is_digit single double marked after_token barred all ascii_test
laid_open = literal_laid (codes "(") refl

pub laid_close : Laid false (codes ")") (token.punct 3 ∷ [])
unfolding is_blank is_name_start is_name_byte is_digit single double marked after_token barred all ascii_test
laid_close = literal_laid (codes ")") refl

pub laid_comma : Laid false (codes ", ") (token.punct 6 ∷ [])
unfolding is_blank is_name_start is_name_byte is_digit single double marked after_token barred all ascii_test
laid_comma = literal_laid (codes ", ") refl

pub laid_spaces : Laid false (codes "  ") []
unfolding is_blank is_name_start is_name_byte is_digit single double marked after_token barred all ascii_test
laid_spaces = literal_laid (codes "  ") refl

pub laid_line : Laid false (codes "\n") []
unfolding is_blank is_name_start is_name_byte is_digit single double marked after_token barred all ascii_test
laid_line = literal_laid (codes "\n") refl

pub laid_console : Laid false (codes "console.log(") (token.name (codes "console") ∷ token.punct 8 ∷ token.name (codes "log") ∷ token.punct 2 ∷ [])
unfolding is_blank is_name_start is_name_byte is_digit single double marked after_token barred all ascii_test
laid_console = literal_laid (codes "console.log(") refl

pub laid_end_call : Laid false (codes ");\n") (token.punct 3 ∷ token.punct 7 ∷ [])
unfolding is_blank is_name_start is_name_byte is_digit single double marked after_token barred all ascii_test
laid_end_call = literal_laid (codes ");\n") refl

pub laid_equals : Laid false (codes " = ") (token.punct 9 ∷ [])
unfolding is_blank is_name_start is_name_byte is_digit single double marked after_token barred all ascii_test
laid_equals = literal_laid (codes " = ") refl

pub laid_end : Laid false (codes ";\n") (token.punct 7 ∷ [])
unfolding is_blank is_name_start is_name_byte is_digit single double marked after_token barred all ascii_test
laid_end = literal_laid (codes ";\n") refl

pub laid_throw : Laid false (codes "throw new Error(") (token.name (codes "throw") ∷ token.name (codes "new") ∷ token.name (codes "Error") ∷ token.punct 2 ∷ [])
unfolding is_blank is_name_start is_name_byte is_digit single double marked after_token barred all ascii_test
laid_throw = literal_laid (codes "throw new Error(") refl

pub laid_invalidate : Laid false (codes "import.meta.hot.invalidate(") (token.name (codes "import") ∷ token.punct 8 ∷ token.name (codes "meta") ∷ token.punct 8 ∷ token.name (codes "hot") ∷ token.punct 8 ∷ token.name (codes "invalidate") ∷ token.punct 2 ∷ [])
unfolding is_blank is_name_start is_name_byte is_digit single double marked after_token barred all ascii_test
laid_invalidate = literal_laid (codes "import.meta.hot.invalidate(") refl

pub laid_if : Laid false (codes "if (") (token.name (codes "if") ∷ token.punct 2 ∷ [])
unfolding is_blank is_name_start is_name_byte is_digit single double marked after_token barred all ascii_test
laid_if = literal_laid (codes "if (") refl

pub laid_then : Laid false (codes ") {\n") (token.punct 3 ∷ token.punct 0 ∷ [])
unfolding is_blank is_name_start is_name_byte is_digit single double marked after_token barred all ascii_test
laid_then = literal_laid (codes ") {\n") refl

pub laid_close_brace : Laid false (codes "}") (token.punct 1 ∷ [])
unfolding is_blank is_name_start is_name_byte is_digit single double marked after_token barred all ascii_test
laid_close_brace = literal_laid (codes "}") refl

pub laid_else : Laid false (codes " else {\n") (token.name (codes "else") ∷ token.punct 0 ∷ [])
unfolding is_blank is_name_start is_name_byte is_digit single double marked after_token barred all ascii_test
laid_else = literal_laid (codes " else {\n") refl

pub laid_end_else : Laid false (codes "}\n") (token.punct 1 ∷ [])
unfolding is_blank is_name_start is_name_byte is_digit single double marked after_token barred all ascii_test
laid_end_else = literal_laid (codes "}\n") refl

pub laid_arrow : Laid false (codes " => {\n") (token.punct 15 ∷ token.punct 0 ∷ [])
unfolding is_blank is_name_start is_name_byte is_digit single double marked after_token barred all ascii_test
laid_arrow = literal_laid (codes " => {\n") refl

pub laid_no_params : Laid false (codes "()") (token.punct 2 ∷ token.punct 3 ∷ [])
unfolding is_blank is_name_start is_name_byte is_digit single double marked after_token barred all ascii_test
laid_no_params = literal_laid (codes "()") refl

pub laid_open_list : Laid false (codes "([") (token.punct 2 ∷ token.punct 4 ∷ [])
unfolding is_blank is_name_start is_name_byte is_digit single double marked after_token barred all ascii_test
laid_open_list = literal_laid (codes "([") refl

pub laid_close_list : Laid false (codes "])") (token.punct 5 ∷ token.punct 3 ∷ [])
unfolding is_blank is_name_start is_name_byte is_digit single double marked after_token barred all ascii_test
laid_close_list = literal_laid (codes "])") refl

pub laid_host : Laid false (codes "host(") (token.name (codes "host") ∷ token.punct 2 ∷ [])
unfolding is_blank is_name_start is_name_byte is_digit single double marked after_token barred all ascii_test
laid_host = literal_laid (codes "host(") refl

pub laid_as : Laid false (codes " as ") (token.name (codes "as") ∷ [])
unfolding is_blank is_name_start is_name_byte is_digit single double marked after_token barred all ascii_test
laid_as = literal_laid (codes " as ") refl

pub laid_import : Laid false (codes "import ") (token.name (codes "import") ∷ [])
unfolding is_blank is_name_start is_name_byte is_digit single double marked after_token barred all ascii_test
laid_import = literal_laid (codes "import ") refl

pub laid_import_names : Laid false (codes "import { ") (token.name (codes "import") ∷ token.punct 0 ∷ [])
unfolding is_blank is_name_start is_name_byte is_digit single double marked after_token barred all ascii_test
laid_import_names = literal_laid (codes "import { ") refl

pub laid_from : Laid false (codes " } from ") (token.punct 1 ∷ token.name (codes "from") ∷ [])
unfolding is_blank is_name_start is_name_byte is_digit single double marked after_token barred all ascii_test
laid_from = literal_laid (codes " } from ") refl

pub laid_export : Laid false (codes "export ") (token.name (codes "export") ∷ [])
unfolding is_blank is_name_start is_name_byte is_digit single double marked after_token barred all ascii_test
laid_export = literal_laid (codes "export ") refl

pub laid_let : Laid false (codes "let ") (token.name (codes "let") ∷ [])
unfolding is_blank is_name_start is_name_byte is_digit single double marked after_token barred all ascii_test
laid_let = literal_laid (codes "let ") refl

pub laid_const : Laid false (codes "const ") (token.name (codes "const") ∷ [])
unfolding is_blank is_name_start is_name_byte is_digit single double marked after_token barred all ascii_test
laid_const = literal_laid (codes "const ") refl

pub laid_hot : Laid false (codes "import.meta.hot.") (token.name (codes "import") ∷ token.punct 8 ∷ token.name (codes "meta") ∷ token.punct 8 ∷ token.name (codes "hot") ∷ token.punct 8 ∷ [])
unfolding is_blank is_name_start is_name_byte is_digit single double marked after_token barred all ascii_test
laid_hot = literal_laid (codes "import.meta.hot.") refl

pub laid_open_bracket : Laid false (codes "[") (token.punct 4 ∷ [])
unfolding is_blank is_name_start is_name_byte is_digit single double marked after_token barred all ascii_test
laid_open_bracket = literal_laid (codes "[") refl

pub laid_close_bracket : Laid false (codes "]") (token.punct 5 ∷ [])
unfolding is_blank is_name_start is_name_byte is_digit single double marked after_token barred all ascii_test
laid_close_bracket = literal_laid (codes "]") refl
