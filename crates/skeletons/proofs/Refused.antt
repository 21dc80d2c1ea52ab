-- A text with a fault has that fault, at its line and column.
use Rattle.std.proofs.Common.{◌≡◌, ℕ, zero, suc, ◌+◌, ◌-◌, ◌^◌, ◌<◌, ◌≤◌, Bool, true, List, [], ◌∷◌, ◌++◌, length, take, Ok, Err, refl, sym, ap, ◌∙◌, arith, append_assoc}
use Rattle.std.specs.Prelude.{decimal, replicate}
use Rattle.std.specs.Str.{IsAscii}
use Rattle.std.proofs.lemmas.Fmt.{IsAscii-decimal}
use Rattle.std.proofs.lemmas.Str.{IsUtf8-from_ascii, is_utf8-from_IsUtf8}
use Rattle.std.proofs.lemmas.Str.Ascii.{IsAscii-cons}
use Rattle.hmr_types.specs.declared.analysis.FaultWord.{FaultWord}
use Rattle.hmr_types.specs.declared.analysis.FaultWord.TheVariants as words
use Rattle.hmr_types.specs.declared.analysis.TextFault.{TextFault}
use Rattle.module_semantics.specs.Token as token
use Rattle.module_semantics.specs.Token.{LineToken}
use Rattle.module_semantics.specs.Bytes.{is_blank}
use Rattle.module_semantics.specs.Kinds.{within}
use Rattle.module_semantics.specs.Lexing.{lex_fault, lexing}
use Rattle.module_semantics.specs.Lines.{line_feeds, line_tokens, line_tokens_from, since_line_feed}
use Rattle.module_semantics.specs.ModuleText.{lex_word, parsing}
use Rattle.module_semantics.specs.Pieces.{all}
use Rattle.module_semantics.specs.Readers.{many_from, next_in, unexpected}
use Rattle.module_semantics.specs.Reading.{finished, module_reader, reading}
use Rattle.module_semantics.specs.declared.tokens.LexKind.{LexKind}
use Rattle.module_semantics.specs.declared.tokens.LexKind.TheVariants as lexes
use Rattle.es_scan.specs.declared.fault.FaultKind.{FaultKind}
use Rattle.es_scan.specs.declared.fault.FaultKind.TheVariants as kinds
use Rattle.skeletons.specs.Refusing.{fault_word, text_with, wrong}
use Rattle.skeletons.proofs.WrongBytes.{bad_byte, closing_alone, digits, open_comment, open_string}

-- lines and spaces
abbrev front : ℕ → ℕ → List ℕ
front lines spaces = replicate lines 10 ++ replicate spaces 32

feeds_spaces : (n : ℕ) → line_feeds (replicate n 32) ≡ 0
unfolding line_feeds
feeds_spaces zero = refl
feeds_spaces (suc n) = feeds_spaces n

feeds_front : (m n : ℕ) → line_feeds (front m n) ≡ m
unfolding line_feeds
feeds_front zero n = feeds_spaces n
feeds_front (suc m) n = ap suc (feeds_front m n)

since_spaces : (k n : ℕ) → since_line_feed k (replicate n 32) ≡ k + n
unfolding since_line_feed
since_spaces k zero = omega arith
since_spaces k (suc n) = since_spaces (suc k) n ∙ more where
  more : suc k + n ≡ k + suc n
  more = omega arith

since_front : (m n : ℕ) → since_line_feed 0 (front m n) ≡ n
unfolding since_line_feed
since_front zero n = since_spaces 0 n ∙ more where
  more : 0 + n ≡ n
  more = omega arith
since_front (suc m) n = since_front m n

a_feed : is_blank 10 ≡ true
unfolding is_blank
a_feed = refl

a_space : is_blank 32 ≡ true
unfolding is_blank
a_space = refl

blank_spaces : (n : ℕ) → all is_blank (replicate n 32) ≡ true
unfolding all
blank_spaces zero = refl
blank_spaces (suc n) = rw a_space (blank_spaces n)

blank_front : (m n : ℕ) → all is_blank (front m n) ≡ true
unfolding all
blank_front zero n = blank_spaces n
blank_front (suc m) n = rw a_feed (blank_front m n)

ascii_spaces : (n : ℕ) (k : List ℕ) → IsAscii k → IsAscii (replicate n 32 ++ k)
ascii_spaces zero k h = h
ascii_spaces (suc n) k h = IsAscii-cons 32 (replicate n 32 ++ k) (omega arith) (ascii_spaces n k h)

ascii_front : (m n : ℕ) (k : List ℕ) → IsAscii k → IsAscii (front m n ++ k)
ascii_front zero n k h = ascii_spaces n k h
ascii_front (suc m) n k h = IsAscii-cons 10 (front m n ++ k) (omega arith) (ascii_front m n k h)

take_front : (ws k : List ℕ) → take (length ws) (ws ++ k) ≡ ws
take_front [] k = refl
take_front (w ∷ ws) k = ap (λ l. w ∷ l) (take_front ws k)

-- the fault of a word at a line and column
abbrev fault_there : ℕ → ℕ → FaultWord → TextFault
fault_there line col word = record { line = line; col = col; word = word }

line_there : (m n : ℕ) (k : List ℕ) → suc (line_feeds (take (length (front m n)) (front m n ++ k))) ≡ suc m
line_there m n k = ap (λ l. suc (line_feeds l)) (take_front (front m n) k) ∙ ap suc (feeds_front m n)

col_there : (m n : ℕ) (k : List ℕ) → suc (since_line_feed 0 (take (length (front m n)) (front m n ++ k))) ≡ suc n
col_there m n k = ap (λ l. suc (since_line_feed 0 l)) (take_front (front m n) k) ∙ ap suc (since_front m n)

place_there : (m n : ℕ) (k : List ℕ) (word : FaultWord)
    → fault_there (suc (line_feeds (take (length (front m n)) (front m n ++ k)))) (suc (since_line_feed 0 (take (length (front m n)) (front m n ++ k)))) word ≡ fault_there (suc m) (suc n) word
place_there m n k word = ap (λ l. fault_there l (suc (since_line_feed 0 (take (length (front m n)) (front m n ++ k)))) word) (line_there m n k) ∙ ap (λ c. fault_there (suc m) c word) (col_there m n k)

-- a fault of the tokens
lexed : (m n : ℕ) (k : List ℕ) (kind : LexKind) → IsAscii k → lexing (front m n ++ k) ≡ Err (lex_fault kind (length (front m n))) → parsing (front m n ++ k) ≡ Err (fault_there (suc m) (suc n) (lex_word kind))
unfolding parsing
lexed m n k kind ascii fault =
    let utf8 = is_utf8-from_IsUtf8 (front m n ++ k) (IsUtf8-from_ascii (front m n ++ k) (ascii_front m n k ascii)) in
    rw (utf8, fault) (ap Err (place_there m n k (lex_word kind)))

-- no item begins with a closing parenthesis
no_item : (at : ℕ) (later : Bool) → reading 64 (record { token = token.punct 3; at = at; later = later } ∷ []) ≡ Err (unexpected 1)
unfolding reading module_reader many_from next_in within finished
no_item at later = refl

alone : (m n : ℕ) (ds : List ℕ) → IsAscii (41 ∷ 47 ∷ 47 ∷ ds) → lexing (front m n ++ 41 ∷ 47 ∷ 47 ∷ ds) ≡ Ok (record { token = token.punct 3; at = length (front m n); len = 1 } ∷ [])
    → parsing (front m n ++ 41 ∷ 47 ∷ 47 ∷ ds) ≡ Err (fault_there (suc m) (suc n) words.Unexpected)
unfolding parsing line_tokens line_tokens_from
alone m n ds ascii tokens =
    let k = 41 ∷ 47 ∷ 47 ∷ ds in
    let utf8 = is_utf8-from_IsUtf8 (front m n ++ k) (IsUtf8-from_ascii (front m n ++ k) (ascii_front m n k ascii)) in
    rw (utf8, tokens, no_item) (ap Err (place_there m n k words.Unexpected))

string : (m n stamp : ℕ) → stamp < 2 ^ 64 → parsing (front m n ++ 34 ∷ decimal stamp) ≡ Err (fault_there (suc m) (suc n) words.OpenString)
string m n stamp small =
    let ds = decimal stamp in
    lexed m n (34 ∷ ds) lexes.OpenString (IsAscii-cons 34 ds (omega arith) (IsAscii-decimal stamp small)) (open_string (front m n) ds (blank_front m n) (digits stamp small))

bad : (m n stamp : ℕ) → stamp < 2 ^ 64 → parsing (front m n ++ 96 ∷ decimal stamp) ≡ Err (fault_there (suc m) (suc n) words.BadByte)
bad m n stamp small =
    let ds = decimal stamp in
    lexed m n (96 ∷ ds) lexes.BadByte (IsAscii-cons 96 ds (omega arith) (IsAscii-decimal stamp small)) (bad_byte (front m n) ds (blank_front m n))

comment : (m n stamp : ℕ) → stamp < 2 ^ 64 → parsing (front m n ++ 47 ∷ 42 ∷ decimal stamp) ≡ Err (fault_there (suc m) (suc n) words.OpenComment)
comment m n stamp small =
    let ds = decimal stamp in
    lexed m n (47 ∷ 42 ∷ ds) lexes.OpenComment (IsAscii-cons 47 (42 ∷ ds) (omega arith) (IsAscii-cons 42 ds (omega arith) (IsAscii-decimal stamp small)))
    (open_comment (front m n) ds (blank_front m n) (digits stamp small))

closing : (m n stamp : ℕ) → stamp < 2 ^ 64 → parsing (front m n ++ 41 ∷ 47 ∷ 47 ∷ decimal stamp) ≡ Err (fault_there (suc m) (suc n) words.Unexpected)
closing m n stamp small =
    let ds = decimal stamp in
    alone m n ds (IsAscii-cons 41 (47 ∷ 47 ∷ ds) (omega arith) (IsAscii-cons 47 (47 ∷ ds) (omega arith) (IsAscii-cons 47 ds (omega arith) (IsAscii-decimal stamp small))))
    (closing_alone (front m n) ds (blank_front m n) (digits stamp small))

-- each kind of fault
faulty : (m n stamp : ℕ) (kind : FaultKind) → stamp < 2 ^ 64 → parsing (front m n ++ (wrong (fault_word kind) ++ decimal stamp)) ≡ Err (fault_there (suc m) (suc n) (fault_word kind))
faulty m n stamp kinds.OpenString small = string m n stamp small
faulty m n stamp kinds.OpenTemplate small = bad m n stamp small
faulty m n stamp kinds.OpenComment small = comment m n stamp small
faulty m n stamp kinds.OpenRegularExpression small = bad m n stamp small
faulty m n stamp kinds.OpenBracket small = closing m n stamp small
faulty m n stamp kinds.UnmatchedBracket small = closing m n stamp small
faulty m n stamp kinds.OutOfMemory small = closing m n stamp small

-- at a line and column from 1
at_place : (stamp line col m n : ℕ) (kind : FaultKind) → stamp < 2 ^ 64 → line ≡ suc m → col ≡ suc n → parsing (text_with stamp (fault_there line col (fault_word kind))) ≡ Err (fault_there line col (fault_word kind))
at_place stamp line col m n kind small is_line is_col =
    let lines : line - 1 ≡ m = omega (arith, is_line) in
    let spaces : col - 1 ≡ n = omega (arith, is_col) in
    let tail = wrong (fault_word kind) ++ decimal stamp in
    ap (λ l. parsing (replicate l 10 ++ (replicate (col - 1) 32 ++ tail))) lines
    ∙ ap (λ c. parsing (replicate m 10 ++ (replicate c 32 ++ tail))) spaces
    ∙ ap parsing (sym (append_assoc (replicate m 10) (replicate n 32) tail))
    ∙ faulty m n stamp kind small
    ∙ ap (λ l. Err (fault_there l (suc n) (fault_word kind))) (sym is_line)
    ∙ ap (λ c. Err (fault_there line c (fault_word kind))) (sym is_col)

-- a text with a fault has that fault
pub refused : (stamp line col : ℕ) (kind : FaultKind) → stamp < 2 ^ 64 → 1 ≤ line → 1 ≤ col → parsing (text_with stamp (fault_there line col (fault_word kind))) ≡ Err (fault_there line col (fault_word kind))
refused stamp line col kind small some one = at_place stamp line col (line - 1) (col - 1) kind small (omega (arith, some)) (omega (arith, one))
