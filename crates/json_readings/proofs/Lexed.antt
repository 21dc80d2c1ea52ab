-- The strings among the tokens of a text have together at most as many bytes as the text.
use Rattle.std.proofs.Common.{◌≡◌, ℕ, suc, ◌+◌, ◌≤◌, Bool, true, false, cond, ◌==◌, List, [], ◌∷◌, length, Option, Some, None, refl, arith}
use Rattle.json.specs.Token.{Token, begin_object, end_object, begin_array, end_array, key, string, number, boolean, null, bad}
use Rattle.json.specs.Text.{content, plain}
use Rattle.json.specs.Word.{head, ends_word, after_number, number_before, word}
use Rattle.json.specs.Lex.{Lexeme, token, comma, colon, Class, quote, backslash, operator, space, other, class, operator_lexeme, string_token, Mode, between, in_word, in_string, in_escape, lex_byte, lex}
use Rattle.json.specs.Lex.{Place, fresh, after_value, after_comma, after_key, begins_colon, may_begin, may_close, if_allowed, place_token, punctuate, tokens}
use Rattle.json.specs.Align.{span_byte, span}
use Rattle.json_readings.proofs.Shorter.{AtMost, content-span}

abbrev pub token_size : Token → ℕ
token_size begin_object = 0
token_size end_object = 0
token_size begin_array = 0
token_size end_array = 0
token_size (key s) = length s
token_size (string s) = length s
token_size (number s) = 0
token_size (boolean b) = 0
token_size null = 0
token_size bad = 0

abbrev pub tokens_size : List Token → ℕ
tokens_size [] = 0
tokens_size (t ∷ ts) = token_size t + tokens_size ts

abbrev lexeme_size : Lexeme → ℕ
lexeme_size (token t) = token_size t
lexeme_size comma = 0
lexeme_size colon = 0

abbrev lexemes_size : List Lexeme → ℕ
lexemes_size [] = 0
lexemes_size (l ∷ ls) = lexeme_size l + lexemes_size ls

-- ---- a lexeme that is no string has no size

one_of : (b : Bool) (x y : Token) → token_size x ≡ 0 → token_size y ≡ 0 → token_size (cond b x y) ≡ 0
one_of true x y p q = p
one_of false x y p q = q

cut : (t : List ℕ) (o : Option (List ℕ)) → token_size (number_before t o) ≡ 0
cut t None = refl
cut t (Some r) = one_of (ends_word r) _ bad refl refl

word_size : (t : List ℕ) → token_size (word t) ≡ 0
unfolding word
word_size t =
    one_of (head t == 116) _ _ (one_of _ (boolean true) bad refl refl) (one_of (head t == 102) _ _ (one_of _ (boolean false) bad refl refl)
    (one_of (head t == 110) _ _ (one_of _ null bad refl refl) (cut t (after_number t))))

mark : (b : Bool) (x y : Lexeme) → lexeme_size x ≡ 0 → lexeme_size y ≡ 0 → lexeme_size (cond b x y) ≡ 0
mark true x y p q = p
mark false x y p q = q

marks : (x : ℕ) → lexeme_size (operator_lexeme x) ≡ 0
marks x =
    mark (x == 123) (token begin_object) _ refl (mark (x == 125) (token end_object) _ refl (mark (x == 91) (token begin_array) _ refl (mark (x == 93) (token end_array) _ refl (mark (x == 44) comma colon refl refl))))

-- ---- the lexer

string_size : (n : ℕ) (o : Option (List ℕ)) → AtMost n o → token_size (string_token o) ≤ n
string_size n None h = omega arith
string_size n (Some s) h = h

-- where a string has been entered, its bytes have been counted
byte : (m : Mode) (c : Class) (x n : ℕ) (xs : List ℕ) (spans : Mode → ℕ) (k : Mode → List Lexeme) → AtMost (spans in_string) (content plain xs) → spans between ≡ 0 → spans in_word ≡ 0
    → ((next : Mode) → spans next + lexemes_size (k next) ≤ n) → span_byte m c spans + lexemes_size (lex_byte m c x xs k) ≤ suc n
byte between quote x n xs spans k s b w h = omega (arith, string_size (spans in_string) (content plain xs) s, h in_string)
byte between backslash x n xs spans k s b w h = omega (arith, h in_word)
byte between operator x n xs spans k s b w h = omega (arith, marks x, h between)
byte between space x n xs spans k s b w h = omega (arith, h between)
byte between other x n xs spans k s b w h = omega (arith, word_size (x ∷ xs), h in_word)
byte in_word quote x n xs spans k s b w h = omega (arith, h in_word)
byte in_word backslash x n xs spans k s b w h = omega (arith, h in_word)
byte in_word operator x n xs spans k s b w h = omega (arith, marks x, h between)
byte in_word space x n xs spans k s b w h = omega (arith, h between)
byte in_word other x n xs spans k s b w h = omega (arith, h in_word)
byte in_string quote x n xs spans k s b w h = omega (arith, b, h between)
byte in_string backslash x n xs spans k s b w h = omega (arith, h in_escape)
byte in_string operator x n xs spans k s b w h = omega (arith, h in_string)
byte in_string space x n xs spans k s b w h = omega (arith, h in_string)
byte in_string other x n xs spans k s b w h = omega (arith, h in_string)
byte in_escape c x n xs spans k s b w h = omega (arith, h in_string)

idle : (xs : List ℕ) → (span between xs ≡ 0) × (span in_word xs ≡ 0)
unfolding span
idle [] = (refl, refl)
idle (x ∷ xs) = (refl, refl)

lex_size : (xs : List ℕ) (m : Mode) → span m xs + lexemes_size (lex m xs) ≤ length xs
unfolding lex span
lex_size [] m = omega arith
lex_size (x ∷ xs) m = byte m (class x) x (length xs) xs (λ n. span n xs) (λ n. lex n xs) (content-span plain xs) (idle xs).0 (idle xs).1 (lex_size xs)

-- ---- commas and colons

allowed : (n : ℕ) (b : Bool) (t : Token) (k : Place → List Token) (next : Place) → tokens_size (k next) ≤ n → tokens_size (if_allowed b t k next) ≤ token_size t + n
allowed n true t k next h = omega arith
allowed n false t k next h = omega arith

placed : (n : ℕ) (p : Place) (t : Token) (b : Bool) (k : Place → List Token) → ((next : Place) → tokens_size (k next) ≤ n) → tokens_size (place_token p t b k) ≤ token_size t + n
placed n p begin_object b k h = allowed n (may_begin p) begin_object k fresh (h fresh)
placed n p end_object b k h = allowed n (may_close p) end_object k after_value (h after_value)
placed n p begin_array b k h = allowed n (may_begin p) begin_array k fresh (h fresh)
placed n p end_array b k h = allowed n (may_close p) end_array k after_value (h after_value)
placed n p (key s) b k h = omega arith
placed n p (string s) true k h = allowed n (may_begin p) (key s) k after_key (h after_key)
placed n p (string s) false k h = allowed n (may_begin p) (string s) k after_value (h after_value)
placed n p (number s) b k h = allowed n (may_begin p) (number s) k after_value (h after_value)
placed n p (boolean v) b k h = allowed n (may_begin p) (boolean v) k after_value (h after_value)
placed n p null b k h = allowed n (may_begin p) null k after_value (h after_value)
placed n p bad b k h = omega arith

punctuate_size : (ls : List Lexeme) (p : Place) → tokens_size (punctuate p ls) ≤ lexemes_size ls
unfolding punctuate
punctuate_size [] fresh = omega arith
punctuate_size [] after_value = omega arith
punctuate_size [] after_comma = omega arith
punctuate_size [] after_key = omega arith
punctuate_size (token t ∷ ls) p = placed (lexemes_size ls) p t (begins_colon ls) (λ n. punctuate n ls) (punctuate_size ls)
punctuate_size (comma ∷ ls) fresh = omega arith
punctuate_size (comma ∷ ls) after_value = omega (arith, punctuate_size ls after_comma)
punctuate_size (comma ∷ ls) after_comma = omega arith
punctuate_size (comma ∷ ls) after_key = omega arith
punctuate_size (colon ∷ ls) fresh = omega arith
punctuate_size (colon ∷ ls) after_value = omega arith
punctuate_size (colon ∷ ls) after_comma = omega arith
punctuate_size (colon ∷ ls) after_key = omega (arith, punctuate_size ls fresh)

pub tokens_size-tokens : (text : List ℕ) → tokens_size (tokens text) ≤ length text
tokens_size-tokens text = omega (arith, punctuate_size (lex between text) fresh, lex_size text between)
