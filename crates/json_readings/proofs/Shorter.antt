-- A string of a text, unescaped, has at most as many bytes as the lexer passes before the string closes:
-- an escape of two, six or twelve bytes stands for one, three or four at most.
use Rattle.std.proofs.Common.{◌≡◌, ℕ, ◌+◌, ◌*◌, ◌≤◌, Bool, true, false, cond, ◌&&◌, ◌==◌, nat_lt, List, [], ◌∷◌, length, Option, Some, None, option_and_then, refl, ap, sym, ◌∙◌, arith}
use Rattle.std.proofs.lemmas.Bool.{false≢true, eqb-true, and_parts}
use Rattle.std.proofs.lemmas.List.{length-append}
use Rattle.std.specs.Prelude.{⊤}
use Rattle.std.specs.Char.{is_digit, digit_value, encode_utf8}
use Rattle.json.specs.Text.{code_unit, short_escape, is_high_surrogate, is_low_surrogate, surrogate_pair, Within, plain, after_backslash, after_u, after_high, prepend, content}
use Rattle.json.specs.Lex.{quote, backslash, operator, space, other, Mode, in_string, in_escape}
use Rattle.json.specs.Word.{is_operator, is_space}
use Rattle.json.specs.Align.{span_byte, span}

-- a text that is there has at most n bytes
abbrev pub AtMost : ℕ → Option (List ℕ) → Type 0
AtMost n None = ⊤
AtMost n (Some s) = length s ≤ n

-- the lexer's mode where the string is read so far
abbrev mode_of : Within → Mode
mode_of plain = in_string
mode_of after_backslash = in_escape
mode_of after_u = in_string
mode_of (after_high h) = in_string

-- texts and bounds

wider : (m n : ℕ) (o : Option (List ℕ)) → m ≤ n → AtMost m o → AtMost n o
wider m n None le h = tt
wider m n (Some s) le h = omega arith

behind : (front : List ℕ) (m n : ℕ) (o : Option (List ℕ)) → length front + m ≤ n → AtMost m o → AtMost n (prepend front o)
behind front m n None le h = tt
behind front m n (Some s) le h = omega (arith, length-append front s)

chosen : (n : ℕ) (b : Bool) (x y : Option (List ℕ)) → (b ≡ true → AtMost n x) → (b ≡ false → AtMost n y) → AtMost n (cond b x y)
chosen n true x y f g = f refl
chosen n false x y f g = g refl

of_number : (n : ℕ) (o : Option ℕ) (f : ℕ → Option (List ℕ)) → ((u : ℕ) → o ≡ Some u → AtMost n (f u)) → AtMost n (option_and_then f o)
of_number n None f h = tt
of_number n (Some u) f h = h u refl

four_bytes : (u : ℕ) → length (encode_utf8 u) ≤ 4
unfolding encode_utf8
four_bytes u = grind arith

-- bytes that the lexer passes

class_passes : (o s : Bool) (spans : Mode → ℕ) → span_byte in_string (cond o operator (cond s space other)) spans ≡ 1 + spans in_string
class_passes true s spans = refl
class_passes false true spans = refl
class_passes false false spans = refl

-- a byte of a string that is neither a quote nor a backslash
one_passed : (x : ℕ) (xs : List ℕ) → (x == 34) ≡ false → (x == 92) ≡ false → span in_string (x ∷ xs) ≡ 1 + span in_string xs
unfolding span
one_passed x xs no_quote no_escape =
    ap (λ b. span_byte in_string (cond b quote (cond (x == 92) backslash (cond (is_operator x) operator (cond (is_space x) space other)))) (λ m. span m xs)) no_quote
    ∙ ap (λ b. span_byte in_string (cond b backslash (cond (is_operator x) operator (cond (is_space x) space other))) (λ m. span m xs)) no_escape
    ∙ class_passes (is_operator x) (is_space x) (λ m. span m xs)

backslash_passed : (x : ℕ) (xs : List ℕ) → (x == 92) ≡ true → span in_string (x ∷ xs) ≡ 1 + span in_escape xs
unfolding span
backslash_passed x xs e = ap (λ y. span in_string (y ∷ xs)) (eqb-true x 92 e)

escaped_passed : (x : ℕ) (xs : List ℕ) → span in_escape (x ∷ xs) ≡ 1 + span in_string xs
unfolding span
escaped_passed x xs = refl

apart : (x y : ℕ) (b : Bool) → (x == y) ≡ b → is_digit y 16 ≡ false → is_digit x 16 ≡ true → b ≡ false
apart x y false e none some = refl
apart x y true e none some = absurd (false≢true (sym none ∙ ap (λ z. is_digit z 16) (sym (eqb-true x y e)) ∙ some))

digit_passed : (x : ℕ) (xs : List ℕ) → is_digit x 16 ≡ true → span in_string (x ∷ xs) ≡ 1 + span in_string xs
digit_passed x xs h = one_passed x xs (apart x 34 (x == 34) refl refl h) (apart x 92 (x == 92) refl refl h)

spelled : (b : Bool) (n u : ℕ) → cond b (Some n) None ≡ Some u → b ≡ true
spelled true n u e = refl
spelled false n u e = absurd (false≢true (ap is_there e))
  where
    is_there : Option ℕ → Bool
    is_there None = false
    is_there (Some v) = true

unit_passed : (a b c d : ℕ) (xs : List ℕ) (u : ℕ) → code_unit a b c d ≡ Some u → span in_string (a ∷ b ∷ c ∷ d ∷ xs) ≡ 4 + span in_string xs
unfolding code_unit
unit_passed a b c d xs u e =
    let all = spelled (is_digit a 16 && is_digit b 16 && is_digit c 16 && is_digit d 16) (digit_value a * 4096 + digit_value b * 256 + digit_value c * 16 + digit_value d) u e in
    let three = and_parts (is_digit a 16 && is_digit b 16 && is_digit c 16) (is_digit d 16) all in
    let two = and_parts (is_digit a 16 && is_digit b 16) (is_digit c 16) three.0 in
    let one = and_parts (is_digit a 16) (is_digit b 16) two.0 in
    omega (arith, digit_passed a (b ∷ c ∷ d ∷ xs) one.0, digit_passed b (c ∷ d ∷ xs) one.1, digit_passed c (d ∷ xs) two.1, digit_passed d xs three.1)

-- what the string says
pub content-span : (w : Within) (xs : List ℕ) → AtMost (span (mode_of w) xs) (content w xs)
unfolding content
content-span plain [] = tt
content-span plain (x ∷ xs) = chosen _ (x == 34) _ _ (λ q. omega arith) (λ no_quote.
    chosen _ (x == 92) _ _
    (λ e. wider _ _ _ (omega (arith, backslash_passed x xs e)) (content-span after_backslash xs))
    (λ no_escape. chosen _ (nat_lt x 32) _ _ (λ low. tt) (λ high. behind (x ∷ []) _ _ _ (omega (arith, one_passed x xs no_quote no_escape)) (content-span plain xs))))
content-span after_backslash [] = tt
content-span after_backslash (x ∷ xs) = chosen _ (x == 117) _ _
    (λ unit. wider _ _ _ (omega (arith, escaped_passed x xs)) (content-span after_u xs))
    (λ short. of_number _ (short_escape x) _ (λ c is. behind (c ∷ []) _ _ _ (omega (arith, escaped_passed x xs)) (content-span plain xs)))
content-span after_u [] = tt
content-span after_u (a ∷ []) = tt
content-span after_u (a ∷ b ∷ []) = tt
content-span after_u (a ∷ b ∷ c ∷ []) = tt
content-span after_u (a ∷ b ∷ c ∷ d ∷ xs) = of_number _ (code_unit a b c d) _ (λ u is.
    chosen _ (is_high_surrogate u) _ _
    (λ high. wider _ _ _ (omega (arith, unit_passed a b c d xs u is)) (content-span (after_high u) xs))
    (λ other. chosen _ (is_low_surrogate u) _ _ (λ low. tt) (λ whole. behind (encode_utf8 u) _ _ _ (omega (arith, unit_passed a b c d xs u is, four_bytes u)) (content-span plain xs))))
content-span (after_high h) [] = tt
content-span (after_high h) (s ∷ []) = tt
content-span (after_high h) (s ∷ u ∷ []) = tt
content-span (after_high h) (s ∷ u ∷ a ∷ []) = tt
content-span (after_high h) (s ∷ u ∷ a ∷ b ∷ []) = tt
content-span (after_high h) (s ∷ u ∷ a ∷ b ∷ c ∷ []) = tt
content-span (after_high h) (s ∷ u ∷ a ∷ b ∷ c ∷ d ∷ xs) = chosen _ ((s == 92) && (u == 117)) _ _
    (λ begun. of_number _ (code_unit a b c d) _ (λ l is. chosen _ (is_low_surrogate l) _ _
    (λ low. behind (encode_utf8 (surrogate_pair h l)) _ _ _
    (omega (arith, backslash_passed s (u ∷ a ∷ b ∷ c ∷ d ∷ xs) (and_parts (s == 92) (u == 117) begun).0, escaped_passed u (a ∷ b ∷ c ∷ d ∷ xs), unit_passed a b c d xs l is, four_bytes (surrogate_pair h l)))
    (content-span plain xs))
    (λ alone. tt)))
    (λ other. tt)
