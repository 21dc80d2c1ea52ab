-- Names, numbers, and texts with backslashes are UTF-8 again.
use Rattle.std.proofs.Common.{◌≡◌, ℕ, ◌+◌, ◌/◌, ◌%◌, ◌<◌, ◌≤◌, List, [], ◌∷◌, ◌++◌, Bool, true, false, cond, ◌==◌, nat_lt, refl, sym, ap, ◌∙◌, subst, codes, arith}
use Rattle.std.specs.Str.{IsUtf8, IsAscii, is_utf8, encode_utf8_all, all_scalars}
use Rattle.std.specs.Char.{encode_utf8, IsScalar}
use Rattle.std.specs.List.{list_all}
use Rattle.std.proofs.lemmas.Bool.Decides.{nat_tests}
use Rattle.std.proofs.lemmas.List.{append_assoc, append-nil}
use Rattle.std.proofs.lemmas.Str.{IsUtf8-append, IsUtf8-encode, IsUtf8-from_ascii, IsUtf8-nil, IsUtf8-from_is_utf8}
use Rattle.std.proofs.lemmas.Str.Ascii.{IsAscii-nil, IsAscii-cons}
use Rattle.module_semantics.specs.Bytes.{is_name_start, is_name_byte, is_digit}
use Rattle.module_semantics.specs.Pieces.{all}
use Rattle.module_semantics.specs.Canon.{escaped, all_escaped, quoted}
use Rattle.module_semantics.proofs.PiecesLex.{both}

pub name_start_small : (b : ℕ) → is_name_start b ≡ true → b < 128
unfolding is_name_start
name_start_small b h = grind arith

pub name_byte_small : (b : ℕ) → is_name_byte b ≡ true → b < 128
unfolding is_name_byte is_name_start is_digit
name_byte_small b h = grind arith

run_ascii : (cs : List ℕ) → all is_name_byte cs ≡ true → IsAscii cs
unfolding all
run_ascii [] h = IsAscii-nil
run_ascii (c ∷ cs) h = let t = both (is_name_byte c) (all is_name_byte cs) h in IsAscii-cons c cs (name_byte_small c t.0) (run_ascii cs t.1)

pub name_utf8 : (b : ℕ) (cs : List ℕ) → is_name_start b ≡ true → all is_name_byte cs ≡ true → IsUtf8 (b ∷ cs)
name_utf8 b cs h k = IsUtf8-from_ascii _ (IsAscii-cons b cs (name_start_small b h) (run_ascii cs k))

unfoldable pub ascii_test : ℕ → Bool
ascii_test b = nat_lt b 128

pub ascii_small : (b : ℕ) → ascii_test b ≡ true → b < 128
unfolding ascii_test
ascii_small b h = grind (arith, nat_tests)

all_ascii : (bs : List ℕ) → list_all ascii_test bs ≡ true → IsAscii bs
all_ascii [] h = IsAscii-nil
all_ascii (b ∷ bs) h = let t = both (ascii_test b) (list_all ascii_test bs) h in IsAscii-cons b bs (ascii_small b t.0) (all_ascii bs t.1)

pub ascii_utf8 : (bs : List ℕ) → list_all ascii_test bs ≡ true → IsUtf8 bs
ascii_utf8 bs h = IsUtf8-from_ascii bs (all_ascii bs h)

pub byte_utf8 : (b : ℕ) → b < 128 → IsUtf8 (b ∷ [])
byte_utf8 b h = IsUtf8-from_ascii _ (IsAscii-cons b [] h IsAscii-nil)

two_utf8 : (b c : ℕ) → b < 128 → c < 128 → IsUtf8 (b ∷ (c ∷ []))
two_utf8 b c h k = IsUtf8-from_ascii _ (IsAscii-cons b (c ∷ []) h (IsAscii-cons c [] k IsAscii-nil))

escape_case : (c : ℕ) (backslash quote feed tab return : Bool) → c < 128 → IsUtf8 (cond backslash (codes "\\\\") (cond quote (codes "\\\"") (cond feed (codes "\\n") (cond tab (codes "\\t") (cond return (codes "\\r") (c ∷ []))))))
escape_case c true quote feed tab return h = two_utf8 92 92 (omega arith) (omega arith)
escape_case c false true feed tab return h = two_utf8 92 34 (omega arith) (omega arith)
escape_case c false false true tab return h = two_utf8 92 110 (omega arith) (omega arith)
escape_case c false false false true return h = two_utf8 92 116 (omega arith) (omega arith)
escape_case c false false false false true h = two_utf8 92 114 (omega arith) (omega arith)
escape_case c false false false false false h = byte_utf8 c h

escaped_utf8 : (c : ℕ) → c < 128 → IsUtf8 (escaped c)
escaped_utf8 c h = escape_case c (c == 92) (c == 34) (c == 10) (c == 9) (c == 13) h

-- bytes of a character that is no byte alone stand as they are
abbrev High : List ℕ → Type 0
High [] = Unit {0}
High (b ∷ bs) = (128 ≤ b) × High bs

not_low : (b c : ℕ) → 128 ≤ b → c < 128 → (b == c) ≡ false
not_low b c h k = grind (arith, nat_tests)

high_escaped : (b : ℕ) → 128 ≤ b → escaped b ≡ b ∷ []
high_escaped b h =
    rw (not_low b 92 h (omega arith), not_low b 34 h (omega arith), not_low b 10 h (omega arith), not_low b 9 h (omega arith), not_low b 13 h (omega arith)) refl

high_same : (bs : List ℕ) → High bs → all_escaped bs ≡ bs
high_same [] h = refl
high_same (b ∷ bs) h = rw (high_escaped b h.0, high_same bs h.1) refl

high_case : (c : ℕ) (two three : Bool) → High (cond two ((192 + c / 64) ∷ ((128 + c % 64) ∷ [])) (cond three ((224 + c / 4096) ∷ ((128 + c / 64 % 64) ∷ ((128 + c % 64) ∷ []))) ((240 + c / 262144) ∷ ((128 + c / 4096 % 64) ∷ ((128 + c / 64 % 64) ∷ ((128 + c % 64) ∷ []))))))
high_case c true three = (omega arith, (omega arith, tt))
high_case c false true = (omega arith, (omega arith, (omega arith, tt)))
high_case c false false = (omega arith, (omega arith, (omega arith, (omega arith, tt))))

escaped_two : (xs ys : List ℕ) → all_escaped (xs ++ ys) ≡ all_escaped xs ++ all_escaped ys
escaped_two [] ys = refl
escaped_two (x ∷ xs) ys = ap (λ v. escaped x ++ v) (escaped_two xs ys) ∙ sym (append_assoc (escaped x) (all_escaped xs) (all_escaped ys))

char_low : (c : ℕ) → nat_lt c 128 ≡ true → encode_utf8 c ≡ c ∷ []
unfolding encode_utf8
char_low c h = rw h refl

char_high : (c : ℕ) → nat_lt c 128 ≡ false → High (encode_utf8 c)
unfolding encode_utf8
char_high c h = rw h (high_case c (nat_lt c 2048) (nat_lt c 65536))

low_is : (c : ℕ) → nat_lt c 128 ≡ true → c < 128
low_is c h = grind (arith, nat_tests)

char_case : (c : ℕ) (low : Bool) → nat_lt c 128 ≡ low → IsScalar c → IsUtf8 (all_escaped (encode_utf8 c))
char_case c true is h = subst (λ v. IsUtf8 (all_escaped v)) (sym (char_low c is)) (subst IsUtf8 (sym (append-nil (escaped c))) (escaped_utf8 c (low_is c is)))
char_case c false is h = subst IsUtf8 (sym (high_same (encode_utf8 c) (char_high c is))) (IsUtf8-encode c h)

chars_escaped : (cs : List ℕ) → all_scalars cs ≡ true → IsUtf8 (all_escaped (encode_utf8_all cs))
chars_escaped [] h = IsUtf8-nil
chars_escaped (c ∷ cs) h =
    let t = both _ (all_scalars cs) h in
    subst IsUtf8 (sym (escaped_two (encode_utf8 c) (encode_utf8_all cs))) (IsUtf8-append _ _ (char_case c (nat_lt c 128) refl t.0) (chars_escaped cs t.1))

text_escaped : (s : List ℕ) → IsUtf8 s → IsUtf8 (all_escaped s)
text_escaped s u = subst (λ v. IsUtf8 (all_escaped v)) u.1.1 (chars_escaped u.0 u.1.0)

pub quoted_utf8 : (s : List ℕ) → is_utf8 s ≡ true → IsUtf8 (quoted s)
quoted_utf8 s h = IsUtf8-append (34 ∷ []) (all_escaped s ++ (34 ∷ [])) (byte_utf8 34 (omega arith)) (IsUtf8-append (all_escaped s) (34 ∷ []) (text_escaped s (IsUtf8-from_is_utf8 s h)) (byte_utf8 34 (omega arith)))
