-- Names, numbers, texts and fixed words are laid out.
use Rattle.std.proofs.Common.{◌≡◌, ℕ, zero, suc, ◌+◌, ◌*◌, ◌-◌, ◌/◌, ◌%◌, ◌^◌, ◌<◌, ◌≤◌, List, [], ◌∷◌, ◌++◌, Bool, true, false, ◌||◌, ◌==◌, nat_le, Some, refl, sym, ap, ◌∙◌, subst, arith}
use Rattle.std.proofs.lemmas.List.{append_assoc}
use Rattle.std.specs.Prelude.{decimal}
use Rattle.std.specs.Str.{IsUtf8, is_utf8}
use Rattle.std.proofs.lemmas.Str.{IsUtf8-from_ascii}
use Rattle.std.proofs.lemmas.Bool.{eqb-true}
use Rattle.std.proofs.lemmas.Bool.Decides.{nat_tests}
use Rattle.std.proofs.lemmas.Fmt.{IsAscii-decimal, decimal_by_steps, decimal_digit}
use Rattle.hmr_types.specs.declared.limits.TheConstants.{LARGEST_NUMBER}
use Rattle.module_semantics.specs.Token as token
use Rattle.module_semantics.specs.Token.{Token}
use Rattle.module_semantics.specs.Bytes.{is_name_start, is_name_byte, is_digit, is_quote, is_line_end, is_escape, unescape}
use Rattle.module_semantics.specs.Lexing.{after_token, barred}
use Rattle.module_semantics.specs.Pieces.{Part, plain, escaped, word, nought, digits, quoted, spelled_parts, parts_text, value, all, opens, are_inside}
use Rattle.module_semantics.specs.Canon as canon
use Rattle.module_semantics.specs.Canon.{all_escaped}
use Rattle.module_semantics.specs.Fitting.{is_name}
use Rattle.module_semantics.specs.declared.tokens.After.TheVariants as after
use Rattle.module_semantics.proofs.PiecesLex.{both}
use Rattle.module_semantics.proofs.EscapedTexts.{name_utf8, quoted_utf8}
use Rattle.module_semantics.proofs.Layouts.{closer, closer_is, Laid}

free_first : (b : ℕ) → barred after.Other b ≡ false
unfolding barred
free_first b = refl

-- no closer is a byte of a name
no_name_byte : (k : List ℕ) → opens closer k ≡ true → opens is_name_byte k ≡ false
unfolding opens
no_name_byte [] h = refl
no_name_byte (b ∷ bs) h = (closer_is b h).0

or_false : (a b : Bool) → (a || b) ≡ false → b ≡ false
or_false true b h = absurd cc
or_false false b h = h

no_digit : (k : List ℕ) → opens is_name_byte k ≡ false → opens is_digit k ≡ false
unfolding opens is_name_byte
no_digit [] h = refl
no_digit (b ∷ bs) h = or_false (is_name_start b) (is_digit b) h

pub name_laid : (n : List ℕ) → is_name n ≡ true → Laid true n (token.name n ∷ [])
name_laid [] h = absurd cc
name_laid (b ∷ cs) h =
    let t = both (is_name_start b) (all is_name_byte cs) h in
    record { pieces = word b cs ∷ []; whole = λ k. refl; tokens = refl; fit = λ k e. ((t.0, t.1), no_name_byte k (e refl), free_first b, tt); ends = λ h. absurd cc; utf8 = name_utf8 b cs t.0 t.1 }

-- a byte of a class differs from one that isn't of it
not_case : (p : ℕ → Bool) (b c : ℕ) (t : Bool) → (b == c) ≡ t → p b ≡ true → p c ≡ false → (b == c) ≡ false
not_case p b c true is h k = let same : p c ≡ true = ap p (sym (eqb-true b c is)) ∙ h in absurd cc
not_case p b c false is h k = is

pub not_of : (p : ℕ → Bool) {c : ℕ} (b : ℕ) → p b ≡ true → p c ≡ false → (b == c) ≡ false
not_of p {c} b h k = not_case p b c (b == c) refl h k

-- digits without a leading nought
record Digits (n : ℕ) (bs : List ℕ) : Type 0 where
  one : ℕ
  others : List ℕ
  is : bs ≡ one ∷ others
  digit : is_digit one ≡ true
  digits : all is_digit others ≡ true
  value : value (one - 48) others ≡ n
  leads : 1 ≤ n → (one == 48) ≡ false

digit_is : (n : ℕ) → n < 10 → is_digit (48 + n) ≡ true
unfolding is_digit
digit_is n h = grind (arith, nat_tests)

not_nought : (n : ℕ) → 1 ≤ n → (48 + n == 48) ≡ false
not_nought n h = grind (arith, nat_tests)

one_digit : (n : ℕ) → n < 10 → Digits n ((48 + n) ∷ [])
unfolding all
one_digit n h = record { one = 48 + n; others = []; is = refl; digit = digit_is n h; digits = refl; value = omega arith; leads = λ some. not_nought n some }

value_more : (v : ℕ) (ds : List ℕ) (c : ℕ) → value v (ds ++ (c ∷ [])) ≡ 10 * value v ds + (c - 48)
value_more v [] c = refl
value_more v (d ∷ ds) c = value_more (10 * v + (d - 48)) ds c

all_more : (ds : List ℕ) (c : ℕ) → all is_digit ds ≡ true → is_digit c ≡ true → all is_digit (ds ++ (c ∷ [])) ≡ true
unfolding all
all_more [] c h k = rw k refl
all_more (d ∷ ds) c h k = let t = both (is_digit d) (all is_digit ds) h in rw t.0 (all_more ds c t.1 k)

more_digits : (n : ℕ) (ds : List ℕ) → 10 ≤ n → Digits (n / 10) ds → Digits n (ds ++ ((48 + n % 10) ∷ []))
more_digits n ds h d = record {
  one = d.one;
  others = d.others ++ ((48 + n % 10) ∷ []);
  is = ap (λ v. v ++ ((48 + n % 10) ∷ [])) d.is;
  digit = d.digit;
  digits = all_more d.others (48 + n % 10) d.digits (digit_is (n % 10) (omega arith));
  value = value_more (d.one - 48) d.others (48 + n % 10) ∙ omega (arith, d.value);
  leads = λ some. d.leads (omega arith);
}

decimal_digits : (n : ℕ) → n < 2 ^ 64 → Digits n (decimal n)
decimal_digits = decimal_by_steps Digits one_digit more_digits

digits_laid : (n : ℕ) (bs : List ℕ) → 1 ≤ n → n ≤ LARGEST_NUMBER → IsUtf8 bs → Digits n bs → Laid true bs (token.number n ∷ [])
digits_laid n bs some few utf8 d = record {
  pieces = digits d.one d.others ∷ [];
  whole = λ k. ap (λ v. v ++ k) (sym d.is);
  tokens = ap (λ v. token.number v ∷ []) d.value;
  fit = λ k e. ((d.digit, d.leads some, d.digits, omega (arith, d.value, few)), no_digit k (no_name_byte k (e refl)), free_first d.one, tt);
  ends = λ h. absurd cc;
  utf8 = utf8;
}

number_utf8 : (n : ℕ) → n < 2 ^ 64 → IsUtf8 (decimal n)
number_utf8 n h = IsUtf8-from_ascii (decimal n) (IsAscii-decimal n h)

pub number_laid : (n : ℕ) → nat_le n LARGEST_NUMBER ≡ true → Laid true (decimal n) (token.number n ∷ [])
number_laid zero h = record { pieces = nought ∷ []; whole = λ k. ap (λ v. v ++ k) (sym (decimal_digit 0 (omega arith))); tokens = refl; fit = λ k e. (tt, tt, free_first 48, tt); ends = λ h. absurd cc; utf8 = number_utf8 0 (omega arith) }
number_laid (suc n) h = let few : suc n ≤ LARGEST_NUMBER = search (arith, h) in digits_laid (suc n) (decimal (suc n)) (omega arith) few (number_utf8 (suc n) (omega (arith, few))) (decimal_digits (suc n) (omega (arith, few)))

minus_no_digit : is_digit 45 ≡ false
unfolding is_digit
minus_no_digit = refl

digits_open : (n : ℕ) (bs : List ℕ) → Digits n bs → opens (λ c. c == 45) bs ≡ false
unfolding opens
digits_open n bs d = ap (opens (λ c. c == 45)) d.is ∙ not_of is_digit d.one d.digit minus_no_digit

-- a number begins with no minus
pub decimal_opens : (n : ℕ) → nat_le n LARGEST_NUMBER ≡ true → opens (λ c. c == 45) (decimal n) ≡ false
decimal_opens n h = let few : n ≤ LARGEST_NUMBER = search (arith, h) in digits_open n (decimal n) (decimal_digits n (omega (arith, few)))

-- a part of a text that stands for a byte, spelled as in the canonical text
record PartOf (b : ℕ) : Type 0 where
  part : Part
  spelled : (ps : List Part) (k : List ℕ) → spelled_parts (part ∷ ps) k ≡ canon.escaped b ++ spelled_parts ps k
  text : (ps : List Part) → parts_text (part ∷ ps) ≡ b ∷ parts_text ps
  inside : (ps : List Part) → are_inside 34 ps ≡ true → are_inside 34 (part ∷ ps) ≡ true

backslash_part : PartOf 92
unfolding are_inside unescape is_escape
backslash_part = record { part = escaped 92; spelled = λ ps k. refl; text = λ ps. refl; inside = λ ps h. h }

quote_part : PartOf 34
unfolding are_inside unescape is_escape
quote_part = record { part = escaped 34; spelled = λ ps k. refl; text = λ ps. refl; inside = λ ps h. h }

feed_part : PartOf 10
unfolding are_inside unescape is_escape
feed_part = record { part = escaped 110; spelled = λ ps k. refl; text = λ ps. refl; inside = λ ps h. h }

tab_part : PartOf 9
unfolding are_inside unescape is_escape
tab_part = record { part = escaped 116; spelled = λ ps k. refl; text = λ ps. refl; inside = λ ps h. h }

return_part : PartOf 13
unfolding are_inside unescape is_escape
return_part = record { part = escaped 114; spelled = λ ps k. refl; text = λ ps. refl; inside = λ ps h. h }

plain_part : (b : ℕ) → (b == 92) ≡ false → (b == 34) ≡ false → (b == 10) ≡ false → (b == 9) ≡ false → (b == 13) ≡ false → PartOf b
unfolding are_inside is_line_end
plain_part b backslash quote feed tab return = record { part = plain b; spelled = λ ps k. rw (backslash, quote, feed, tab, return) refl; text = λ ps. refl; inside = λ ps h. rw (quote, feed, return, backslash) h }

part_case : (b : ℕ) (backslash quote feed tab return : Bool) → (b == 92) ≡ backslash → (b == 34) ≡ quote → (b == 10) ≡ feed → (b == 9) ≡ tab → (b == 13) ≡ return → PartOf b
part_case b true quote feed tab return h i j k l = subst PartOf (sym (eqb-true b 92 h)) backslash_part
part_case b false true feed tab return h i j k l = subst PartOf (sym (eqb-true b 34 i)) quote_part
part_case b false false true tab return h i j k l = subst PartOf (sym (eqb-true b 10 j)) feed_part
part_case b false false false true return h i j k l = subst PartOf (sym (eqb-true b 9 k)) tab_part
part_case b false false false false true h i j k l = subst PartOf (sym (eqb-true b 13 l)) return_part
part_case b false false false false false h i j k l = plain_part b h i j k l

part_of : (b : ℕ) → PartOf b
part_of b = part_case b (b == 92) (b == 34) (b == 10) (b == 9) (b == 13) refl refl refl refl refl

-- the parts of a whole text
record PartsOf (s : List ℕ) : Type 0 where
  parts : List Part
  spelled : (k : List ℕ) → spelled_parts parts (34 ∷ k) ≡ all_escaped s ++ (34 ∷ k)
  text : parts_text parts ≡ s
  inside : are_inside 34 parts ≡ true

parts_of : (s : List ℕ) → PartsOf s
unfolding are_inside
parts_of [] = record { parts = []; spelled = λ k. refl; text = refl; inside = refl }
parts_of (b ∷ bs) =
    let p = part_of b in
    let rest = parts_of bs in
    record {
      parts = p.part ∷ rest.parts;
      spelled = λ k. p.spelled rest.parts (34 ∷ k) ∙ ap (λ v. canon.escaped b ++ v) (rest.spelled k) ∙ sym (append_assoc (canon.escaped b) (all_escaped bs) (34 ∷ k));
      text = p.text rest.parts ∙ ap (λ v. b ∷ v) rest.text;
      inside = p.inside rest.parts rest.inside;
    }

a_quote : is_quote 34 ≡ true
unfolding is_quote
a_quote = refl

text_last : (t : List ℕ) → after_token (Some (token.text t)) ≡ after.Other
unfolding after_token
text_last t = refl

pub quoted_laid : (s : List ℕ) → is_utf8 s ≡ true → Laid false (canon.quoted s) (token.text s ∷ [])
quoted_laid s utf8 =
    let p = parts_of s in
    record {
      pieces = quoted 34 p.parts ∷ [];
      whole = λ k. ap (λ v. 34 ∷ v) (p.spelled k ∙ sym (append_assoc (all_escaped s) (34 ∷ []) k));
      tokens = ap (λ v. token.text v ∷ []) p.text;
      fit = λ k e. ((a_quote, p.inside), tt, free_first 34, tt);
      ends = λ h. text_last (parts_text p.parts);
      utf8 = quoted_utf8 s utf8;
    }
