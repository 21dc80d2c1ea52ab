-- The text of a JSON value whose strings are UTF-8 and whose numbers are whole and fit is UTF-8, has no LF, and its
-- tokens are the value's.
use Rattle.std.proofs.Common.{◌≡◌, ℕ, zero, suc, ◌^◌, ◌<◌, ◌≤◌, List, [], ◌∷◌, ◌++◌, Bool, true, false, inl, inr, refl, sym, ap, ap₂, ◌∙◌, subst, arith, append_assoc, append-nil, Some, ltb-true}
use Rattle.std.specs.Prelude.{◌&&◌, ◌||◌, decimal, max, nat_lt, not, IsUtf8, option_and_then}
use Rattle.std.specs.Str.{is_utf8}
use Rattle.std.proofs.lemmas.Bool.{and_from, and_parts, cases_eq, cases_lt, false≢true, ne_eqb}
use Rattle.std.proofs.lemmas.Fmt.{IsAscii-decimal}
use Rattle.std.proofs.lemmas.List.Folds.{list_all-append}
use Rattle.std.proofs.lemmas.Str.{IsUtf8-append, IsUtf8-from_ascii, IsUtf8-from_is_utf8, is_utf8-from_IsUtf8}
use Rattle.json.specs.Token.{Token}
use Rattle.json.specs.Json as json
use Rattle.json.specs.Lex.{tokens}
use Rattle.json.specs.Print.{ArePrintable, escape, escape_byte, quoted, token_text}
use Rattle.json.specs.Tree as tree
use Rattle.json.proofs.Printed.Decimals.{IsNumber-decimal}
use Rattle.json.proofs.Printed.Strings.{escape_byte_plain}
use Rattle.json.proofs.Printed.Tokens.{tokens-print}
use Rattle.json.proofs.Printed.Trees.{value-json_tokens}
use Rattle.json.proofs.Printed.Utf8.{IsUtf8-are_ascii, IsUtf8-boolean, IsUtf8-quoted, are_ascii}
use Rattle.serde_json.specs.Data.{Num, unsigned, negative, float, Data, null, boolean, number, string, array, object, Items, no_items, item, Members, no_members, member, depth, items_depth, members_depth}
use Rattle.serde_json.specs.Read.{max_depth, of_json, read}
use Rattle.serde_json.specs.Written.{comma_if, compact_text, items_text, members_text, outline, items_outline, members_outline}
use Rattle.serde_json.proofs.Texts.{print-outline}
use Rattle.play_script.specs.Script.{is_line_end}
use Rattle.play_script.proofs.SpelledNames.{has_no_lf}
use Rattle.play_script.proofs.SpelledNumbers.{has_no_lf-decimal}

-- the number has a text of digits
abbrev pub is_small : ℕ → Bool
is_small n = nat_lt n 18446744073709551616

abbrev pub is_whole : Num → Bool
is_whole (unsigned n) = is_small n
is_whole (negative z) = false
is_whole (float x) = false

-- the bytes are UTF-8; those of ASCII are seen to be
abbrev pub is_string : List ℕ → Bool
is_string s = are_ascii s || is_utf8 s

string_by : (b c : Bool) (s : List ℕ) → are_ascii s ≡ b → is_utf8 s ≡ c → (b || c) ≡ true → IsUtf8 s
string_by true c s a u h = IsUtf8-are_ascii s a
string_by false true s a u h = IsUtf8-from_is_utf8 s u
string_by false false s a u h = absurd (false≢true h)

string_is : (s : List ℕ) → is_string s ≡ true → IsUtf8 s
string_is s h = string_by (are_ascii s) (is_utf8 s) s refl refl h

utf8_or : (b c : Bool) → c ≡ true → (b || c) ≡ true
utf8_or true c h = refl
utf8_or false c h = h

pub utf8_string : (s : List ℕ) → IsUtf8 s → is_string s ≡ true
utf8_string s h = utf8_or (are_ascii s) (is_utf8 s) (is_utf8-from_IsUtf8 s h)

-- each string is UTF-8, and each number is whole and fits
abbrev mutual
  pub is_clean : Data → Bool
  is_clean null = true
  is_clean (boolean b) = true
  is_clean (number n) = is_whole n
  is_clean (string s) = is_string s
  is_clean (array ds) = items_clean ds
  is_clean (object ms) = members_clean ms

  pub items_clean : Items → Bool
  items_clean no_items = true
  items_clean (item d ds) = is_clean d && items_clean ds

  pub members_clean : Members → Bool
  members_clean no_members = true
  members_clean (member k d ms) = is_string k && (is_clean d && members_clean ms)

pub small_is : (n : ℕ) → is_small n ≡ true → n < 2 ^ 64
small_is n h = omega (arith, ltb-true n 18446744073709551616 h)

-- ---- UTF-8

mark_then : (x : ℕ) (xs : List ℕ) → IsUtf8 (x ∷ []) → IsUtf8 xs → IsUtf8 (x ∷ xs)
mark_then x xs g h = IsUtf8-append (x ∷ []) xs g h

comma_then : (later : Bool) (xs : List ℕ) → IsUtf8 xs → IsUtf8 (comma_if later ++ xs)
comma_then true xs h = mark_then 44 xs (IsUtf8-are_ascii (44 ∷ []) refl) h
comma_then false xs h = h

number_utf8 : (n : Num) → is_whole n ≡ true → IsUtf8 (compact_text (number n))
number_utf8 (unsigned n) h = IsUtf8-from_ascii (decimal n) (IsAscii-decimal n (small_is n h))
number_utf8 (negative z) h = absurd (false≢true h)
number_utf8 (float x) h = absurd (false≢true h)

mutual
  pub value_utf8 : (d : Data) → is_clean d ≡ true → IsUtf8 (compact_text d)
  value_utf8 null h = IsUtf8-are_ascii (token_text Token.null) refl
  value_utf8 (boolean b) h = IsUtf8-boolean b
  value_utf8 (number n) h = number_utf8 n h
  value_utf8 (string s) h = IsUtf8-quoted s (string_is s h)
  value_utf8 (array ds) h = mark_then 91 (items_text false ds) (IsUtf8-are_ascii (91 ∷ []) refl) (items_utf8 false ds h)
  value_utf8 (object ms) h = mark_then 123 (members_text false ms) (IsUtf8-are_ascii (123 ∷ []) refl) (members_utf8 false ms h)

  items_utf8 : (later : Bool) (ds : Items) → items_clean ds ≡ true → IsUtf8 (items_text later ds)
  items_utf8 later no_items h = IsUtf8-are_ascii (93 ∷ []) refl
  items_utf8 later (item d ds) h =
      let here = and_parts (is_clean d) (items_clean ds) h in
      comma_then later (compact_text d ++ items_text true ds) (IsUtf8-append (compact_text d) (items_text true ds) (value_utf8 d here.0) (items_utf8 true ds here.1))

  members_utf8 : (later : Bool) (ms : Members) → members_clean ms ≡ true → IsUtf8 (members_text later ms)
  members_utf8 later no_members h = IsUtf8-are_ascii (125 ∷ []) refl
  members_utf8 later (member k d ms) h =
      let here = and_parts (is_string k) (is_clean d && members_clean ms) h in
      let rest = and_parts (is_clean d) (members_clean ms) here.1 in
      let value = IsUtf8-append (compact_text d) (members_text true ms) (value_utf8 d rest.0) (members_utf8 true ms rest.1) in
      comma_then later (quoted k ++ 58 ∷ (compact_text d ++ members_text true ms))
      (IsUtf8-append (quoted k) (58 ∷ (compact_text d ++ members_text true ms)) (IsUtf8-quoted k (string_is k here.0))
      (mark_then 58 (compact_text d ++ members_text true ms) (IsUtf8-are_ascii (58 ∷ []) refl) value))

-- ---- no LF

pub no_lf_both : (xs ys : List ℕ) → has_no_lf xs ≡ true → has_no_lf ys ≡ true → has_no_lf (xs ++ ys) ≡ true
no_lf_both xs ys g h = list_all-append (λ b. not (is_line_end b)) xs ys ∙ and_from (has_no_lf xs) (has_no_lf ys) g h

abbrev no_lf_below : ℕ → Bool
no_lf_below zero = true
no_lf_below (suc n) = has_no_lf (escape_byte n) && no_lf_below n

none_below : (n : ℕ) → no_lf_below n ≡ true → (x : ℕ) → x < n → has_no_lf (escape_byte x) ≡ true
none_below zero e x h = absurd (omega arith)
none_below (suc n) e x h =
    let p = and_parts (has_no_lf (escape_byte n)) (no_lf_below n) e in
    elim (cases_eq x n) [ inl same ↦ rw same p.0 | inr other ↦ none_below n p.1 x (omega arith) ]

none_low : no_lf_below 128 ≡ true
unfolding escape_byte
none_low = refl

plain_no_lf : (x : ℕ) → 128 ≤ x → has_no_lf (x ∷ []) ≡ true
plain_no_lf x h = rw (ne_eqb x 10 (λ e. omega arith)) refl

byte_no_lf : (x : ℕ) → has_no_lf (escape_byte x) ≡ true
byte_no_lf x = elim (cases_lt x 128) [
  | inl small ↦ none_below 128 none_low x small
  | inr big ↦ ap has_no_lf (escape_byte_plain x (λ e. omega arith) (λ e. omega arith) (omega arith)) ∙ plain_no_lf x big
]

escape_no_lf : (s : List ℕ) → has_no_lf (escape s) ≡ true
escape_no_lf [] = refl
escape_no_lf (x ∷ xs) = no_lf_both (escape_byte x) (escape xs) (byte_no_lf x) (escape_no_lf xs)

quoted_no_lf : (s : List ℕ) → has_no_lf (quoted s) ≡ true
quoted_no_lf s = no_lf_both (escape s) (34 ∷ []) (escape_no_lf s) refl

comma_no_lf : (later : Bool) (xs : List ℕ) → has_no_lf xs ≡ true → has_no_lf (comma_if later ++ xs) ≡ true
comma_no_lf true xs h = h
comma_no_lf false xs h = h

boolean_no_lf : (b : Bool) → has_no_lf (token_text (Token.boolean b)) ≡ true
boolean_no_lf true = refl
boolean_no_lf false = refl

number_no_lf : (n : Num) → is_whole n ≡ true → has_no_lf (compact_text (number n)) ≡ true
number_no_lf (unsigned n) h = has_no_lf-decimal n (small_is n h)
number_no_lf (negative z) h = absurd (false≢true h)
number_no_lf (float x) h = absurd (false≢true h)

mutual
  pub value_no_lf : (d : Data) → is_clean d ≡ true → has_no_lf (compact_text d) ≡ true
  value_no_lf null h = refl
  value_no_lf (boolean b) h = boolean_no_lf b
  value_no_lf (number n) h = number_no_lf n h
  value_no_lf (string s) h = quoted_no_lf s
  value_no_lf (array ds) h = items_no_lf false ds h
  value_no_lf (object ms) h = members_no_lf false ms h

  items_no_lf : (later : Bool) (ds : Items) → items_clean ds ≡ true → has_no_lf (items_text later ds) ≡ true
  items_no_lf later no_items h = refl
  items_no_lf later (item d ds) h =
      let here = and_parts (is_clean d) (items_clean ds) h in
      comma_no_lf later (compact_text d ++ items_text true ds) (no_lf_both (compact_text d) (items_text true ds) (value_no_lf d here.0) (items_no_lf true ds here.1))

  members_no_lf : (later : Bool) (ms : Members) → members_clean ms ≡ true → has_no_lf (members_text later ms) ≡ true
  members_no_lf later no_members h = refl
  members_no_lf later (member k d ms) h =
      let here = and_parts (is_string k) (is_clean d && members_clean ms) h in
      let rest = and_parts (is_clean d) (members_clean ms) here.1 in
      let value = no_lf_both (compact_text d) (members_text true ms) (value_no_lf d rest.0) (members_no_lf true ms rest.1) in
      comma_no_lf later (quoted k ++ 58 ∷ (compact_text d ++ members_text true ms)) (no_lf_both (quoted k) (58 ∷ (compact_text d ++ members_text true ms)) (quoted_no_lf k) value)

-- ---- tokens

number_printable : (n : Num) (ts : List Token) → is_whole n ≡ true → ArePrintable ts → ArePrintable (tree.json_tokens (outline (number n)) ++ ts)
unfolding ArePrintable
number_printable (unsigned n) ts h more = (IsNumber-decimal n (small_is n h), more)
number_printable (negative z) ts h more = absurd (false≢true h)
number_printable (float x) ts h more = absurd (false≢true h)

mutual
  unfolding ArePrintable

  value_printable : (d : Data) (ts : List Token) → is_clean d ≡ true → ArePrintable ts → ArePrintable (tree.json_tokens (outline d) ++ ts)
  value_printable null ts h more = (tt, more)
  value_printable (boolean b) ts h more = (tt, more)
  value_printable (number n) ts h more = number_printable n ts h more
  value_printable (string s) ts h more = (tt, more)
  value_printable (array ds) ts h more = (tt, items_printable ds ts h more)
  value_printable (object ms) ts h more = (tt, members_printable ms ts h more)

  items_printable : (ds : Items) (ts : List Token) → items_clean ds ≡ true → ArePrintable ts → ArePrintable (tree.items_tokens (items_outline ds) ++ ts)
  items_printable no_items ts h more = (tt, more)
  items_printable (item d ds) ts h more =
      let here = and_parts (is_clean d) (items_clean ds) h in
      subst ArePrintable (sym (append_assoc (tree.json_tokens (outline d)) (tree.items_tokens (items_outline ds)) ts))
      (value_printable d (tree.items_tokens (items_outline ds) ++ ts) here.0 (items_printable ds ts here.1 more))

  members_printable : (ms : Members) (ts : List Token) → members_clean ms ≡ true → ArePrintable ts → ArePrintable (tree.members_tokens (members_outline ms) ++ ts)
  members_printable no_members ts h more = (tt, more)
  members_printable (member k d ms) ts h more =
      let here = and_parts (is_string k) (is_clean d && members_clean ms) h in
      let rest = and_parts (is_clean d) (members_clean ms) here.1 in (
        tt,
        subst ArePrintable (sym (append_assoc (tree.json_tokens (outline d)) (tree.members_tokens (members_outline ms)) ts))
            (value_printable d (tree.members_tokens (members_outline ms) ++ ts) rest.0 (members_printable ms ts rest.1 more)),
      )

nothing_printable : ArePrintable []
unfolding ArePrintable
nothing_printable = tt

tokens_of_text : (d : Data) → is_clean d ≡ true → tokens (compact_text d) ≡ tree.json_tokens (outline d)
tokens_of_text d h =
    ap tokens (sym (print-outline d)) ∙ tokens-print (tree.json_tokens (outline d)) (subst ArePrintable (append-nil (tree.json_tokens (outline d))) (value_printable d [] h nothing_printable))

mutual
  same_depth : (d : Data) → tree.depth (outline d) ≡ depth d
  same_depth null = refl
  same_depth (boolean b) = refl
  same_depth (number n) = refl
  same_depth (string s) = refl
  same_depth (array ds) = ap suc (items_same ds)
  same_depth (object ms) = ap suc (members_same ms)

  items_same : (ds : Items) → tree.items_depth (items_outline ds) ≡ items_depth ds
  items_same no_items = refl
  items_same (item d ds) = ap₂ max (same_depth d) (items_same ds)

  members_same : (ms : Members) → tree.members_depth (members_outline ms) ≡ members_depth ms
  members_same no_members = refl
  members_same (member k d ms) = ap₂ max (same_depth d) (members_same ms)

-- the text of a value that is what its JSON stands for reads as that value
pub reads_back : (d : Data) → is_clean d ≡ true → depth d ≤ max_depth → of_json (outline d) ≡ Some d → read (compact_text d) ≡ Some d
reads_back d h deep is =
    let shallow : tree.depth (outline d) ≤ max_depth = subst (λ n. n ≤ max_depth) (sym (same_depth d)) deep in
    ap (λ o. option_and_then of_json (option_and_then (λ p. json.if_last p.0 p.1) o))
    (ap (json.value max_depth) (tokens_of_text d h ∙ sym (append-nil (tree.json_tokens (outline d)))) ∙ value-json_tokens (outline d) max_depth [] shallow) ∙ is
