-- The bytes of URLs.
use Rattle.std.proofs.Common.{◌≡◌, ℕ, ◌+◌, ◌%◌, ◌^◌, ◌<◌, ◌≤◌, Bool, true, false, List, [], ◌∷◌, ◌++◌, All, refl, sym, ap, ◌∙◌, arith}
use Rattle.std.specs.Prelude.{codes, decimal, not, ◌==◌, ◌&&◌, ◌||◌, nat_le, Some, None}
use Rattle.std.proofs.lemmas.Bool.{agree_below, agree_below_at}
use Rattle.std.proofs.lemmas.Bool.Decides.{nat_tests}
use Rattle.std.proofs.lemmas.Fmt.{decimal_by_steps}
use Rattle.std.proofs.lemmas.List.Elements.{All-append, All-cons, All-nil}
use Rattle.percent_encoding.specs.AsciiSet.{contains, should_percent_encode}
use Rattle.percent_encoding.specs.Percent.{percent_encode}
use Rattle.percent_encoding.proofs.AsciiSetLemmas.{ascii_from_kept, outside_from_kept}
use Rattle.percent_encoding.proofs.PercentLemmas.{All-percent_encode, IsEscapeByte}
use Rattle.file_names.specs.FileNames.{decoded}
use Rattle.instance_urls.specs.Plans.{plan_text}
use Rattle.instance_urls.specs.Urls.{IsUrlByte, query_of, url_of}
use Rattle.instance_urls.specs.declared.plan_id.PlanId.{PlanId}
use Rattle.instance_urls.specs.declared.url.TheConstants.{ESCAPED}

-- the byte stands in a URL as it is
is_plain : ℕ → Bool
is_plain b = nat_le 33 b && nat_le b 126 && not (b == 34) && not (b == 92) && not (b == 60) && not (b == 62)

kept_or_plain : agree_below (λ b. contains ESCAPED b || is_plain b) (λ b. true) 128 ≡ true
unfolding is_plain
kept_or_plain = refl

url_byte : (b : ℕ) → is_plain b ≡ true → IsUrlByte b
unfolding is_plain
url_byte b h = record {
  visible = grind (arith, nat_tests);
  ascii = grind (arith, nat_tests);
  quote = λ e. grind (arith, nat_tests);
  backslash = λ e. grind (arith, nat_tests);
  less = λ e. grind (arith, nat_tests);
  greater = λ e. grind (arith, nat_tests);
}

plain_dot : is_plain 46 ≡ true
unfolding is_plain
plain_dot = refl

query_start : All IsUrlByte (codes "?hmr=")
unfolding is_plain
query_start =
    All-cons IsUrlByte 63 (codes "hmr=") (url_byte 63 refl) (All-cons IsUrlByte 104 (codes "mr=") (url_byte 104 refl)
    (All-cons IsUrlByte 109 (codes "r=") (url_byte 109 refl) (All-cons IsUrlByte 114 (codes "=") (url_byte 114 refl) (All-cons IsUrlByte 61 [] (url_byte 61 refl) (All-nil IsUrlByte)))))

plain_one : (x y : Bool) → x ≡ false → (x || y) ≡ true → y ≡ true
plain_one x y out h = sym (ap (λ z. z || y) out) ∙ h

kept_byte : (b : ℕ) → should_percent_encode ESCAPED b ≡ false → IsUrlByte b
kept_byte b kept =
    let small = ascii_from_kept ESCAPED b kept in
    url_byte b (plain_one (contains ESCAPED b) (is_plain b) (outside_from_kept ESCAPED b kept)
    (agree_below_at (λ x. contains ESCAPED x || is_plain x) (λ x. true) 128 b kept_or_plain small))

escape_byte : (b : ℕ) → IsEscapeByte b → IsUrlByte b
escape_byte b h = record {
  visible = grind arith;
  ascii = grind arith;
  quote = λ e. grind arith;
  backslash = λ e. grind arith;
  less = λ e. grind arith;
  greater = λ e. grind arith;
}

digit_byte : (d : ℕ) → d < 10 → IsUrlByte (48 + d)
digit_byte d small = record {
  visible = omega arith;
  ascii = omega arith;
  quote = λ e. omega arith;
  backslash = λ e. omega arith;
  less = λ e. omega arith;
  greater = λ e. omega arith;
}

more_digits : (n : ℕ) (ds : List ℕ) → 10 ≤ n → All IsUrlByte ds → All IsUrlByte (ds ++ ((48 + n % 10) ∷ []))
more_digits n ds large front =
    All-append IsUrlByte ds ((48 + n % 10) ∷ []) front (All-cons IsUrlByte (48 + n % 10) [] (digit_byte (n % 10) (omega arith)) (All-nil IsUrlByte))

number_bytes : (n : ℕ) → n < 2 ^ 64 → All IsUrlByte (decimal n)
number_bytes =
    decimal_by_steps (λ n ds. All IsUrlByte ds) (λ n small. All-cons IsUrlByte (48 + n) [] (digit_byte n small) (All-nil IsUrlByte)) more_digits

path_bytes : (path : List ℕ) → All IsUrlByte (percent_encode ESCAPED path)
path_bytes path = All-percent_encode IsUrlByte ESCAPED path kept_byte escape_byte

id_bytes : (id : PlanId) → id.page < 2 ^ 64 → id.plan < 2 ^ 64 → All IsUrlByte (plan_text id)
id_bytes id page plan =
    All-append IsUrlByte (decimal id.page) (46 ∷ decimal id.plan) (number_bytes id.page page)
    (All-cons IsUrlByte 46 (decimal id.plan) (url_byte 46 plain_dot) (number_bytes id.plan plan))

pub first_bytes : (name : List ℕ) → All IsUrlByte (url_of name None)
first_bytes name = All-append IsUrlByte (percent_encode ESCAPED (decoded name)) [] (path_bytes (decoded name)) (All-nil IsUrlByte)

pub later_bytes : (name : List ℕ) (id : PlanId) → id.page < 2 ^ 64 → id.plan < 2 ^ 64 → All IsUrlByte (url_of name (Some id))
later_bytes name id page plan =
    All-append IsUrlByte (percent_encode ESCAPED (decoded name)) (query_of (Some id)) (path_bytes (decoded name))
    (All-append IsUrlByte (codes "?hmr=") (plan_text id) query_start (id_bytes id page plan))
