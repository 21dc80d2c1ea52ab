-- The number that a text is in decimal, as its digits tell it.
use Rattle.std.proofs.Common.{◌≡◌, ℕ, ◌+◌, ◌/◌, ◌%◌, ◌^◌, ◌<◌, ◌≤◌, Bool, true, false, List, [], ◌∷◌, ◌++◌, Option, Some, None, IfSome, length, refl, sym, ap, ap₂, ◌∙◌, arith}
use Rattle.std.specs.Prelude.{decimal, nat_le, bytes_eq, if◌then◌else◌}
use Rattle.std.specs.List.{after_first, before_first, fold, position_or_len}
use Rattle.std.proofs.lemmas.Bool.{and_from, and_parts, cond-true, cond-false, le-leb, leb-true}
use Rattle.std.proofs.lemmas.Fmt.{decimal_by_steps, decimal_nonempty}
use Rattle.std.proofs.lemmas.List.{drop_all}
use Rattle.std.proofs.lemmas.Slice.Eq.{bytes_eq-Decides}
use Rattle.hmr_types.specs.declared.limits.TheConstants.{LARGEST_NUMBER}
use Rattle.instance_urls.specs.Plans.{both, digits_value, is_dot, is_number, number_of, plan_of, with_digit}

fold_more : (ds : List ℕ) (v b : ℕ) → fold with_digit v (ds ++ b ∷ []) ≡ with_digit (fold with_digit v ds) b
fold_more [] v b = refl
fold_more (d ∷ ds) v b = fold_more ds (with_digit v d) b

abbrev Writes : ℕ → List ℕ → Type 0
Writes n ds = digits_value ds ≡ n

one_digit : (n : ℕ) → n < 10 → Writes n ((48 + n) ∷ [])
one_digit n h = omega arith

last_digit : (n : ℕ) (ds : List ℕ) → 10 ≤ n → Writes (n / 10) ds → Writes n (ds ++ ((48 + n % 10) ∷ []))
last_digit n ds h w = fold_more ds 0 (48 + n % 10) ∙ omega (arith, w)

value-decimal : (n : ℕ) → n < 2 ^ 64 → digits_value (decimal n) ≡ n
value-decimal = decimal_by_steps Writes one_digit last_digit

is_number_from : (text : List ℕ) (n : ℕ) → text ≡ decimal n → n ≤ LARGEST_NUMBER → is_number text n ≡ true
is_number_from text n is small =
    and_from (bytes_eq text (decimal n)) (nat_le n LARGEST_NUMBER) ((bytes_eq-Decides text (decimal n)).1 is) (le-leb n LARGEST_NUMBER small)

number_from : (text : List ℕ) (m n : ℕ) → m ≡ n → is_number text n ≡ true → (if is_number text m then Some m else None) ≡ Some n
number_from text m n e holds =
    ap (λ k. if is_number text k then Some k else None) e ∙ cond-true (is_number text n) (Some n) None holds

there : (text : List ℕ) (n : ℕ) → text ≡ decimal n → n ≤ LARGEST_NUMBER → number_of text ≡ Some n
there text n is small =
    number_from text (digits_value text) n (ap digits_value is ∙ value-decimal n (omega arith)) (is_number_from text n is small)

abbrev Each : List ℕ → Option ℕ → Type 0
Each text r = (n : ℕ) → n ≤ LARGEST_NUMBER → text ≡ decimal n → r ≡ Some n

not_there : (text : List ℕ) (t : Bool) → is_number text (digits_value text) ≡ t → Each text None → None ≡ number_of text
not_there text true h each =
    let parts = and_parts (bytes_eq text (decimal (digits_value text))) (nat_le (digits_value text) LARGEST_NUMBER) h in
    let some = each (digits_value text) (leb-true (digits_value text) LARGEST_NUMBER parts.1) ((bytes_eq-Decides text (decimal (digits_value text))).0 parts.0) in
    cc
not_there text false h each = sym (cond-false (is_number text (digits_value text)) (Some (digits_value text)) None h)

pub number_is : (text : List ℕ) (r : Option ℕ) → IfSome r (λ n. (text ≡ decimal n) × (n ≤ LARGEST_NUMBER)) → Each text r → r ≡ number_of text
number_is text None written each = not_there text (is_number text (digits_value text)) refl each
number_is text (Some n) written each = sym (there text n written.0 written.1)

no_plan : (x : Option ℕ) → both x None ≡ None
no_plan None = refl
no_plan (Some n) = refl

no_number : number_of [] ≡ None
no_number = sym (number_is [] None tt (λ n small is. absurd (omega (arith, ap length is, decimal_nonempty n (omega arith)))))

-- a text without a dot is no plan's
pub dotless : (text : List ℕ) → position_or_len is_dot text ≡ length text → None ≡ plan_of text
unfolding plan_of
dotless text none =
    let rest : after_first is_dot text ≡ [] = drop_all (position_or_len is_dot text + 1) text (omega (arith, none)) in
    sym (ap (λ l. both (number_of (before_first is_dot text)) (number_of l)) rest ∙ ap (both (number_of (before_first is_dot text))) no_number
    ∙ no_plan (number_of (before_first is_dot text)))

pub dotted : (text page plan : List ℕ) (m n : Option ℕ) → page ≡ before_first is_dot text → plan ≡ after_first is_dot text → m ≡ number_of page → n ≡ number_of plan
    → both m n ≡ plan_of text
unfolding plan_of
dotted text page plan m n front back first second = ap₂ both (first ∙ ap number_of front) (second ∙ ap number_of back)
