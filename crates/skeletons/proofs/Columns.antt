-- The line and the column of a place are those of the module language.
use Rattle.std.proofs.Common.{◌≡◌, ℕ, zero, suc, ◌+◌, ◌-◌, ◌<◌, ◌≤◌, Bool, true, false, cond, List, [], ◌∷◌, length, take, get_or, min, refl, sym, ap, ◌∙◌, arith}
use Rattle.std.specs.Prelude.{◌==◌, nat_le}
use Rattle.std.specs.List.{count_by}
use Rattle.std.proofs.lemmas.Bool.{eq-eqb}
use Rattle.std.proofs.lemmas.Bool.Decides.{nat_tests}
use Rattle.std.proofs.lemmas.List.{get_or-take, length-take}
use Rattle.std.proofs.lemmas.List.Sums.{sum_by-cons}
use Rattle.module_semantics.specs.Lines.{column_of, line_feeds, line_of, since_line_feed}
use Rattle.hmr_types.specs.declared.analysis.FaultWord.{FaultWord}
use Rattle.hmr_types.specs.declared.analysis.TextFault.{TextFault}
use Rattle.es_scan.specs.declared.fault.Fault.{Fault}
use Rattle.skeletons.specs.Refusing.{fault_word, place_in, refusal}
use Rattle.es_scan.specs.Places.{ends_line, lines_before}

feeds_step : (t : Bool) (m n : ℕ) → m ≡ n → cond t (suc m) m ≡ cond t 1 0 + n
feeds_step true m n h = omega (arith, h)
feeds_step false m n h = omega (arith, h)

feeds : (xs : List ℕ) → line_feeds xs ≡ count_by ends_line xs
unfolding line_feeds
feeds [] = refl
feeds (b ∷ bs) = feeds_step (b == 10) (line_feeds bs) (count_by ends_line bs) (feeds bs) ∙ sym (sum_by-cons (λ x. cond (ends_line x) 1 0) b bs)

pub line_is : (text : List ℕ) (at line : ℕ) → line ≡ 1 + lines_before text at → line ≡ line_of text at
line_is text at line h = let same = feeds (take at text) in omega (arith, h, same)

-- what stands behind the last line feed, where there is none
whole : (n : ℕ) (xs : List ℕ) → ((k : ℕ) → k < length xs → get_or xs k 0 ≡ 10 → ⊥) → since_line_feed n xs ≡ n + length xs
unfolding since_line_feed
whole n [] none = omega arith
whole n (b ∷ bs) none =
    let other : (b == 10) ≡ false = grind (arith, nat_tests, none 0) in
    rw other (whole (suc n) bs (λ k h e. none (suc k) (omega (arith, h)) e) ∙ sum) where
      sum : suc n + length bs ≡ n + suc (length bs)
      sum = omega arith

part_step : (n c : ℕ) (bs : List ℕ) (t : Bool) → since_line_feed 0 bs ≡ c → since_line_feed (suc n) bs ≡ c → cond t (since_line_feed 0 bs) (since_line_feed (suc n) bs) ≡ c
part_step n c bs true h g = h
part_step n c bs false h g = g

-- the same where there is one at i, and none behind it
part : (n c i : ℕ) (xs : List ℕ) → suc (i + c) ≡ length xs → get_or xs i 0 ≡ 10 → ((k : ℕ) → length xs ≤ k + c → k < length xs → get_or xs k 0 ≡ 10 → ⊥) → since_line_feed n xs ≡ c
unfolding since_line_feed
part n c i [] size feed none = absurd (omega (arith, size))
part n c zero (b ∷ bs) size feed none =
    let is : (b == 10) ≡ true = eq-eqb b 10 feed in
    let many : c ≡ length bs = omega (arith, size) in
    rw is (whole 0 bs (λ k h e. none (suc k) (omega (arith, h, many)) (omega (arith, h)) e) ∙ sum many) where
      sum : c ≡ length bs → 0 + length bs ≡ c
      sum h = omega (arith, h)
part n c (suc i) (b ∷ bs) size feed none =
    let less : suc (i + c) ≡ length bs = omega (arith, size) in
    let later = λ (k : ℕ) (h : length bs ≤ k + c) (l : k < length bs) (e : get_or bs k 0 ≡ 10). none (suc k) (omega (arith, h)) (omega (arith, l)) e in
    part_step n c bs (b == 10) (part 0 c i bs less feed later) (part (suc n) c i bs less feed later)

by_place : (text : List ℕ) (at c : ℕ) (t : Bool) → nat_le c at ≡ t → at ≤ length text → 1 ≤ c → c ≤ at + 1 → (c ≤ at → get_or text (at - c) 0 ≡ 10)
    → ((k : ℕ) → at < k + c → k < at → get_or text k 0 ≡ 10 → ⊥) → since_line_feed 0 (take at text) ≡ c - 1
by_place text at c true is within low high feed none =
    let inside : c ≤ at = search (arith, is) in
    let size : length (take at text) ≡ at = omega (arith, length-take at text, within) in
    let there = get_or-take at text (at - c) 0 (omega (arith, low, inside)) in
    part 0 (c - 1) (at - c) (take at text) (omega (arith, size, low, inside)) (there ∙ feed inside)
    (λ k h l e. let short : k < at = omega (arith, l, size) in none k (omega (arith, h, size, low)) short (sym (get_or-take at text k 0 short) ∙ e))
by_place text at c false is within low high feed none =
    let outside : at < c = search (arith, is) in
    let size : length (take at text) ≡ at = omega (arith, length-take at text, within) in
    whole 0 (take at text) (λ k l e. let short : k < at = omega (arith, l, size) in none k (omega (arith, outside)) short (sym (get_or-take at text k 0 short) ∙ e))
    ∙ sum size outside where
      sum : length (take at text) ≡ at → at < c → 0 + length (take at text) ≡ c - 1
      sum s o = omega (arith, s, o, high)

pub column_is : (text : List ℕ) (at c : ℕ) → at ≤ length text → 1 ≤ c → c ≤ at + 1 → (c ≤ at → get_or text (at - c) 0 ≡ 10)
    → ((k : ℕ) → at < k + c → k < at → get_or text k 0 ≡ 10 → ⊥) → c ≡ column_of text at
column_is text at c within low high feed none =
    let since = by_place text at c (nat_le c at) refl within low high feed none in
    omega (arith, since, low)

abbrev fault_there : ℕ → ℕ → FaultWord → TextFault
fault_there line col word = record { line = line; col = col; word = word }

-- the fault that is told, from the place of the scan's
pub refusal_is : (text : List ℕ) (f : Fault) (at line col l c : ℕ) (w : FaultWord) → at ≡ place_in text f → line ≡ line_of text at → col ≡ column_of text at → l ≡ min line 65000 → c ≡ min col 65000 → w ≡ fault_word f.kind
    → fault_there l c w ≡ refusal text f
refusal_is text f at line col l c w is_at is_line is_col is_l is_c is_w =
    ap (λ x. fault_there x c w) (is_l ∙ ap (λ n. min n 65000) (is_line ∙ ap (line_of text) is_at))
    ∙ ap (λ x. fault_there (min (line_of text (place_in text f)) 65000) x w) (is_c ∙ ap (λ n. min n 65000) (is_col ∙ ap (column_of text) is_at))
    ∙ ap (fault_there (min (line_of text (place_in text f)) 65000) (min (column_of text (place_in text f)) 65000)) is_w
