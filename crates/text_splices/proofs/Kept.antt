-- Bytes outside of the ranges stay, in their order and on their lines.
use Rattle.std.proofs.Common.{◌≡◌, ℕ, ◌+◌, ◌-◌, ◌<◌, ◌≤◌, Bool, true, false, List, [], ◌∷◌, ◌++◌, length, get_or, take, drop, All, refl, sym, ap, ap₂, ◌∙◌, arith}
use Rattle.std.specs.Prelude.{nat_lt, cond}
use Rattle.std.specs.List.{count_by, slice_range}
use Rattle.std.proofs.lemmas.Bool.{cond-true, cond-false}
use Rattle.std.proofs.lemmas.Bool.Decides.{nat_tests}
use Rattle.std.proofs.lemmas.List.{drop-drop, get_or-append-add, get_or-drop, get_or-take, get_or_append_left, length-drop, length-take, take-append-le, take-take}
use Rattle.std.proofs.lemmas.List.Sums.{sum_by-append}
use Rattle.std.proofs.lemmas.List.Elements.{All-head, All-tail}
use Rattle.std.proofs.Math.Seq.{take-add, take-append-add}
use Rattle.text_splices.specs.declared.splice.Splice.{Splice}
use Rattle.text_splices.specs.Places.{IsOutside, KeepsLines, ends_line, place_from}
use Rattle.text_splices.specs.Splices.{AreRising, spliced_from}
use Rattle.text_splices.proofs.Rising.{Fits, Fits_from_test, spliced_fit}

length-slice_range : (text : List ℕ) (at start : ℕ) → at ≤ start → start ≤ length text → length (slice_range text at start) ≡ start - at
length-slice_range text at start rise within = length-take (start - at) (drop at text) ∙ omega (arith, length-drop at text)

abbrev Leaves : ℕ → Splice → Type 0
Leaves k s = s.start ≤ k → s.end ≤ k

before : (s : Splice) (k : ℕ) → nat_lt k s.start ≡ true → k < s.start
before s k h = grind (arith, nat_tests)

behind_start : (s : Splice) (k : ℕ) → nat_lt k s.start ≡ false → s.start ≤ k
behind_start s k h = grind (arith, nat_tests)

place_before : (at : ℕ) (s : Splice) (ss : List Splice) (k : ℕ) → nat_lt k s.start ≡ true → place_from at (s ∷ ss) k ≡ k - at
place_before at s ss k h = cond-true (nat_lt k s.start) (k - at) ((s.start - at) + (length s.by + place_from s.end ss k)) h

place_behind : (at : ℕ) (s : Splice) (ss : List Splice) (k : ℕ) → nat_lt k s.start ≡ false → place_from at (s ∷ ss) k ≡ (s.start - at) + (length s.by + place_from s.end ss k)
place_behind at s ss k h = cond-false (nat_lt k s.start) (k - at) ((s.start - at) + (length s.by + place_from s.end ss k)) h

-- a byte of the front
at_front : (text rest : List ℕ) (at start k : ℕ) → at ≤ k → k < start → start ≤ length text
    → get_or (slice_range text at start ++ rest) (k - at) 0 ≡ get_or text k 0
at_front text rest at start k low high within =
    let long = length-slice_range text at start (omega arith) within in
    get_or_append_left (slice_range text at start) rest 0 (k - at) (omega (arith, long)) ∙ get_or-take (start - at) (drop at text) (k - at) 0 (omega arith)
    ∙ get_or-drop at text (k - at) 0 ∙ ap (λ n. get_or text n 0) (omega arith)

-- a byte behind the front and what is put there
at_back : (text put rest : List ℕ) (at start n : ℕ) → at ≤ start → start ≤ length text
    → get_or (slice_range text at start ++ (put ++ rest)) ((start - at) + (length put + n)) 0 ≡ get_or rest n 0
at_back text put rest at start n rise within =
    let long = length-slice_range text at start rise within in
    ap (λ m. get_or (slice_range text at start ++ (put ++ rest)) (m + (length put + n)) 0) (sym long)
    ∙ get_or-append-add (slice_range text at start) (put ++ rest) (length put + n) 0 ∙ get_or-append-add put rest n 0

stays_at : (text : List ℕ) (at : ℕ) (s : Splice) (ss : List Splice) (k : ℕ) (t : Bool) → nat_lt k s.start ≡ t → Fits text at s → at ≤ k
    → (s.end ≤ k → get_or (spliced_from text s.end ss) (place_from s.end ss k) 0 ≡ get_or text k 0) → Leaves k s
    → get_or (slice_range text at s.start ++ (s.by ++ spliced_from text s.end ss)) (place_from at (s ∷ ss) k) 0 ≡ get_or text k 0
stays_at text at s ss k true h fit low more leaves =
    let short = before s k h in
    ap (λ n. get_or (slice_range text at s.start ++ (s.by ++ spliced_from text s.end ss)) n 0) (place_before at s ss k h)
    ∙ at_front text (s.by ++ spliced_from text s.end ss) at s.start k low short (omega (arith, fit.rise, fit.within))
stays_at text at s ss k false h fit low more leaves =
    ap (λ n. get_or (slice_range text at s.start ++ (s.by ++ spliced_from text s.end ss)) n 0) (place_behind at s ss k h)
    ∙ at_back text s.by (spliced_from text s.end ss) at s.start (place_from s.end ss k) fit.from (omega (arith, fit.rise, fit.within))
    ∙ more (leaves (behind_start s k h))

-- a byte outside of the ranges stays
pub stays : (text : List ℕ) (at : ℕ) (ss : List Splice) (k : ℕ) → AreRising text at ss → IsOutside ss k → at ≤ k
    → get_or (spliced_from text at ss) (place_from at ss k) 0 ≡ get_or text k 0
stays text at [] k rise out low = get_or-drop at text (k - at) 0 ∙ ap (λ n. get_or text n 0) (omega arith)
stays text at (s ∷ ss) k rise out low =
    ap (λ l. get_or l (place_from at (s ∷ ss) k) 0) (spliced_fit text at s ss rise.0)
    ∙ stays_at text at s ss k (nat_lt k s.start) refl (Fits_from_test text at s rise.0) low
    (λ far. stays text s.end ss k rise.1 (All-tail (Leaves k) s ss out) far) (All-head (Leaves k) s ss out)

ordered_at : (text : List ℕ) (at : ℕ) (s : Splice) (ss : List Splice) (j k : ℕ) (t u : Bool) → nat_lt j s.start ≡ t → nat_lt k s.start ≡ u
    → Fits text at s → at ≤ j → j < k → (s.end ≤ j → place_from s.end ss j < place_from s.end ss k) → Leaves j s
    → place_from at (s ∷ ss) j < place_from at (s ∷ ss) k
ordered_at text at s ss j k true true h i fit low less more leaves = omega (arith, place_before at s ss j h, place_before at s ss k i)
ordered_at text at s ss j k true false h i fit low less more leaves =
    omega (arith, place_before at s ss j h, place_behind at s ss k i, before s j h)
ordered_at text at s ss j k false true h i fit low less more leaves = absurd (omega (arith, behind_start s j h, before s k i))
ordered_at text at s ss j k false false h i fit low less more leaves =
    omega (arith, place_behind at s ss j h, place_behind at s ss k i, more (leaves (behind_start s j h)))

-- such bytes keep their order
pub ordered : (text : List ℕ) (at : ℕ) (ss : List Splice) (j k : ℕ) → AreRising text at ss → IsOutside ss j → IsOutside ss k → at ≤ j → j < k
    → place_from at ss j < place_from at ss k
ordered text at [] j k rise out beside low less = omega arith
ordered text at (s ∷ ss) j k rise out beside low less =
    ordered_at text at s ss j k (nat_lt j s.start) (nat_lt k s.start) refl refl (Fits_from_test text at s rise.0) low less
    (λ far. ordered text s.end ss j k rise.1 (All-tail (Leaves j) s ss out) (All-tail (Leaves k) s ss beside) far less) (All-head (Leaves j) s ss out)

abbrev lines : List ℕ → ℕ
lines text = count_by ends_line text

lines-append : (xs ys : List ℕ) → lines (xs ++ ys) ≡ lines xs + lines ys
lines-append xs ys = sum_by-append (λ b. cond (ends_line b) 1 0) xs ys

parted : (at mid end : ℕ) → at ≤ mid → mid ≤ end → end - at ≡ (mid - at) + (end - mid)
parted at mid end low high = omega arith

drop-drop_at : (at mid : ℕ) (text : List ℕ) → at ≤ mid → drop (mid - at) (drop at text) ≡ drop mid text
drop-drop_at at mid text low = drop-drop (mid - at) at text ∙ ap (λ n. drop n text) (omega arith)

slice_range_parts : (text : List ℕ) (at mid end : ℕ) → at ≤ mid → mid ≤ end → slice_range text at end ≡ slice_range text at mid ++ slice_range text mid end
slice_range_parts text at mid end low high =
    ap (λ n. take n (drop at text)) (parted at mid end low high) ∙ take-add (mid - at) (end - mid) (drop at text)
    ∙ ap (λ l. slice_range text at mid ++ take (end - mid) l) (drop-drop_at at mid text low)

lines_at_front : (text rest : List ℕ) (at start k : ℕ) → at ≤ k → k < start → start ≤ length text
    → take (k - at) (slice_range text at start ++ rest) ≡ slice_range text at k
lines_at_front text rest at start k low high within =
    let long = length-slice_range text at start (omega arith) within in
    take-append-le (k - at) (slice_range text at start) rest (omega (arith, long)) ∙ take-take (k - at) (start - at) (drop at text) (omega arith)

lines_at_back : (text put rest : List ℕ) (at start n : ℕ) → at ≤ start → start ≤ length text
    → take ((start - at) + (length put + n)) (slice_range text at start ++ (put ++ rest)) ≡ slice_range text at start ++ (put ++ take n rest)
lines_at_back text put rest at start n rise within =
    let long = length-slice_range text at start rise within in
    ap (λ m. take (m + (length put + n)) (slice_range text at start ++ (put ++ rest))) (sym long)
    ∙ take-append-add (slice_range text at start) (put ++ rest) (length put + n) ∙ ap (λ l. slice_range text at start ++ l) (take-append-add put rest n)

lined_at : (text : List ℕ) (at : ℕ) (s : Splice) (ss : List Splice) (k : ℕ) (t : Bool) → nat_lt k s.start ≡ t → Fits text at s → at ≤ k
    → (s.end ≤ k → lines (take (place_from s.end ss k) (spliced_from text s.end ss)) ≡ lines (slice_range text s.end k)) → Leaves k s → KeepsLines text s
    → lines (take (place_from at (s ∷ ss) k) (slice_range text at s.start ++ (s.by ++ spliced_from text s.end ss))) ≡ lines (slice_range text at k)
lined_at text at s ss k true h fit low more leaves keeps =
    let short = before s k h in
    ap (λ n. lines (take n (slice_range text at s.start ++ (s.by ++ spliced_from text s.end ss)))) (place_before at s ss k h)
    ∙ ap lines (lines_at_front text (s.by ++ spliced_from text s.end ss) at s.start k low short (omega (arith, fit.rise, fit.within)))
lined_at text at s ss k false h fit low more leaves keeps =
    let far = leaves (behind_start s k h) in
    let front = slice_range text at s.start in
    let rest = take (place_from s.end ss k) (spliced_from text s.end ss) in
    ap (λ n. lines (take n (front ++ (s.by ++ spliced_from text s.end ss)))) (place_behind at s ss k h)
    ∙ ap lines (lines_at_back text s.by (spliced_from text s.end ss) at s.start (place_from s.end ss k) fit.from (omega (arith, fit.rise, fit.within)))
    ∙ lines-append front (s.by ++ rest) ∙ ap (λ n. lines front + n) (lines-append s.by rest ∙ ap₂ (λ m n. m + n) keeps (more far)
    ∙ sym (lines-append (slice_range text s.start s.end) (slice_range text s.end k)) ∙ ap lines (sym (slice_range_parts text s.start s.end k fit.rise far)))
    ∙ sym (lines-append front (slice_range text s.start k)) ∙ ap lines (sym (slice_range_parts text at s.start k fit.from (behind_start s k h)))

-- and their lines
pub lined : (text : List ℕ) (at : ℕ) (ss : List Splice) (k : ℕ) → AreRising text at ss → IsOutside ss k → at ≤ k → All (KeepsLines text) ss
    → lines (take (place_from at ss k) (spliced_from text at ss)) ≡ lines (slice_range text at k)
lined text at [] k rise out low keep = refl
lined text at (s ∷ ss) k rise out low keep =
    ap (λ l. lines (take (place_from at (s ∷ ss) k) l)) (spliced_fit text at s ss rise.0)
    ∙ lined_at text at s ss k (nat_lt k s.start) refl (Fits_from_test text at s rise.0) low
    (λ far. lined text s.end ss k rise.1 (All-tail (Leaves k) s ss out) far (All-tail (KeepsLines text) s ss keep)) (All-head (Leaves k) s ss out) (All-head (KeepsLines text) s ss keep)
