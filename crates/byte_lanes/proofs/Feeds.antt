-- Line feeds of a text in two parts, and of a block by its mask.
use Rattle.std.proofs.Common.{◌≡◌, ℕ, ◌+◌, ◌≤◌, ◌==◌, Bool, true, false, cond, suc, List, [], ◌∷◌, ◌++◌, map, length, drop, refl, sym, ap, ◌∙◌, arith}
use Rattle.std.proofs.lemmas.Simd.{chunk-drop, length-chunk, ones-mask_l}
use Rattle.std.proofs.lemmas.List.Sums.{count_by-le-length}
use Rattle.std.proofs.lemmas.List.Recursion.{is_count_by}
use Rattle.std.specs.Int.RustNames.{count_ones}
use Rattle.std.specs.List.{count_by}
use lib.Lanes.{chunk, mask_l}
use Rattle.module_semantics.specs.Lines.{line_feeds}
use Rattle.byte_lanes.specs.Classes.{is_newline}

pub line_feeds-append : (xs ys : List ℕ) → line_feeds (xs ++ ys) ≡ line_feeds xs + line_feeds ys
unfolding line_feeds
line_feeds-append [] ys = omega arith
line_feeds-append (x ∷ xs) ys = one (x == 10) _ _ _ (line_feeds-append xs ys)
  where
    one : (b : Bool) (m n k : ℕ) → m ≡ n + k → cond b (suc m) m ≡ cond b (suc n) n + k
    one true m n k e = omega arith
    one false m n k e = omega arith

counted : (xs : List ℕ) → line_feeds xs ≡ count_by is_newline xs
unfolding line_feeds is_newline
counted xs = is_count_by line_feeds is_newline refl (λ x xs. ap (λ n. cond (x == 10) n (line_feeds xs)) (omega arith)) xs

-- no more line feeds than bytes
pub within : (xs : List ℕ) → line_feeds xs ≤ length xs
within xs = omega (arith, counted xs, count_by-le-length is_newline xs)

-- the line feeds from a place on are those of the block there, by its mask, and those after it
pub block : (d : List ℕ) (i n : ℕ) → i + n ≤ length d
    → (line_feeds (drop i d) ≡ count_ones (mask_l (map is_newline (chunk i n d))) + line_feeds (drop (i + n) d)) × (count_ones (mask_l (map is_newline (chunk i n d))) ≤ n)
block d i n room =
    let c = chunk i n d in
    let ones = ones-mask_l is_newline c in (
      ap line_feeds (chunk-drop i n d) ∙ line_feeds-append c (drop (i + n) d) ∙ ap (λ k. k + line_feeds (drop (i + n) d)) (counted c ∙ sym ones),
      omega (arith, ones, count_by-le-length is_newline c, length-chunk i n d room),
    )
