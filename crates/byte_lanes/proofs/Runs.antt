-- How many bytes stand before the first that is sought, seen a block at a time through the block's mask.
use Rattle.std.proofs.Common.{◌≡◌, ℕ, ◌+◌, ◌*◌, ◌<◌, ◌≤◌, Bool, true, false, not, cond, eqb, List, [], ◌∷◌, map, length, drop, refl, sym, ap, ◌∙◌, arith}
use Rattle.std.proofs.lemmas.Simd.{chunk-drop, length-chunk, leading_from_mask_l, trailing_mask_l}
use Rattle.std.proofs.lemmas.List.Folds.{prefix_len-append}
use Rattle.std.proofs.lemmas.List.Sums.{prefix_len-le-length}
use Rattle.std.proofs.lemmas.Bool.{eq-eqb, ne_eqb}
use Rattle.std.specs.List.{position_or_len}
use lib.Lanes.{chunk, mask_l}
use lib.Count.{count_trailing_zeros}

none_sought : (b : Bool) (n l m : ℕ) → n ≤ l → cond (not b) (1 + n) 0 ≡ 1 + l → (n ≡ l → m ≡ 0) → cond b 1 0 + 2 * m ≡ 0
none_sought true n l m le e ih = let no : ⊥ = omega arith in absurd no
none_sought false n l m le e ih = let z = ih (omega arith) in omega arith

module _ (p : ℕ → Bool) where
  all_before : (xs : List ℕ) → position_or_len p xs ≡ length xs → mask_l (map p xs) ≡ 0
  all_before [] e = refl
  all_before (x ∷ xs) e = none_sought (p x) _ (length xs) _ (prefix_len-le-length (λ y. not (p y)) xs) (omega arith) (all_before xs)

  split : (d : List ℕ) (i n : ℕ) → position_or_len p (drop i d) ≡ cond (eqb (position_or_len p (chunk i n d)) (length (chunk i n d))) (length (chunk i n d) + position_or_len p (drop (i + n) d)) (position_or_len p (chunk i n d))
  split d i n = ap (position_or_len p) (chunk-drop i n d) ∙ prefix_len-append (λ x. not (p x)) (chunk i n d) (drop (i + n) d)

  -- no byte of the block is sought
  pub run_through : (d : List ℕ) (i n : ℕ) → i + n ≤ length d → mask_l (map p (chunk i n d)) ≡ 0 → position_or_len p (drop i d) ≡ n + position_or_len p (drop (i + n) d)
  run_through d i n room none =
      let c = chunk i n d in
      split d i n ∙ ap (λ b. cond b (length c + position_or_len p (drop (i + n) d)) (position_or_len p c)) (eq-eqb _ _ (leading_from_mask_l p c none))
      ∙ ap (λ k. k + position_or_len p (drop (i + n) d)) (length-chunk i n d room)

  -- the lowest bit of the block is the first byte that is sought
  pub run_stops : (d : List ℕ) (i n : ℕ) → i + n ≤ length d → n ≤ 64 → 0 < mask_l (map p (chunk i n d)) → position_or_len p (drop i d) ≡ count_trailing_zeros 64 (mask_l (map p (chunk i n d)))
  run_stops d i n room short some =
      let c = chunk i n d in
      split d i n ∙ ap (λ b. cond b (length c + position_or_len p (drop (i + n) d)) (position_or_len p c)) (ne_eqb _ _ (λ (e : position_or_len p c ≡ length c). omega (arith, all_before c e)))
      ∙ sym (trailing_mask_l p 64 c (omega (arith, length-chunk i n d room)) some)
