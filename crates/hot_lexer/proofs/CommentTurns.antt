-- The turns of the search for the end of a comment.
use Rattle.std.proofs.Common.{◌≡◌, ℕ, zero, suc, ◌+◌, ◌<◌, ◌≤◌, List, [], ◌∷◌, drop, length, get_or, Bool, true, false, not, cond, ◌&&◌, ◌==◌, Some, None, position, Result, Ok, Err, refl, arith, sym, ap, ◌∙◌}
use Rattle.std.proofs.Math.Seq.{drop-cons}
use Rattle.std.proofs.lemmas.List.{drop-drop, drop_all, length-drop, get_or-drop}
use Rattle.std.specs.List.{position_or_len}
use Rattle.byte_lanes.specs.Classes.{is_star}
use Rattle.module_semantics.specs.Lexing.{begins, comment_from, lex_fault}
use Rattle.module_semantics.specs.declared.tokens.LexFault.{LexFault}
use Rattle.module_semantics.specs.declared.tokens.LexKind.TheVariants.{OpenComment}
use Rattle.hot_lexer.proofs.Runs.{found, not_found}

plain_step : (star next : Bool) (at n k m : ℕ) (xs : List ℕ) (end : Result ℕ LexFault) → suc k ≤ cond (not star) (1 + m) 0
    → (k ≤ m → comment_from at (suc n) xs ≡ comment_from at (suc n + k) (drop k xs)) → cond (star && next) end (comment_from at (suc n) xs) ≡ comment_from at (n + suc k) (drop k xs)
plain_step true next at n k m xs end h ih = absurd (omega (arith, h))
plain_step false next at n k m xs end h ih = ih (omega (arith, h)) ∙ ap (λ i. comment_from at i (drop k xs)) (omega arith)

-- no comment ends before the first star
to_star : (at n k : ℕ) (xs : List ℕ) → k ≤ position_or_len is_star xs → comment_from at n xs ≡ comment_from at (n + k) (drop k xs)
unfolding comment_from is_star
to_star at n zero xs h = ap (λ i. comment_from at i xs) (omega arith)
to_star at n (suc k) [] h = absurd (omega (arith, h))
to_star at n (suc k) (x ∷ xs) h = plain_step (x == 42) (begins 47 xs) at n k (position_or_len is_star xs) xs _ h (to_star at (suc n) k xs)

-- without a star it has no end
pub unended : (at n : ℕ) (xs : List ℕ) → position is_star xs ≡ None → comment_from at n xs ≡ Err (lex_fault OpenComment at)
unfolding comment_from
unended at n xs none =
    let all = not_found is_star xs none in
    to_star at n (length xs) xs (omega (arith, all)) ∙ ap (comment_from at (n + length xs)) (drop_all (length xs) xs (omega arith))

at_star : (at n i : ℕ) (b : Bool) (bs : List ℕ) → i < length bs → is_star (get_or bs i 0) ≡ true → begins 47 (drop (suc i) bs) ≡ b
    → comment_from at n (drop i bs) ≡ cond b (Ok (suc (suc n))) (comment_from at (suc n) (drop (suc i) bs))
unfolding comment_from is_star
at_star at n i b bs h star is = rw (drop-cons bs i 0 h, star, is) refl

-- from one star to what follows the next
pub star_turned : (at start k : ℕ) (b : Bool) (bs : List ℕ) → position is_star (drop start bs) ≡ Some k → begins 47 (drop (start + (k + 1)) bs) ≡ b
    → (start + (k + 1) ≤ length bs) × (comment_from at (suc (suc start)) (drop start bs) ≡ cond b (Ok (start + (k + 1) + 3)) (comment_from at (suc (suc (start + (k + 1)))) (drop (start + (k + 1)) bs)))
star_turned at start k b bs some is =
    let there = found is_star (drop start bs) k some in
    let inside : start + k < length bs = omega (arith, there.0, length-drop start bs) in
    let star : is_star (get_or bs (start + k) 0) ≡ true = ap is_star (sym (get_or-drop start bs k 0)) ∙ there.1 in
    let next : suc (start + k) ≡ start + (k + 1) = omega arith in
    let more : suc (suc (suc start) + k) ≡ suc (suc (start + (k + 1))) = omega arith in
    let long : suc (suc (suc (suc start) + k)) ≡ start + (k + 1) + 3 = omega arith in (
      omega (arith, inside),
      to_star at (suc (suc start)) k (drop start bs) (omega (arith, there.2)) ∙ ap (comment_from at (suc (suc start) + k)) (drop-drop k start bs)
          ∙ at_star at (suc (suc start) + k) (start + k) b bs inside star (ap (λ i. begins 47 (drop i bs)) next ∙ is)
          ∙ ap (λ i. cond b (Ok (suc (suc (suc (suc start) + k)))) (comment_from at (suc (suc (suc start) + k)) (drop i bs))) next
          ∙ ap (λ i. cond b (Ok (suc (suc (suc (suc start) + k)))) (comment_from at i (drop (start + (k + 1)) bs))) more
          ∙ ap (λ i. cond b (Ok i) (comment_from at (suc (suc (start + (k + 1)))) (drop (start + (k + 1)) bs))) long,
    )
