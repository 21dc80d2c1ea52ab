-- What the first line feed of bytes, or that there is none, tells of the lines that they begin.
use Rattle.std.proofs.Common.{◌≡◌, ℕ, ◌+◌, ◌<◌, ◌==◌, Bool, true, false, not, cond, suc, List, [], ◌∷◌, length, drop, Some, None, position, refl, sym, ap, ◌∙◌, arith}
use Rattle.std.proofs.lemmas.Bool.{ltb-true, ltb-false}
use Rattle.std.proofs.lemmas.List.Sums.{prefix_len-le-length}
use Rattle.std.proofs.lemmas.Option.{cond_some, none-some}
use Rattle.std.specs.List.{position_or_len}
use Rattle.module_semantics.specs.Lines.{line_feeds}
use Rattle.byte_lanes.specs.Classes.{is_newline}
use Rattle.byte_lanes.specs.Starts.{starts_after}

-- the lines that begin after the first line feed of the bytes
abbrev rest : ℕ → ℕ → List ℕ → List ℕ
rest at n xs = suc (at + n) ∷ starts_after (suc (at + n)) (drop (suc n) xs)

starts_step : (b : Bool) (at r : ℕ) (x : ℕ) (xs : List ℕ) → (r < length xs → starts_after (suc at) xs ≡ rest (suc at) r xs) → cond (not b) (1 + r) 0 < suc (length xs)
    → cond b (suc at ∷ starts_after (suc at) xs) (starts_after (suc at) xs) ≡ rest at (cond (not b) (1 + r) 0) (x ∷ xs)
starts_step true at r x xs ih lt = ap (λ k. k ∷ starts_after k xs) (omega arith)
starts_step false at r x xs ih lt =
    let place : suc (suc at + r) ≡ suc (at + (1 + r)) = omega arith in
    let after : suc (suc r) ≡ suc (1 + r) = omega arith in
    ih (omega arith) ∙ ap (λ k. k ∷ starts_after k (drop (suc r) xs)) place ∙ ap (λ j. suc (at + (1 + r)) ∷ starts_after (suc (at + (1 + r))) (drop j (x ∷ xs))) after

starts_go_on : (at : ℕ) (xs : List ℕ) → position_or_len is_newline xs < length xs → starts_after at xs ≡ rest at (position_or_len is_newline xs) xs
unfolding starts_after
starts_go_on at [] lt = absurd (omega arith)
starts_go_on at (x ∷ xs) lt = starts_step (is_newline x) at (position_or_len is_newline xs) x xs (starts_go_on (suc at) xs) lt

none_step : (b : Bool) (at r : ℕ) (xs : List ℕ) → (r ≡ length xs → starts_after (suc at) xs ≡ []) → cond (not b) (1 + r) 0 ≡ suc (length xs)
    → cond b (suc at ∷ starts_after (suc at) xs) (starts_after (suc at) xs) ≡ []
none_step true at r xs ih e = absurd (omega arith)
none_step false at r xs ih e = ih (omega arith)

no_starts : (at : ℕ) (xs : List ℕ) → position_or_len is_newline xs ≡ length xs → starts_after at xs ≡ []
unfolding starts_after
no_starts at [] e = refl
no_starts at (x ∷ xs) e = none_step (is_newline x) at (position_or_len is_newline xs) xs (no_starts (suc at) xs) e

starts_are_counted : (b : Bool) (at : ℕ) (xs : List ℕ) (n : ℕ) → length (starts_after (suc at) xs) ≡ n → length (cond b (suc at ∷ starts_after (suc at) xs) (starts_after (suc at) xs)) ≡ cond b (suc n) n
starts_are_counted true at xs n e = omega (arith, e)
starts_are_counted false at xs n e = e

-- as many lines begin in the bytes as they have line feeds
as_many : (at : ℕ) (xs : List ℕ) → length (starts_after at xs) ≡ line_feeds xs
unfolding starts_after line_feeds is_newline
as_many at [] = refl
as_many at (x ∷ xs) = starts_are_counted (x == 10) at xs (line_feeds xs) (as_many (suc at) xs)

cond_none : {A : Type 0} (b : Bool) (x : A) → cond b (Some x) None ≡ None → b ≡ false
cond_none true x e = absurd (none-some x (sym e))
cond_none false x e = refl

-- what stands after the first line feed
pub go_on : (at : ℕ) (xs : List ℕ) (n : ℕ) → position is_newline xs ≡ Some n
    → (n < length xs) × (starts_after at xs ≡ (at + (n + 1)) ∷ starts_after (at + (n + 1)) (drop (n + 1) xs)) × (line_feeds xs ≡ suc (line_feeds (drop (n + 1) xs)))
go_on at xs n e =
    let there = cond_some _ _ _ e in
    let inside : position_or_len is_newline xs < length xs = ltb-true _ _ there.0 in
    let place : suc (at + n) ≡ at + (n + 1) = omega arith in
    let after : suc n ≡ n + 1 = omega arith in
    let starts : starts_after at xs ≡ (at + (n + 1)) ∷ starts_after (at + (n + 1)) (drop (n + 1) xs) =
    starts_go_on at xs inside ∙ ap (λ k. rest at k xs) there.1 ∙ ap (λ k. k ∷ starts_after k (drop (suc n) xs)) place
    ∙ ap (λ j. (at + (n + 1)) ∷ starts_after (at + (n + 1)) (drop j xs)) after in
    (omega (arith, inside, there.1), starts, sym (as_many at xs) ∙ ap length starts ∙ ap suc (as_many (at + (n + 1)) (drop (n + 1) xs)))

-- there is no line feed
pub end : (at : ℕ) (xs : List ℕ) → position is_newline xs ≡ None → (starts_after at xs ≡ []) × (line_feeds xs ≡ 0)
end at xs e =
    let none = no_starts at xs (omega (arith, ltb-false _ _ (cond_none _ _ e), prefix_len-le-length (λ b. not (is_newline b)) xs)) in
    (none, sym (as_many at xs) ∙ ap length none)
