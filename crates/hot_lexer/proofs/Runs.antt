-- Runs of bytes: how many stand at the front, seen as the place of the first byte that ends the run.
use Rattle.std.proofs.Common.{◌≡◌, ℕ, zero, suc, ◌+◌, ◌<◌, ◌≤◌, List, [], ◌∷◌, length, drop, get_or, Bool, true, false, not, cond, Some, None, position, refl, sym, ap, ◌∙◌, arith}
use Rattle.std.proofs.lemmas.Bool.{ltb-true, ltb-false}
use Rattle.std.proofs.lemmas.List.Sums.{passes_at_first, prefix_len-le-length}
use Rattle.std.proofs.lemmas.Option.{cond_some, none-some}
use Rattle.std.specs.List.{position_or_len}
use Rattle.std.specs.Option.{unwrap_or}
use Rattle.byte_lanes.specs.Classes.{is_newline}
use Rattle.module_semantics.specs.Bytes.{not_line_feed, span}

run_step : (a b : Bool) (m n : ℕ) → a ≡ not b → m ≡ n → cond a (suc m) 0 ≡ cond (not b) (1 + n) 0
run_step a true m n is same = rw is refl
run_step a false m n is same = rw is (omega (arith, same))

-- a run ends at the first byte of the other class
pub run_is : (p q : ℕ → Bool) → ((b : ℕ) → p b ≡ not (q b)) → (xs : List ℕ) → span p xs ≡ position_or_len q xs
unfolding span
run_is p q other [] = refl
run_is p q other (x ∷ xs) = run_step (p x) (q x) _ _ (other x) (run_is p q other xs)

or_all : (b : Bool) (k l : ℕ) → (b ≡ false → l ≤ k) → k ≤ l → unwrap_or (cond b (Some k) None) l ≡ k
or_all true k l past few = refl
or_all false k l past few = omega (arith, past refl, few)

-- the place of that byte, or behind them all
pub ends_at : (p q : ℕ → Bool) → ((b : ℕ) → p b ≡ not (q b)) → (xs : List ℕ) → unwrap_or (position q xs) (length xs) ≡ span p xs
ends_at p q other xs = or_all _ (position_or_len q xs) (length xs) (ltb-false _ _) (prefix_len-le-length (λ x. not (q x)) xs) ∙ sym (run_is p q other xs)

-- no more than there are
pub few : (p : ℕ → Bool) (xs : List ℕ) → span p xs ≤ length xs
unfolding span
few p [] = omega arith
few p (x ∷ xs) = few_step (p x) _ _ (few p xs)
  where
    few_step : (b : Bool) (m n : ℕ) → m ≤ n → cond b (suc m) 0 ≤ suc n
    few_step true m n le = omega (arith, le)
    few_step false m n le = omega arith

pub twice : (b : Bool) → b ≡ not (not b)
twice true = refl
twice false = refl

pub one_newline : (b : ℕ) → not_line_feed b ≡ not (is_newline b)
unfolding not_line_feed is_newline
one_newline b = refl

begins_step : (b : Bool) (n l : ℕ) → 0 < cond b (suc n) 0 → (0 < suc l) × (b ≡ true) × (cond b (suc n) 0 ≡ suc n)
begins_step true n l h = (omega arith, refl, refl)
begins_step false n l h = absurd (omega (arith, h))

-- the first byte of a run that isn't empty
pub run_begins : (p : ℕ → Bool) (at : ℕ) (bs : List ℕ) → 0 < span p (drop at bs)
    → (at < length bs) × (p (get_or bs at 0) ≡ true) × (span p (drop at bs) ≡ suc (span p (drop (suc at) bs)))
unfolding span
run_begins p zero [] h = absurd (omega (arith, h))
run_begins p (suc at) [] h = absurd (omega (arith, h))
run_begins p zero (b ∷ bs) h = begins_step (p b) (span p bs) (length bs) h
run_begins p (suc at) (b ∷ bs) h = let there = run_begins p at bs h in (omega (arith, there.0), there.1, there.2)

-- a byte that was found: its place ends the run before it
pub found : (q : ℕ → Bool) (xs : List ℕ) (k : ℕ) → position q xs ≡ Some k → (k < length xs) × (q (get_or xs k 0) ≡ true) × (k ≡ position_or_len q xs)
found q xs k is =
    let there = cond_some _ _ _ is in
    let inside : position_or_len q xs < length xs = ltb-true _ _ there.0 in
    (omega (arith, there.1, inside), ap (λ i. q (get_or xs i 0)) (sym there.1) ∙ passes_at_first q xs 0 inside, sym there.1)

none_step : (b : Bool) (k : ℕ) → cond b (Some k) None ≡ None → b ≡ false
none_step true k is = absurd (none-some k (sym is))
none_step false k is = refl

-- where none was found the run has them all
pub not_found : (q : ℕ → Bool) (xs : List ℕ) → position q xs ≡ None → position_or_len q xs ≡ length xs
not_found q xs is = omega (arith, ltb-false _ _ (none_step _ (position_or_len q xs) is), prefix_len-le-length (λ x. not (q x)) xs)
