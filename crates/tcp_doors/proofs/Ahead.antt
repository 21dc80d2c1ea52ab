-- Bytes that were read ahead are given from their front.
use Rattle.std.proofs.Common.{◌≡◌, ◌≤◌, ◌+◌, ℕ, List, ◌++◌, take, drop, sym, ap, ◌∙◌}
use Rattle.std.proofs.lemmas.List.{drop-drop, take-append-drop, take-take}

-- so many of the next, and then the others
pub given_front : (at most count : ℕ) (xs got : List ℕ) → count ≤ most
    → got ≡ take count (take most (drop at xs)) → drop at xs ≡ got ++ drop (at + count) xs
given_front at most count xs got few is =
    sym (take-append-drop count (drop at xs))
    ∙ (ap (λ front. front ++ drop count (drop at xs)) (sym (is ∙ take-take count most (drop at xs) few))
    ∙ ap (λ rest. got ++ rest) (drop-drop count at xs))
