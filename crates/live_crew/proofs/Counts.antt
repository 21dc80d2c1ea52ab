-- How the starts of a spawner are counted.
use Rattle.std.proofs.Common.{◌≡◌, ℕ, ◌+◌, ◌≤◌, zero, suc, List, [], ◌∷◌, get_or, set, sum, arith, subst, sym}
use Rattle.std.proofs.lemmas.List.Sums.{sum_by-cons}
use Rattle.jobs.specs.Begun.{one_more}

-- a start counts once
pub sum_one_more : (begun : List ℕ) (kind : ℕ) → sum (one_more begun kind) ≤ sum begun + 1
sum_one_more [] kind = omega arith
sum_one_more (n ∷ ns) zero = omega (arith, sum_by-cons (λ (x : ℕ). x) (n + 1) ns, sum_by-cons (λ (x : ℕ). x) n ns)
sum_one_more (n ∷ ns) (suc kind) =
    let more = sum_one_more ns kind in
    omega (arith, sum_by-cons (λ (x : ℕ). x) n (set ns kind (get_or ns kind 0 + 1)), sum_by-cons (λ (x : ℕ). x) n ns)

pub started_few : (old new : List ℕ) (kind : ℕ) → new ≡ one_more old kind → sum new ≤ sum old + 1
started_few old new kind e = subst (λ xs. sum xs ≤ sum old + 1) (sym e) (sum_one_more old kind)

pub same_few : (old new : List ℕ) → new ≡ old → sum new ≤ sum old + 1
same_few old new e = subst (λ xs. sum xs ≤ sum old + 1) (sym e) (omega arith)
