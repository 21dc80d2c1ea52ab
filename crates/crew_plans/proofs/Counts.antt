-- How the starts of a spawner are counted.
use Rattle.std.proofs.Common.{◌≡◌, ℕ, ◌+◌, ◌≤◌, zero, suc, List, [], ◌∷◌, get_or, set, sum, refl, ap, ◌∙◌, arith}
use Rattle.std.proofs.lemmas.List.Sums.{sum_by-cons}
use Rattle.jobs.specs.Begun.{none_begun, one_more}
use Rattle.crew_plans.specs.Begun.{HasBegun}

-- a start counts once
pub sum_one_more : (begun : List ℕ) (kind : ℕ) → sum (one_more begun kind) ≤ sum begun + 1
sum_one_more [] kind = omega arith
sum_one_more (n ∷ ns) zero = omega (arith, sum_by-cons (λ (x : ℕ). x) (n + 1) ns, sum_by-cons (λ (x : ℕ). x) n ns)
sum_one_more (n ∷ ns) (suc kind) =
    let more = sum_one_more ns kind in
    omega (arith, sum_by-cons (λ (x : ℕ). x) n (set ns kind (get_or ns kind 0 + 1)), sum_by-cons (λ (x : ℕ). x) n ns)

-- three counts
three : (a b c x y z : ℕ) → a ≡ x → b ≡ y → c ≡ z → ◌≡◌ {A = List ℕ} (a ∷ b ∷ c ∷ []) (x ∷ y ∷ z ∷ [])
three a b c x y z e f g = cc

pub begun_none : (xs : List ℕ) → HasBegun 0 0 0 xs xs
begun_none xs = λ w s c e. e ∙ three w s c (w + 0) (s + 0) (c + 0) (omega arith) (omega arith) (omega arith)

pub begun_then : (a b c d e f : ℕ) (xs ys zs : List ℕ) → HasBegun a b c xs ys → HasBegun d e f ys zs → HasBegun (a + d) (b + e) (c + f) xs zs
begun_then a b c d e f xs ys zs h k =
    λ w s t x.
    k (w + a) (s + b) (t + c) (h w s t x)
    ∙ three (w + a + d) (s + b + e) (t + c + f) (w + (a + d)) (s + (b + e)) (t + (c + f)) (omega arith) (omega arith) (omega arith)

pub begun_worker : (xs ys : List ℕ) → ys ≡ one_more xs 0 → HasBegun 1 0 0 xs ys
begun_worker xs ys h = λ w s c e. h ∙ (ap (λ l. one_more l 0) e ∙ three (w + 1) s c (w + 1) (s + 0) (c + 0) refl (omega arith) (omega arith))

pub begun_session : (xs ys : List ℕ) → ys ≡ one_more xs 1 → HasBegun 0 1 0 xs ys
begun_session xs ys h = λ w s c e. h ∙ (ap (λ l. one_more l 1) e ∙ three w (s + 1) c (w + 0) (s + 1) (c + 0) (omega arith) refl (omega arith))

pub begun_client : (xs ys : List ℕ) → ys ≡ one_more xs 2 → HasBegun 0 0 1 xs ys
begun_client xs ys h = λ w s c e. h ∙ (ap (λ l. one_more l 2) e ∙ three w s (c + 1) (w + 0) (s + 0) (c + 1) (omega arith) (omega arith) refl)

-- workers, then pairs, then sessions, of a spawner that had begun nothing
pub begun_in_all : (w k j : ℕ) (xs ys zs us : List ℕ) → xs ≡ none_begun → HasBegun w 0 0 xs ys → HasBegun 0 k k ys zs → HasBegun 0 j 0 zs us → us ≡ w ∷ (k + j) ∷ k ∷ []
begun_in_all w k j xs ys zs us e a b c =
    c (0 + w + 0) (0 + 0 + k) (0 + 0 + k) (b (0 + w) (0 + 0) (0 + 0) (a 0 0 0 e))
    ∙ three (0 + w + 0 + 0) (0 + 0 + k + j) (0 + 0 + k + 0) w (k + j) k (omega arith) (omega arith) (omega arith)
