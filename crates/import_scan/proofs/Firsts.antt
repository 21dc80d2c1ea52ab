-- Names that are put behind those that came before, where they are new.
use Rattle.std.proofs.Common.{◌≡◌, ◌≤◌, ℕ, Bool, true, false, List, [], ◌∷◌, ◌++◌, length, take, refl, ap, sym, ◌∙◌, arith}
use Rattle.std.specs.Prelude.{bytes_eq, not, ◌&&◌, ◌||◌, filter, nat_lt, if◌then◌else◌, cond}
use Rattle.std.specs.Cmp.Lexicographic.{nat_list_eq_equiv}
use Rattle.std.proofs.Math.Bool.{and-true, and-false}
use Rattle.std.proofs.lemmas.Bool.{ltb-true, ltb-false}
use Rattle.std.proofs.lemmas.List.{append_assoc, append-nil, length-append, take_all, take-append-le}
use Rattle.std.proofs.lemmas.List.Folds.{list_any-append}
use Rattle.std.proofs.lemmas.Slice.Eq.{bytes_eq-Decides}
use Rattle.module_semantics.specs.Analysis.{firsts}
use Rattle.module_semantics.specs.Entries.{has_name}
use Rattle.import_scan.specs.Scanning.{add_among, add_import}

-- a name that passes, and that didn't come yet
abbrev pub is_fresh : (List ℕ → Bool) → List (List ℕ) → List ℕ → Bool
is_fresh p came m = p m && not (has_name m came)

both_step : {X : Type 0} (q : X → Bool) (x : X) (kept ys : List X) (s r : Bool) → s ≡ (q x && r) → kept ≡ filter q ys → cond s (x ∷ kept) kept ≡ filter q (cond r (x ∷ ys) ys)
both_step q x kept ys s true is e = ap (λ b. cond b (x ∷ kept) kept) (is ∙ and-true (q x)) ∙ ap (λ l. cond (q x) (x ∷ l) l) e
both_step q x kept ys s false is e = ap (λ b. cond b (x ∷ kept) kept) (is ∙ and-false (q x)) ∙ e

-- one filter in place of two
both_filters : {X : Type 0} (s q r : X → Bool) → ((x : X) → s x ≡ (q x && r x)) → (xs : List X) → filter s xs ≡ filter q (filter r xs)
both_filters s q r is [] = refl
both_filters s q r is (x ∷ xs) = both_step q x (filter s xs) (filter r xs) (s x) (r x) (is x) (both_filters s q r is xs)

turn_step : (a b c : Bool) → (a && not (b || (c || false))) ≡ ((a && not b) && not c)
turn_step true true c = refl
turn_step true false true = refl
turn_step true false false = refl
turn_step false b c = refl

-- a name is fresh behind one more, where it is fresh and another
fresh_after : (p : List ℕ → Bool) (came : List (List ℕ)) (n m : List ℕ) → is_fresh p (came ++ n ∷ []) m ≡ (is_fresh p came m && not (bytes_eq m n))
fresh_after p came n m =
    ap (λ b. p m && not b) (list_any-append (λ k. bytes_eq k m) came (n ∷ []))
    ∙ turn_step (p m) (has_name m came) (bytes_eq n m) ∙ ap (λ b. is_fresh p came m && not b) (nat_list_eq_equiv.symm n m)

stale_step : (a b : Bool) → (b ≡ true → a ≡ false) → a ≡ (a && not b)
stale_step a true h = h refl ∙ sym (and-false a)
stale_step a false h = sym (and-true a)

-- a name that isn't fresh is none of the fresh ones
stale_apart : (p : List ℕ → Bool) (came : List (List ℕ)) (n m : List ℕ) → is_fresh p came n ≡ false → is_fresh p came m ≡ (is_fresh p came m && not (bytes_eq m n))
stale_apart p came n m h = stale_step (is_fresh p came m) (bytes_eq m n) (λ same. ap (is_fresh p came) ((bytes_eq-Decides m n).0 same) ∙ h)

-- the names that are behind those that came, in the end
abbrev pub ends : (List ℕ → Bool) → List (List ℕ) → List (List ℕ) → List (List ℕ)
ends p came ns = came ++ filter (is_fresh p came) (firsts ns)

-- a name that isn't fresh changes nothing
stale_ends : (p : List ℕ → Bool) (came : List (List ℕ)) (n : List ℕ) (ns : List (List ℕ)) → is_fresh p came n ≡ false → ends p came (n ∷ ns) ≡ ends p came ns
stale_ends p came n ns h =
    ap (λ b. came ++ cond b (n ∷ filter (is_fresh p came) (filter (λ m. not (bytes_eq m n)) (firsts ns))) (filter (is_fresh p came) (filter (λ m. not (bytes_eq m n)) (firsts ns)))) h
    ∙ ap (λ l. came ++ l) (sym (both_filters (is_fresh p came) (is_fresh p came) (λ m. not (bytes_eq m n)) (λ m. stale_apart p came n m h) (firsts ns)))

-- a fresh name stands next
fresh_ends : (p : List ℕ → Bool) (came : List (List ℕ)) (n : List ℕ) (ns : List (List ℕ)) → is_fresh p came n ≡ true → ends p came (n ∷ ns) ≡ ends p (came ++ n ∷ []) ns
fresh_ends p came n ns h =
    ap (λ b. came ++ cond b (n ∷ filter (is_fresh p came) (filter (λ m. not (bytes_eq m n)) (firsts ns))) (filter (is_fresh p came) (filter (λ m. not (bytes_eq m n)) (firsts ns)))) h
    ∙ ap (λ l. came ++ n ∷ l) (sym (both_filters (is_fresh p (came ++ n ∷ [])) (is_fresh p came) (λ m. not (bytes_eq m n)) (fresh_after p came n) (firsts ns)))
    ∙ sym (append_assoc came (n ∷ []) (filter (is_fresh p (came ++ n ∷ [])) (firsts ns)))

-- names among others, one after another
abbrev pub all_among : List (List ℕ) → List (List ℕ) → List (List ℕ) → List (List ℕ)
all_among others came [] = came
all_among others came (n ∷ ns) = all_among others (add_among others came n) ns

among_step : (others came : List (List ℕ)) (n : List ℕ) (ns : List (List ℕ)) (b : Bool) → is_fresh (λ m. has_name m others) came n ≡ b
    → ends (λ m. has_name m others) (if b then came ++ n ∷ [] else came) ns ≡ ends (λ m. has_name m others) came (n ∷ ns)
among_step others came n ns true is = sym (fresh_ends (λ m. has_name m others) came n ns is)
among_step others came n ns false is = sym (stale_ends (λ m. has_name m others) came n ns is)

among_ends : (others came ns : List (List ℕ)) → all_among others came ns ≡ ends (λ m. has_name m others) came ns
among_ends others came [] = sym (append-nil came)
among_ends others came (n ∷ ns) =
    among_ends others (add_among others came n) ns ∙ among_step others came n ns (is_fresh (λ m. has_name m others) came n) refl

-- names among others, each once
pub among_firsts : (others ns : List (List ℕ)) → all_among others [] ns ≡ filter (λ m. has_name m others) (firsts ns)
among_firsts others ns =
    among_ends others [] ns ∙ both_filters (is_fresh (λ m. has_name m others) []) (λ m. has_name m others) (λ m. true) (λ m. refl) (firsts ns)
    ∙ ap (filter (λ m. has_name m others)) (all_pass (firsts ns)) where
      all_pass : (ms : List (List ℕ)) → filter (λ m. true) ms ≡ ms
      all_pass [] = refl
      all_pass (m ∷ ms) = ap (λ l. m ∷ l) (all_pass ms)

-- imported names, one after another
abbrev pub all_imports : List (List ℕ) → List (List ℕ) → List (List ℕ)
all_imports came [] = came
all_imports came (n ∷ ns) = all_imports (add_import came n) ns

any : List ℕ → Bool
any m = true

import_step : (came : List (List ℕ)) (n : List ℕ) (ns : List (List ℕ)) (known many : Bool) → has_name n came ≡ known → nat_lt 256 (length came) ≡ many → length came ≤ 257
    → ((next : List (List ℕ)) → length next ≤ 257 → all_imports next ns ≡ take 257 (ends any next ns))
    → all_imports (if known || many then came else came ++ n ∷ []) ns ≡ take 257 (ends any came (n ∷ ns))
unfolding any
import_step came n ns true many is full few more = more came few ∙ ap (take 257) (sym (stale_ends any came n ns (ap not is)))
import_step came n ns false true is full few more =
    let all : length came ≡ 257 = omega (arith, ltb-true 256 (length came) full) in
    more came few ∙ first all (filter (is_fresh any came) (firsts ns)) ∙ sym (first all (filter (is_fresh any came) (firsts (n ∷ ns)))) where
      first : length came ≡ 257 → (later : List (List ℕ)) → take 257 (came ++ later) ≡ came
      first all later = take-append-le 257 came later (omega arith) ∙ take_all 257 came (omega arith)
import_step came n ns false false is full few more =
    let room : length came ≤ 256 = ltb-false 256 (length came) full in
    more (came ++ n ∷ []) (omega (arith, length-append came (n ∷ []))) ∙ ap (take 257) (sym (fresh_ends any came n ns (ap not is)))

import_ends : (came ns : List (List ℕ)) → length came ≤ 257 → all_imports came ns ≡ take 257 (ends any came ns)
import_ends came [] few = sym (ap (take 257) (append-nil came) ∙ take_all 257 came few)
import_ends came (n ∷ ns) few = import_step came n ns (has_name n came) (nat_lt 256 (length came)) refl refl few (λ next. import_ends next ns)

all_pass : (ms : List (List ℕ)) → filter (is_fresh any []) ms ≡ ms
unfolding any
all_pass [] = refl
all_pass (m ∷ ms) = ap (λ l. m ∷ l) (all_pass ms)

-- imported names, each once, one more than may be at most
pub import_firsts : (ns : List (List ℕ)) → all_imports [] ns ≡ take 257 (firsts ns)
import_firsts ns = import_ends [] ns (omega arith) ∙ ap (take 257) (all_pass (firsts ns))
