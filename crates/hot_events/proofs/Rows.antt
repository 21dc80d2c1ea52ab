-- Rows that are read off a list of numbers, after each kind of call.
use Rattle.std.proofs.Common.{◌≡◌, ℕ, ◌==◌, Bool, true, false, cond, List, [], ◌∷◌, drop, map, refl, sym, ap, ◌∙◌, arith}
use Rattle.std.specs.Prelude.{◌||◌, ⊤, filter, nat_lt, not, None, if◌then◌else◌}
use Rattle.std.specs.List.{list_any}
use Rattle.std.proofs.lemmas.Bool.{eqb-true}
use Rattle.std.proofs.lemmas.Bool.Decides.{nat_tests}
use Rattle.hot_events.specs.Calls.{Event, first_of, is_many, with_number, without_number}
use Rattle.hot_events.specs.Rows.{Row, added_to, added_to_each, first_in, full_in, rows_without, taken_from, with_row}

-- the rows of these numbers, each with its events
abbrev pub rows : (ℕ → List Event) → List ℕ → List Row
rows w js = map (λ j. (j, w j)) js

abbrev pub among : ℕ → List ℕ → Bool
among i js = list_any (λ j. j == i) js

-- one number more
more_by : (w : ℕ → List Event) (i j : ℕ) (js : List ℕ) (t : Bool) → nat_lt j i ≡ t → with_row (i, w i) (rows w js) ≡ rows w (with_number i js)
    → cond t ((j, w j) ∷ with_row (i, w i) (rows w js)) ((i, w i) ∷ (j, w j) ∷ rows w js) ≡ rows w (cond t (j ∷ with_number i js) (i ∷ j ∷ js))
more_by w i j js true e below = ap (λ r. (j, w j) ∷ r) below
more_by w i j js false e below = refl

pub one_more : (w : ℕ → List Event) (i : ℕ) (js : List ℕ) → with_row (i, w i) (rows w js) ≡ rows w (with_number i js)
one_more w i [] = refl
one_more w i (j ∷ js) = more_by w i j js (nat_lt j i) refl (one_more w i js)

-- one number less, where the others keep their events
less_by : (v w : ℕ → List Event) (i j : ℕ) (js : List ℕ) (t : Bool) → (t ≡ false → v j ≡ w j) → rows_without i (rows v js) ≡ rows w (without_number i js)
    → cond (not t) ((j, v j) ∷ rows_without i (rows v js)) (rows_without i (rows v js)) ≡ rows w (cond (not t) (j ∷ without_number i js) (without_number i js))
less_by v w i j js true same below = below
less_by v w i j js false same below = ap (λ x. (j, x) ∷ rows_without i (rows v js)) (same refl) ∙ ap (λ r. (j, w j) ∷ r) below

pub one_less : (v w : ℕ → List Event) (i : ℕ) (js : List ℕ) → ((j : ℕ) → (j == i) ≡ false → v j ≡ w j) → rows_without i (rows v js) ≡ rows w (without_number i js)
one_less v w i [] same = refl
one_less v w i (j ∷ js) same = less_by v w i j js (j == i) (same j) (one_less v w i js same)

-- the clients for which as many wait as may
full_by : (w : ℕ → List Event) (j : ℕ) (js : List ℕ) (t : Bool) → full_in (rows w js) ≡ filter (λ i. is_many (w i)) js
    → cond t (j ∷ full_in (rows w js)) (full_in (rows w js)) ≡ cond t (j ∷ filter (λ i. is_many (w i)) js) (filter (λ i. is_many (w i)) js)
full_by w j js true below = ap (λ r. j ∷ r) below
full_by w j js false below = below

pub full_are : (w : ℕ → List Event) (js : List ℕ) → full_in (rows w js) ≡ filter (λ i. is_many (w i)) js
full_are w [] = refl
full_are w (j ∷ js) = full_by w j js (is_many (w j)) (full_are w js)

-- the first event of a client
first_by : (w : ℕ → List Event) (i j : ℕ) (js : List ℕ) (t : Bool) → (j == i) ≡ t → first_in i (rows w js) ≡ (if among i js then first_of (w i) else None)
    → cond t (first_of (w j)) (first_in i (rows w js)) ≡ (if t || among i js then first_of (w i) else None)
first_by w i j js true e below = ap (λ k. first_of (w k)) (eqb-true j i e)
first_by w i j js false e below = below

pub first_is : (w : ℕ → List Event) (i : ℕ) (js : List ℕ) → first_in i (rows w js) ≡ (if among i js then first_of (w i) else None)
first_is w i [] = refl
first_is w i (j ∷ js) = first_by w i j js (j == i) refl (first_is w i js)

-- each number once
abbrev pub AreOnce : List ℕ → Type 0
AreOnce [] = ⊤
AreOnce (j ∷ js) = (among j js ≡ false) × AreOnce js

both_false : (a b : Bool) → (a || b) ≡ false → (a ≡ false) × (b ≡ false)
both_false true b e = absurd (cc)
both_false false b e = (refl, e)

-- what the numbers have that aren't i
pub rows_same : (v w : ℕ → List Event) (i : ℕ) (js : List ℕ) → among i js ≡ false → ((j : ℕ) → (j == i) ≡ false → v j ≡ w j) → rows v js ≡ rows w js
rows_same v w i [] none same = refl
rows_same v w i (j ∷ js) none same =
    let parts = both_false (j == i) (among i js) none in
    ap (λ x. (j, x) ∷ rows v js) (same j parts.0) ∙ ap (λ r. (j, w j) ∷ r) (rows_same v w i js parts.1 same)

-- a client that takes its first event
take_by : (v w : ℕ → List Event) (i j : ℕ) (js : List ℕ) (t : Bool) → (j == i) ≡ t → among j js ≡ false → AreOnce js
    → ((k : ℕ) → (k == i) ≡ false → v k ≡ w k) → drop 1 (v i) ≡ w i → taken_from i (rows v js) ≡ rows w js
    → cond t ((j, drop 1 (v j)) ∷ rows v js) ((j, v j) ∷ taken_from i (rows v js)) ≡ rows w (j ∷ js)
take_by v w i j js true e once others same here below =
    let is = eqb-true j i e in
    ap (λ k. (j, drop 1 (v k)) ∷ rows v js) is
    ∙ (ap (λ x. (j, x) ∷ rows v js) (here ∙ ap w (sym is))
    ∙ ap (λ r. (j, w j) ∷ r) (rows_same v w i js (ap (λ k. among k js) (sym is) ∙ once) same))
take_by v w i j js false e once others same here below = ap (λ x. (j, x) ∷ taken_from i (rows v js)) (same j e) ∙ ap (λ r. (j, w j) ∷ r) below

pub one_taken : (v w : ℕ → List Event) (i : ℕ) (js : List ℕ) → AreOnce js → ((k : ℕ) → (k == i) ≡ false → v k ≡ w k) → drop 1 (v i) ≡ w i → taken_from i (rows v js) ≡ rows w js
one_taken v w i [] once same here = refl
one_taken v w i (j ∷ js) once same here = take_by v w i j js (j == i) refl once.0 once.1 same here (one_taken v w i js once.1 same here)

-- numbers stay once each
abbrev none_of : ℕ → List ℕ → Type 0
none_of i js = among i js ≡ false

with_none : (i k j : ℕ) (js : List ℕ) (t : Bool) → (i == k) ≡ false → ((j == k) || among k js) ≡ false → (among k js ≡ false → among k (with_number i js) ≡ false)
    → among k (cond t (j ∷ with_number i js) (i ∷ j ∷ js)) ≡ false
with_none i k j js true other none below = let parts = both_false (j == k) (among k js) none in rw parts.0 (below parts.1)
with_none i k j js false other none below = rw other none

stays_none : (i k : ℕ) (js : List ℕ) → (i == k) ≡ false → among k js ≡ false → among k (with_number i js) ≡ false
stays_none i k [] other none = rw other refl
stays_none i k (j ∷ js) other none = with_none i k j js (nat_lt j i) other none (stays_none i k js other)

less_none : (i k j : ℕ) (js : List ℕ) (t : Bool) → ((j == k) || among k js) ≡ false → (among k js ≡ false → among k (without_number i js) ≡ false)
    → among k (cond (not t) (j ∷ without_number i js) (without_number i js)) ≡ false
less_none i k j js true none below = below (both_false (j == k) (among k js) none).1
less_none i k j js false none below = let parts = both_false (j == k) (among k js) none in rw parts.0 (below parts.1)

less_stays : (i k : ℕ) (js : List ℕ) → among k js ≡ false → among k (without_number i js) ≡ false
less_stays i k [] none = refl
less_stays i k (j ∷ js) none = less_none i k j js (j == i) none (less_stays i k js)

gone_by : (i j : ℕ) (js : List ℕ) (t : Bool) → (j == i) ≡ t → among i (without_number i js) ≡ false → among i (cond (not t) (j ∷ without_number i js) (without_number i js)) ≡ false
gone_by i j js true e below = below
gone_by i j js false e below = rw e below

-- the number that is taken away isn't there
pub is_gone : (i : ℕ) (js : List ℕ) → among i (without_number i js) ≡ false
is_gone i [] = refl
is_gone i (j ∷ js) = gone_by i j js (j == i) refl (is_gone i js)

less_by_one : (i j : ℕ) (js : List ℕ) (t : Bool) → among j js ≡ false → AreOnce (without_number i js) → AreOnce (cond (not t) (j ∷ without_number i js) (without_number i js))
less_by_one i j js true none below = below
less_by_one i j js false none below = (less_stays i j js none, below)

pub less_once : (i : ℕ) (js : List ℕ) → AreOnce js → AreOnce (without_number i js)
less_once i [] once = tt
less_once i (j ∷ js) once = less_by_one i j js (j == i) once.0 (less_once i js once.1)

more_by_one : (i j : ℕ) (js : List ℕ) (t : Bool) → (j == i) ≡ false → (i == j) ≡ false → among i js ≡ false → among j js ≡ false → AreOnce js → AreOnce (with_number i js) → AreOnce (cond t (j ∷ with_number i js) (i ∷ j ∷ js))
more_by_one i j js true other turned none here once below = (stays_none i j js turned here, below)
more_by_one i j js false other turned none here once below = (rw other none, (here, once))

pub turned : (i j : ℕ) → (j == i) ≡ false → (i == j) ≡ false
turned i j other = grind (arith, nat_tests, other)

pub more_once : (i : ℕ) (js : List ℕ) → among i js ≡ false → AreOnce js → AreOnce (with_number i js)
more_once i [] none once = (refl, tt)
more_once i (j ∷ js) none once =
    let parts = both_false (j == i) (among i js) none in
    more_by_one i j js (nat_lt j i) parts.0 (turned i j parts.0) parts.1 once.0 once.1 (more_once i js parts.1 once.1)

-- a client that isn't there takes nothing
take_none : (v : ℕ → List Event) (i j : ℕ) (js : List ℕ) (t : Bool) → t ≡ false → taken_from i (rows v js) ≡ rows v js → cond t ((j, drop 1 (v j)) ∷ rows v js) ((j, v j) ∷ taken_from i (rows v js)) ≡ rows v (j ∷ js)
take_none v i j js true e below = absurd (cc)
take_none v i j js false e below = ap (λ r. (j, v j) ∷ r) below

pub none_taken : (v : ℕ → List Event) (i : ℕ) (js : List ℕ) → among i js ≡ false → taken_from i (rows v js) ≡ rows v js
none_taken v i [] none = refl
none_taken v i (j ∷ js) none =
    let parts = both_false (j == i) (among i js) none in
    take_none v i j js (j == i) parts.0 (none_taken v i js parts.1)

-- an event that is added to each
abbrev pub IsWithin : List ℕ → List ℕ → Type 0
IsWithin js all = (k : ℕ) → among k js ≡ true → among k all ≡ true

itself : (j : ℕ) (js : List ℕ) → among j (j ∷ js) ≡ true
itself j js = let same : (j == j) ≡ true = grind (arith, nat_tests) in rw same refl

or_right : (a b : Bool) → b ≡ true → (a || b) ≡ true
or_right true b e = refl
or_right false b e = e

pub added_all : (v w : ℕ → List Event) (e : Event) (js all : List ℕ) → IsWithin js all → ((j : ℕ) → among j all ≡ true → added_to e (v j) ≡ w j) → added_to_each e (rows v js) ≡ rows w js
added_all v w e [] all within same = refl
added_all v w e (j ∷ js) all within same =
    ap (λ x. (j, x) ∷ added_to_each e (rows v js)) (same j (within j (itself j js)))
    ∙ ap (λ r. (j, w j) ∷ r) (added_all v w e js all (λ k m. within k (or_right (j == k) (among k js) m)) same)
