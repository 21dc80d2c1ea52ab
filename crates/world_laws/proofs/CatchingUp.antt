-- The test of a caught-up client, and the bound of its debt.
use Rattle.std.proofs.Common.{◌≡◌, ◌↔◌, ◌≤◌, ℕ, ◌+◌, Bool, true, false, List, [], ◌∷◌, ◌++◌, refl, ap, sym, ◌∙◌, subst, arith, length}
use Rattle.std.specs.Prelude.{◌&&◌, ◌==◌, not, filter, Option, Some, None, is_some, is_none, if◌then◌else◌}
use Rattle.std.proofs.lemmas.Bool.{false≢true}
use Rattle.std.proofs.lemmas.List.{length-map}
use Rattle.core_model.specs.Names.{Name, has, at, names_of}
use Rattle.std.specs.List.{list_all}
use Rattle.core_model.specs.Sources.{Sources}
use Rattle.core_model.specs.Page.{Plan}
use Rattle.core_model.specs.Client.{Client, changed, dropped}
use Rattle.core_model.proofs.Naming.{both_true, and_both}
use Rattle.client_model.specs.Runtime.{Runtime}
use Rattle.world_model.specs.CaughtUp.{IsCaughtUp, is_caught_up, is_empty, unstaged, wants_nothing, plan_turns, debt_between, debt_within, debt_by, debt, largest_debt}

pub empty_is : {X : Type 0} → (xs : List X) → is_empty xs ≡ true → xs ≡ []
empty_is [] h = refl
empty_is (x ∷ xs) h = absurd (false≢true h)

is_then_empty : {X : Type 0} → (xs : List X) → xs ≡ [] → is_empty xs ≡ true
is_then_empty xs e = ap is_empty e

pub none_is : {X : Type 0} → (o : Option X) → is_none o ≡ true → o ≡ None
none_is None h = refl
none_is (Some x) h = absurd (false≢true h)

tested : (s : Sources) (c : Client) (r : Runtime) → is_caught_up s c r ≡ true → IsCaughtUp s c r
tested s c r h =
    let l = both_true _ (is_empty r.unsent) h in
    let k = both_true _ (is_empty c.notices) l.0 in
    let j = both_true _ (is_empty (dropped c)) k.0 in
    let i = both_true _ (is_empty c.page.forced) j.0 in
    let g = both_true _ (is_empty (changed s c)) i.0 in
    let f = both_true c.page.loaded (is_none c.page.plan) g.0 in
    record {
      loaded = f.0;
      idle = none_is c.page.plan f.1;
      unchanged = empty_is (changed s c) g.1;
      unforced = empty_is c.page.forced i.1;
      whole = empty_is (dropped c) j.1;
      told = empty_is c.notices k.1;
      sent = empty_is r.unsent l.1;
    }

meets : (s : Sources) (c : Client) (r : Runtime) → IsCaughtUp s c r → is_caught_up s c r ≡ true
meets s c r h =
    and_both _ (is_empty r.unsent)
    (and_both _ (is_empty c.notices)
    (and_both _ (is_empty (dropped c))
    (and_both _ (is_empty c.page.forced)
    (and_both _ (is_empty (changed s c))
    (and_both c.page.loaded (is_none c.page.plan) h.loaded (ap is_none h.idle))
    (is_then_empty (changed s c) h.unchanged))
    (is_then_empty c.page.forced h.unforced))
    (is_then_empty (dropped c) h.whole))
    (is_then_empty c.notices h.told))
    (is_then_empty r.unsent h.sent)

pub test_is : (s : Sources) (c : Client) (r : Runtime) → (is_caught_up s c r ≡ true) ↔ IsCaughtUp s c r
test_is s c r = (tested s c r, meets s c r)

-- The debt.

at_most_if : (b : Bool) (m n : ℕ) → m ≤ n → (if b then 0 else m) ≤ n
at_most_if true m n h = omega arith
at_most_if false m n h = h

at_most_one : (b : Bool) → (if b then 0 else 1) ≤ 1
at_most_one true = omega arith
at_most_one false = omega arith

at_most_other : (b : Bool) (m n : ℕ) → 1 ≤ n → m ≤ n → (if b then 1 else m) ≤ n
at_most_other true m n h k = h
at_most_other false m n h k = k

one_more : {X : Type 0} → (b : Bool) (x : X) (xs : List X) (n : ℕ) → length xs ≤ n → length (if b then x ∷ xs else xs) ≤ n + 1
one_more true x xs n h = omega (arith, h)
one_more false x xs n h = omega (arith, h)

fewer : {X : Type 0} → (p : X → Bool) (xs : List X) → length (filter p xs) ≤ length xs
fewer p [] = omega arith
fewer p (x ∷ xs) =
    let h = one_more (p x) x (filter p xs) (length xs) (fewer p xs) in
    omega (arith, h)

between_bound : (s : Sources) (c : Client) (r : Runtime) → debt_between s c r ≤ largest_debt s c r
between_bound s c r =
    let first : (if is_empty (dropped c) then 0 else 1) ≤ 1 = at_most_one (is_empty (dropped c)) in
    let second : (if c.page.loaded && is_empty r.unsent && wants_nothing s c then 0 else plan_turns s) ≤ length s.served + 4 = at_most_if (c.page.loaded && is_empty r.unsent && wants_nothing s c) (plan_turns s) (length s.served + 4) (omega arith) in
    omega (arith, first, second)

within_bound : (p : Plan) (s : Sources) (c : Client) (r : Runtime) → debt_within p s c r ≤ largest_debt s c r
within_bound p s c r =
    let few : length (unstaged s.served p.staged) ≤ length (names_of s.served) = fewer (λ n. not (is_some (at p.staged n))) (names_of s.served) in
    let same : length (names_of s.served) ≡ length s.served = length-map s.served (λ row. row.0) in
    let first : (if is_some r.cause then 1 else 2 + length (unstaged s.served p.staged)) ≤ 2 + length s.served = at_most_other (is_some r.cause) (2 + length (unstaged s.served p.staged)) (2 + length s.served) (omega arith) (omega (arith, few, same)) in
    let second : (if c.plan_at == s.served_no then 0 else plan_turns s) ≤ length s.served + 4 = at_most_if (c.plan_at == s.served_no) (plan_turns s) (length s.served + 4) (omega arith) in
    omega (arith, first, second)

debt_by_bound : (plan : Option Plan) (s : Sources) (c : Client) (r : Runtime) → debt_by plan s c r ≤ largest_debt s c r
debt_by_bound None s c r = between_bound s c r
debt_by_bound (Some p) s c r = within_bound p s c r

pub debt_bound : (s : Sources) (c : Client) (r : Runtime) → debt s c r ≤ largest_debt s c r
debt_bound s c r = debt_by_bound c.page.plan s c r

-- No debt is left exactly where the client is caught up.

nil_from : {X : Type 0} → (xs : List X) → length xs ≡ 0 → xs ≡ []
nil_from [] h = refl
nil_from (x ∷ xs) h = absurd (omega (arith, h))

none_listed : (xs : List Name) → list_all (has []) xs ≡ true → xs ≡ []
none_listed [] h = refl
none_listed (x ∷ xs) h = absurd (false≢true h)

both_nil : (xs ys : List Name) → xs ++ ys ≡ [] → (xs ≡ []) × (ys ≡ [])
both_nil [] ys h = (refl, h)
both_nil (x ∷ xs) ys h = absurd (false≢true (ap is_empty h))

true_from_one : (b : Bool) → ◌≡◌ {A = ℕ} (if b then 0 else 1) 0 → b ≡ true
true_from_one true h = refl
true_from_one false h = absurd (omega (arith, h))

true_from_more : (b : Bool) (k : ℕ) → ◌≡◌ {A = ℕ} (if b then 0 else k + 4) 0 → b ≡ true
true_from_more true k h = refl
true_from_more false k h = absurd (omega (arith, h))

paid_between : (s : Sources) (c : Client) (r : Runtime) → c.page.plan ≡ None → debt_between s c r ≡ 0 → IsCaughtUp s c r
paid_between s c r none h =
    let told : length r.unsent + length c.notices ≡ 0 = omega (arith, h) in
    let whole : dropped c ≡ [] = empty_is (dropped c) (true_from_one (is_empty (dropped c)) (omega (arith, h))) in
    let quiet : (c.page.loaded && is_empty r.unsent && wants_nothing s c) ≡ true = true_from_more (c.page.loaded && is_empty r.unsent && wants_nothing s c) (length s.served) (omega (arith, h)) in
    let parts = both_true _ (wants_nothing s c) quiet in
    let nothing = both_nil (changed s c) c.page.forced (none_listed (changed s c ++ c.page.forced) (subst (λ names. list_all (has names) (changed s c ++ c.page.forced) ≡ true) whole parts.1)) in
    record {
      loaded = (both_true c.page.loaded (is_empty r.unsent) parts.0).0;
      idle = none;
      unchanged = nothing.0;
      unforced = nothing.1;
      whole = whole;
      told = nil_from c.notices (omega (arith, told));
      sent = nil_from r.unsent (omega (arith, told));
    }

paid_by : (plan : Option Plan) (s : Sources) (c : Client) (r : Runtime) → c.page.plan ≡ plan → debt_by plan s c r ≡ 0 → IsCaughtUp s c r
paid_by None s c r e h = paid_between s c r e h
paid_by (Some p) s c r e h = absurd (omega (arith, h))

none_more : (b : Bool) → b ≡ true → ◌≡◌ {A = ℕ} (if b then 0 else 1) 0
none_more true h = refl
none_more false h = absurd (false≢true h)

spared : (b : Bool) (k : ℕ) → b ≡ true → ◌≡◌ {A = ℕ} (if b then 0 else k) 0
spared true k h = refl
spared false k h = absurd (false≢true h)

paid : (s : Sources) (c : Client) (r : Runtime) → IsCaughtUp s c r → debt s c r ≡ 0
paid s c r h = subst (λ plan. debt_by plan s c r ≡ 0) (sym h.idle)
    (let unsent : length r.unsent ≡ 0 = ap length h.sent in
    let notices : length c.notices ≡ 0 = ap length h.told in
    let whole : ◌≡◌ {A = ℕ} (if is_empty (dropped c) then 0 else 1) 0 = none_more (is_empty (dropped c)) (is_then_empty (dropped c) h.whole) in
    let wants : wants_nothing s c ≡ true = ap (λ names. list_all (has (dropped c)) (names ++ c.page.forced)) h.unchanged ∙ ap (list_all (has (dropped c))) h.unforced in
    let quiet : ◌≡◌ {A = ℕ} (if c.page.loaded && is_empty r.unsent && wants_nothing s c then 0 else plan_turns s) 0 = spared (c.page.loaded && is_empty r.unsent && wants_nothing s c) (plan_turns s) (and_both _ (wants_nothing s c) (and_both c.page.loaded (is_empty r.unsent) h.loaded (is_then_empty r.unsent h.sent)) wants) in
    omega (arith, unsent, notices, whole, quiet))

pub paid_is : (s : Sources) (c : Client) (r : Runtime) → (debt s c r ≡ 0) ↔ IsCaughtUp s c r
paid_is s c r = (paid_by c.page.plan s c r refl, paid s c r)
