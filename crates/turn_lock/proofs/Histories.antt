-- Lists of entries.
use Rattle.std.proofs.Common.{◌≡◌, ◌⊎◌, ◌≤◌, ◌+◌, ℕ, eqb, List, [], ◌∷◌, ◌++◌, length, Bool, true, false, ◌||◌, sym, refl, ap, ◌∙◌, arith, inl, inr, ⊎_elim}
use Rattle.std.proofs.lemmas.List.{append-nil, append_assoc}
use Rattle.std.proofs.lemmas.List.Elements.{filter-append}
use Rattle.std.proofs.lemmas.Bool.{false_from_ne_true, cond_both, ltb-true, ltb-false, false≢true, cases_Bool, or_cases, or_from, or_left, or_right, eqb-true, ne_eqb, eq-eqb}
use lib.Dec.{ltb}
use Rattle.turn_lock.specs.Histories.{has, calls, grown, longer, Past}

pub has_append : (k : ℕ) (xs ys : List ℕ) → has k (xs ++ ys) ≡ (has k xs || has k ys)
has_append k [] ys = refl
has_append k (x ∷ xs) ys = let h = has_append k xs ys in elim (eqb k x) as (λ b. (b || has k (xs ++ ys)) ≡ ((b || has k xs) || has k ys)) [ true ↦ refl | false ↦ h ]

pub calls_append : {X : Type 0} (ks : List ℕ) (xs ys : List (ℕ × X)) → calls ks (xs ++ ys) ≡ calls ks xs ++ calls ks ys
calls_append ks xs ys = filter-append (λ e. has e.0 ks) xs ys

pub calls_none : {X : Type 0} (xs : List (ℕ × X)) → calls [] xs ≡ []
calls_none [] = refl
calls_none (x ∷ xs) = calls_none xs

nil_left : {X : Type 0} (xs ys : List X) → xs ++ ys ≡ [] → xs ≡ []
nil_left [] ys e = refl
nil_left (x ∷ xs) ys e = cc

nil_right : {X : Type 0} (xs ys : List X) → xs ++ ys ≡ [] → ys ≡ []
nil_right [] ys e = e
nil_right (x ∷ xs) ys e = cc

pub quiet_front : {X : Type 0} (ks : List ℕ) (xs ys : List (ℕ × X)) → calls ks (xs ++ ys) ≡ [] → calls ks xs ≡ []
quiet_front ks xs ys e = nil_left (calls ks xs) (calls ks ys) (sym (calls_append ks xs ys) ∙ e)

pub quiet_rest : {X : Type 0} (ks : List ℕ) (xs ys : List (ℕ × X)) → calls ks (xs ++ ys) ≡ [] → calls ks ys ≡ []
quiet_rest ks xs ys e = nil_right (calls ks xs) (calls ks ys) (sym (calls_append ks xs ys) ∙ e)

pub quiet_append : {X : Type 0} (ks : List ℕ) (xs ys : List (ℕ × X)) → calls ks xs ≡ [] → calls ks ys ≡ [] → calls ks (xs ++ ys) ≡ []
quiet_append ks xs ys a b = calls_append ks xs ys ∙ (ap (λ zs. zs ++ calls ks ys) a ∙ b)

-- one entry, of a number that ks has not
pub quiet_one : {X : Type 0} (ks : List ℕ) (by : ℕ) (x : X) → has by ks ≡ false → calls ks ((by, x) ∷ []) ≡ []
quiet_one ks by x h = rw h refl

pub quiet_head : {X : Type 0} (ks : List ℕ) (x : ℕ × X) (xs : List (ℕ × X)) → calls ks (x ∷ xs) ≡ [] → has x.0 ks ≡ false
quiet_head ks x xs e = ⊎_elim (λ t. let h : x ∷ calls ks xs ≡ [] = rw t at e in cc) (λ f. f) (cases_Bool (has x.0 ks))

pub quiet_tail : {X : Type 0} (ks : List ℕ) (x : ℕ × X) (xs : List (ℕ × X)) → calls ks (x ∷ xs) ≡ [] → calls ks xs ≡ []
quiet_tail ks x xs e = let f = quiet_head ks x xs e in rw f at e

pub quiet_cons : {X : Type 0} (ks : List ℕ) (x : ℕ × X) (xs : List (ℕ × X)) → has x.0 ks ≡ false → calls ks xs ≡ [] → calls ks (x ∷ xs) ≡ []
quiet_cons ks x xs f e = rw f e

-- of no number of either
pub quiet_both : {X : Type 0} (ks js : List ℕ) (xs : List (ℕ × X)) → calls ks xs ≡ [] → calls js xs ≡ [] → calls (ks ++ js) xs ≡ []
quiet_both ks js [] a b = refl
quiet_both ks js (x ∷ xs) a b =
    quiet_cons (ks ++ js) x xs (has_append x.0 ks js ∙ or_from (has x.0 ks) (has x.0 js) (quiet_head ks x xs a) (quiet_head js x xs b))
    (quiet_both ks js xs (quiet_tail ks x xs a) (quiet_tail js x xs b))

pub has_one : (k n : ℕ) → has k (n ∷ []) ≡ true → k ≡ n
has_one k n h = ⊎_elim (λ t. eqb-true k n t) (λ t. absurd (false≢true t)) (or_cases (eqb k n) false h)

pub has_it : (k : ℕ) (ks : List ℕ) → has k (k ∷ ks) ≡ true
has_it k ks = rw (eq-eqb k k refl) refl

pub has_else : (k n : ℕ) → (k ≡ n → ⊥) → has k (n ∷ []) ≡ false
has_else k n h = rw (ne_eqb k n h) refl

-- a number that isn't known is none of fewer either
pub has_later : (k n : ℕ) (ks : List ℕ) → has k (n ∷ ks) ≡ false → has k ks ≡ false
has_later k n ks f = false_from_ne_true (has k ks) (λ t. false≢true (sym f ∙ or_right (eqb k n) (has k ks) t))

pub not_it : (k n : ℕ) (ks : List ℕ) → has n ks ≡ false → has k ks ≡ true → k ≡ n → ⊥
not_it k n ks f t e = false≢true (sym f ∙ (ap (λ i. has i ks) (sym e) ∙ t))

pub quiet_later : {X : Type 0} (n : ℕ) (ks : List ℕ) (xs : List (ℕ × X)) → calls (n ∷ ks) xs ≡ [] → calls ks xs ≡ []
quiet_later n ks [] q = refl
quiet_later n ks (x ∷ xs) q = quiet_cons ks x xs (has_later x.0 n ks (quiet_head (n ∷ ks) x xs q)) (quiet_later n ks xs (quiet_tail (n ∷ ks) x xs q))

pub past_self : {X : Type 0} (xs : List (ℕ × X)) (ks : List ℕ) → Past xs xs ks
past_self xs ks = record { rest = []; whole = sym (append-nil xs); quiet = refl }

pub past_nothing : {X : Type 0} (xs : List (ℕ × X)) → Past xs [] []
past_nothing xs = record { rest = xs; whole = refl; quiet = calls_none xs }

-- the history goes on by entries of none of these numbers
pub past_more : {X : Type 0} (log seen : List (ℕ × X)) (ks : List ℕ) (more : List (ℕ × X)) → Past log seen ks → calls ks more ≡ [] → Past (log ++ more) seen ks
past_more log seen ks more p q = record {
  rest = p.rest ++ more;
  whole = ap (λ xs. xs ++ more) p.whole ∙ append_assoc seen p.rest more;
  quiet = quiet_append ks p.rest more p.quiet q;
}

-- the calls of numbers after an entry of one of them
pub calls_grown : {X : Type 0} (ks : List ℕ) (xs : List (ℕ × X)) (by : ℕ) (x : X) (recorded : Bool) → has by ks ≡ true → calls ks (grown xs by x recorded) ≡ grown (calls ks xs) by x recorded
calls_grown ks xs by x true h = let one : calls ks ((by, x) ∷ []) ≡ (by, x) ∷ [] = rw h refl in calls_append ks xs ((by, x) ∷ []) ∙ ap (λ zs. calls ks xs ++ zs) one
calls_grown ks xs by x false h = refl

pub calls_still : {X : Type 0} (ks : List ℕ) (xs ys : List (ℕ × X)) → calls ks ys ≡ [] → calls ks (xs ++ ys) ≡ calls ks xs
calls_still ks xs ys q = calls_append ks xs ys ∙ (ap (λ zs. calls ks xs ++ zs) q ∙ append-nil (calls ks xs))

-- of two beginnings of one list the shorter begins the longer
front_of : {X : Type 0} (xs ys a b : List X) → xs ++ a ≡ ys ++ b → length xs ≤ length ys → (m : List X) × (ys ≡ xs ++ m) × (a ≡ m ++ b)
front_of [] ys a b e le = (ys, refl, e)
front_of (x ∷ xs) [] a b e le = absurd (omega arith)
front_of (x ∷ xs) (y ∷ ys) a b e le =
    let h : x ≡ y = cc in
    let t : xs ++ a ≡ ys ++ b = cc in
    let r = front_of xs ys a b t (omega arith) in
    let f : y ∷ ys ≡ x ∷ (xs ++ r.0) = cc (h, r.1) in
    (r.0, f, r.2)

record Within {X : Type 0} (xs ys rest : List (ℕ × X)) (ks : List ℕ) : Type 0 where
  inside : Past ys xs ks
  after : calls ks rest ≡ []

within : {X : Type 0} (log xs ys : List (ℕ × X)) (ks js : List ℕ) (p : Past log xs ks) (q : Past log ys js) → length xs ≤ length ys → Within xs ys q.rest ks
within log xs ys ks js p q le =
    let f = front_of xs ys p.rest q.rest (sym p.whole ∙ q.whole) le in
    let quiet : calls ks (f.0 ++ q.rest) ≡ [] = ap (λ zs. calls ks zs) (sym f.2) ∙ p.quiet in
    record {
      inside = record { rest = f.0; whole = f.1; quiet = quiet_front ks f.0 q.rest quiet };
      after = quiet_rest ks f.0 q.rest quiet;
    }

-- two that had seen beginnings of one history: the longer one, and what each of them knew
pub record Both {X : Type 0} (log xs ys zs : List (ℕ × X)) (ks js : List ℕ) : Type 0 where
  pub past : Past log zs (ks ++ js)
  pub mine : Past zs xs ks
  pub other : Past zs ys js

pub both_past : {X : Type 0} (log xs ys : List (ℕ × X)) (ks js : List ℕ) → Past log xs ks → Past log ys js → Both log xs ys (longer xs ys) ks js
both_past log xs ys ks js p q =
    cond_both (ltb (length xs) (length ys)) ys xs (λ zs. Both log xs ys zs ks js)
    (λ t.
    let le = ltb-true (length xs) (length ys) t in
    let w = within log xs ys ks js p q (omega arith) in
    record { past = record { rest = q.rest; whole = q.whole; quiet = quiet_both ks js q.rest w.after q.quiet }; mine = w.inside; other = past_self ys js })
    (λ t.
    let le = ltb-false (length xs) (length ys) t in
    let w = within log ys xs js ks q p (omega arith) in
    record { past = record { rest = p.rest; whole = p.whole; quiet = quiet_both ks js p.rest p.quiet w.after }; mine = past_self xs ks; other = w.inside })

pub longer_self : {X : Type 0} (xs : List X) → longer xs xs ≡ xs
longer_self xs = cond_both (ltb (length xs) (length xs)) xs xs (λ zs. zs ≡ xs) (λ t. refl) (λ t. refl)

-- which of two is the longer one
pub longer_is : {X : Type 0} (xs ys : List X) → (longer xs ys ≡ ys) ⊎ (longer xs ys ≡ xs)
longer_is xs ys = cond_both (ltb (length xs) (length ys)) ys xs (λ zs. (zs ≡ ys) ⊎ (zs ≡ xs)) (λ t. inl refl) (λ t. inr refl)

-- a number of ks has no entry where ks has none
pub quiet_less : {X : Type 0} (ks : List ℕ) (by : ℕ) (xs : List (ℕ × X)) → has by ks ≡ true → calls ks xs ≡ [] → calls (by ∷ []) xs ≡ []
quiet_less ks by [] h q = refl
quiet_less ks by (x ∷ xs) h q =
    let f = quiet_head ks x xs q in
    let g : has x.0 (by ∷ []) ≡ false = has_else x.0 by (λ e. false≢true (sym f ∙ (ap (λ k. has k ks) e ∙ h))) in
    quiet_cons (by ∷ []) x xs g (quiet_less ks by xs h (quiet_tail ks x xs q))

pub past_calls : {X : Type 0} (zs xs : List (ℕ × X)) (ks : List ℕ) → Past zs xs ks → calls ks zs ≡ calls ks xs
past_calls zs xs ks p = ap (λ h. calls ks h) p.whole ∙ calls_still ks xs p.rest p.quiet

calls_step : {X : Type 0} (ks js : List ℕ) (x : ℕ × X) (xs : List (ℕ × X)) (b c : Bool) → has x.0 ks ≡ b → has x.0 js ≡ c → (b ≡ true → c ≡ false)
    → length (calls (ks ++ js) xs) ≡ length (calls ks xs) + length (calls js xs) → length (calls (ks ++ js) (x ∷ xs)) ≡ length (calls ks (x ∷ xs)) + length (calls js (x ∷ xs))
calls_step ks js x xs true true t u apart ih = absurd (false≢true (sym (apart refl)))
calls_step ks js x xs true false t u apart ih =
    let a : has x.0 (ks ++ js) ≡ true = has_append x.0 ks js ∙ or_left (has x.0 ks) (has x.0 js) t in
    rw (a, t, u) (omega (arith, ih))
calls_step ks js x xs false true t u apart ih =
    let a : has x.0 (ks ++ js) ≡ true = has_append x.0 ks js ∙ or_right (has x.0 ks) (has x.0 js) u in
    rw (a, t, u) (omega (arith, ih))
calls_step ks js x xs false false t u apart ih =
    let a : has x.0 (ks ++ js) ≡ false = has_append x.0 ks js ∙ or_from (has x.0 ks) (has x.0 js) t u in
    rw (a, t, u) ih

-- the calls of both are the calls of the one and of the other
pub calls_two : {X : Type 0} (ks js : List ℕ) (xs : List (ℕ × X)) → ((k : ℕ) → has k ks ≡ true → has k js ≡ false) → length (calls (ks ++ js) xs) ≡ length (calls ks xs) + length (calls js xs)
calls_two ks js [] apart = refl
calls_two ks js (x ∷ xs) apart = calls_step ks js x xs (has x.0 ks) (has x.0 js) refl refl (apart x.0) (calls_two ks js xs apart)
