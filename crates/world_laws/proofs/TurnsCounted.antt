-- Counting: what filters leave, and the parts of a debt.
use Rattle.std.proofs.Common.{◌≡◌, ◌⊎◌, inl, inr, ℕ, ◌<◌, ◌≤◌, Bool, true, false, List, [], ◌∷◌, length, refl, ap, sym, ◌∙◌, arith}
use Rattle.std.specs.Prelude.{filter, ◌||◌, not, Option, Some, is_some, if◌then◌else◌}
use Rattle.std.specs.List.{list_all}
use Rattle.std.proofs.lemmas.Bool.{false≢true}
use Rattle.core_model.specs.Names.{Name, same_name, has, at, without}
use Rattle.core_model.proofs.Naming.{same_true, true_same, cases_bool, both_true, and_both, or_left, or_right}
use Rattle.world_model.specs.CaughtUp.{is_empty}

at_most : {X : Type 0} → (a b : Bool) (x : X) (xs ys : List X) → (a ≡ true → b ≡ true) → length xs ≤ length ys → length (if a then x ∷ xs else xs) ≤ length (if b then x ∷ ys else ys)
at_most true true x xs ys f l = omega (arith, l)
at_most true false x xs ys f l = absurd (false≢true (f refl))
at_most false true x xs ys f l = omega (arith, l)
at_most false false x xs ys f l = l

-- where fewer pass, no more are left
no_more : {X : Type 0} → (p q : X → Bool) (xs : List X) → ((x : X) → q x ≡ true → p x ≡ true) → length (filter q xs) ≤ length (filter p xs)
no_more p q [] f = omega arith
no_more p q (x ∷ xs) f = at_most (q x) (p x) x (filter q xs) (filter p xs) (f x) (no_more p q xs f)

pub all_pass : {X : Type 0} → (xs : List X) → filter (λ x. true) xs ≡ xs
all_pass [] = refl
all_pass (x ∷ xs) = ap (λ l. x ∷ l) (all_pass xs)

less_at : (a b : Bool) (n : Name) (xs ys : List Name) → (a ≡ true → b ≡ true) → length xs < length ys → length (if a then n ∷ xs else xs) < length (if b then n ∷ ys else ys)
less_at true true n xs ys f l = omega (arith, l)
less_at true false n xs ys f l = absurd (false≢true (f refl))
less_at false true n xs ys f l = omega (arith, l)
less_at false false n xs ys f l = l

here : (a b : Bool) (n : Name) (xs ys : List Name) → a ≡ false → b ≡ true → length xs ≤ length ys → length (if a then n ∷ xs else xs) < length (if b then n ∷ ys else ys)
here false true n xs ys e g l = omega (arith, l)
here true b n xs ys e g l = absurd (false≢true (sym e))
here false false n xs ys e g l = absurd (false≢true g)

less_step : (p q : Name → Bool) (m n : Name) (ns : List Name) → ((k : Name) → q k ≡ true → p k ≡ true) → p m ≡ true → q m ≡ false → (has ns m ≡ true → length (filter q ns) < length (filter p ns)) → (same_name n m ≡ true) ⊎ (same_name n m ≡ false) → (same_name n m || has ns m) ≡ true → length (filter q (n ∷ ns)) < length (filter p (n ∷ ns))
less_step p q m n ns f pm qm ih (inl e) h = here (q n) (p n) n (filter q ns) (filter p ns) (ap q (same_true n m e) ∙ qm) (ap p (same_true n m e) ∙ pm) (no_more p q ns f)
less_step p q m n ns f pm qm ih (inr e) h = less_at (q n) (p n) n (filter q ns) (filter p ns) (f n) (ih (sym (ap (λ b. b || has ns m) e) ∙ h))

-- where a name of the list passes no more, fewer are left
pub less : (p q : Name → Bool) (m : Name) (ns : List Name) → ((k : Name) → q k ≡ true → p k ≡ true) → p m ≡ true → q m ≡ false → has ns m ≡ true → length (filter q ns) < length (filter p ns)
less p q m [] f pm qm h = absurd (false≢true h)
less p q m (n ∷ ns) f pm qm h = less_step p q m n ns f pm qm (less p q m ns f pm qm) (cases_bool (same_name n m)) h

without_step : {X : Type 0} → (b : Bool) (row : Name × X) (rest rows : List (Name × X)) (o : Option X) → is_some (if b then Some row.1 else o) ≡ true → length rest ≤ length rows → (is_some o ≡ true → length rest < length rows) → length (if not b then row ∷ rest else rest) < length (row ∷ rows)
without_step true row rest rows o h l f = omega (arith, l)
without_step false row rest rows o h l f = omega (arith, f h)

pub fewer : {X : Type 0} → (p : X → Bool) (xs : List X) → length (filter p xs) ≤ length xs
fewer p xs = omega (arith, no_more (λ x. true) p xs (λ x h. refl), ap length (all_pass xs))

-- without a name's own, fewer entries are left
pub without_less : {X : Type 0} → (n : Name) (rows : List (Name × X)) → is_some (at rows n) ≡ true → length (without n rows) < length rows
without_less n [] h = absurd (false≢true h)
without_less n (row ∷ rows) h = without_step (same_name row.0 n) row (without n rows) rows (at rows n) h (fewer _ rows) (without_less n rows)

pub all_from : (q : Name → Bool) (names : List Name) → ((n : Name) → has names n ≡ true → q n ≡ true) → list_all q names ≡ true
all_from q [] f = refl
all_from q (n ∷ names) f = and_both (q n) _ (f n (or_left (same_name n n) _ (true_same n n refl))) (all_from q names (λ m h. f m (or_right (same_name n m) _ h)))

all_step : (q : Name → Bool) (n m : Name) (listed rest : Bool) → (same_name n m ≡ true) ⊎ (same_name n m ≡ false) → (q n ≡ true) × (rest ≡ true) → (same_name n m || listed) ≡ true → (rest ≡ true → listed ≡ true → q m ≡ true) → q m ≡ true
all_step q n m listed rest (inl e) h k f = ap q (sym (same_true n m e)) ∙ h.0
all_step q n m listed rest (inr e) h k f = f h.1 (sym (ap (λ b. b || listed) e) ∙ k)

pub all_at : (q : Name → Bool) (names : List Name) → list_all q names ≡ true → (n : Name) → has names n ≡ true → q n ≡ true
all_at q [] h n k = absurd (false≢true k)
all_at q (m ∷ names) h n k = all_step q m n (has names n) (list_all q names) (cases_bool (same_name m n)) (both_true (q m) (list_all q names) h) k (λ r. all_at q names r n)

-- The parts of a debt.

pub at_most_one : (b : Bool) → (if b then 0 else 1) ≤ 1
at_most_one true = omega arith
at_most_one false = omega arith

pub at_most_all : (b : Bool) (n : ℕ) → (if b then 0 else n) ≤ n
at_most_all true n = omega arith
at_most_all false n = omega arith

pub if_true : (b : Bool) (n m : ℕ) → b ≡ true → (if b then n else m) ≡ n
if_true true n m e = refl
if_true false n m e = absurd (false≢true e)

pub if_false : (b : Bool) (n m : ℕ) → b ≡ false → (if b then n else m) ≡ m
if_false true n m e = absurd (false≢true (sym e))
if_false false n m e = refl

pub no_length : {X : Type 0} → (xs : List X) → length xs ≤ 0 → is_empty xs ≡ true
no_length [] h = refl
no_length (x ∷ xs) h = absurd (omega (arith, h))
