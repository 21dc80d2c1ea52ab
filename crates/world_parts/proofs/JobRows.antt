-- Jobs by rising version, and the same jobs with the newest first.
use Rattle.std.proofs.Common.{◌≡◌, ℕ, ◌<◌, Bool, true, false, cond, List, [], ◌∷◌, ◌++◌, refl, sym, ap, ◌∙◌}
use Rattle.std.specs.Prelude.{◌==◌, ◌&&◌, filter, find, map, not, reverse, Option, Some, None, is_some, option_map, if◌then◌else◌}
use Rattle.std.specs.Option.{option_or}
use Rattle.std.specs.BTreeMap.{is_at, insert_entry}
use Rattle.std.specs.Cmp.{nat_cmp_is}
use Rattle.std.specs.List.{AllByRecursion}
use Rattle.std.specs.List.Sorted.{IsStrictlySortedBy}
use Rattle.std.specs.Map.{keys_of, lookup, remove_entry}
use Rattle.std.specs.Ordering.{nat_cmp, is_eq, match_ordering}
use Rattle.std.specs.declared.cmp.Ordering.{Ordering}
use Rattle.std.specs.declared.cmp.Ordering.TheVariants.{Less, Equal, Greater}
use Rattle.std.proofs.Math.Path.{subst}
use Rattle.std.proofs.lemmas.Bool.{false≢true, eqb-true, eq-eqb}
use Rattle.std.proofs.lemmas.List.{reverse-append}
use Rattle.std.proofs.lemmas.List.Elements.{filter-append}
use Rattle.std.proofs.lemmas.List.Folds.{find-append}
use Rattle.std.proofs.lemmas.Map.Lookups.{exact_unsigned}
use Rattle.core_model.specs.Names.{Name, same_name}
use Rattle.core_model.proofs.Naming.{same_test}
use Rattle.world_model.specs.World as model
use Rattle.world_model.specs.Editing.{is_job}
use Rattle.world_parts.specs.Jobs.{job_of, issued_of, key_of}
use Rattle.world_parts.specs.declared.jobs.Job.{Job}

abbrev Rows : Type 0
Rows = List (ℕ × Job)

equal_is : (o : Ordering) → is_eq o ≡ true → o ≡ Equal
equal_is Less h = absurd (false≢true h)
equal_is Equal h = refl
equal_is Greater h = absurd (false≢true h)

same_at : (v k : ℕ) → is_at (nat_cmp v) k ≡ (k == v)
same_at v k = same_test _ _
    (λ h. eq-eqb k v (sym (exact_unsigned v k (equal_is (nat_cmp v k) h))))
    (λ h. subst (λ w. is_eq (nat_cmp w k) ≡ true) (eqb-true k v h) (ap is_eq (sym (nat_cmp_is k k Equal refl))))

-- no job of a version stands above a lesser key
above : (v : ℕ) (n : Name) (b : Bool) (row : ℕ × Job) → (row.0 == v) ≡ b → nat_cmp v row.0 ≡ Less → b ≡ false
above v n true row e h = absurd (false≢true (ap is_eq (sym h) ∙ same_at v row.0 ∙ e))
above v n false row e h = refl

none_at : (v : ℕ) (rows : Rows) → AllByRecursion (λ k. nat_cmp v k ≡ Less) (keys_of rows) → lookup (is_at (nat_cmp v)) rows ≡ None
none_at v [] h = refl
none_at v (row ∷ rows) h = ap (λ o. cond (is_eq o) (Some row.1) (lookup (is_at (nat_cmp v)) rows)) h.0 ∙ none_at v rows h.1

-- the job of a version, where it has this name
abbrev pub named : ℕ → Name → Option Job → Option model.Job
named v n None = None
named v n (Some job) = if same_name job.name n then Some (job_of (v, job)) else None

found_step : (v : ℕ) (n : Name) (b : Bool) (row : ℕ × Job) (rest : Option Job) → (row.0 == v) ≡ b → (b ≡ true → rest ≡ None)
    → option_or (named v n rest) (cond (same_name row.1.name n && (row.0 == v)) (Some (job_of row)) None) ≡ named v n (cond b (Some row.1) rest)
found_step v n true row rest e h = ap (λ o. option_or (named v n o) (cond (same_name row.1.name n && (row.0 == v)) (Some (job_of row)) None)) (h refl) ∙ here (same_name row.1.name n)
  where
    here : (same : Bool) → cond (same && (row.0 == v)) (Some (job_of row)) None ≡ (if same then Some (job_of (v, row.1)) else None)
    here true = ap (λ b. cond b (Some (job_of row)) None) e ∙ ap (λ k. Some (job_of (k, row.1))) (eqb-true row.0 v e)
    here false = refl
found_step v n false row rest e h = ap (λ b. option_or (named v n rest) (cond b (Some (job_of row)) None)) (not_both (same_name row.1.name n)) ∙ or_none (named v n rest)
  where
    not_both : (same : Bool) → (same && (row.0 == v)) ≡ false
    not_both true = e
    not_both false = refl

    or_none : (o : Option model.Job) → option_or o None ≡ o
    or_none None = refl
    or_none (Some j) = refl

pub found_is : (v : ℕ) (n : Name) (rows : Rows) → IsStrictlySortedBy nat_cmp (keys_of rows) → find (is_job n v) (issued_of rows) ≡ named v n (lookup (is_at (nat_cmp v)) rows)
unfolding IsStrictlySortedBy
found_is v n [] s = refl
found_is v n (row ∷ rows) s =
    find-append (is_job n v) (issued_of rows) (job_of row ∷ [])
    ∙ ap (λ o. option_or o (cond (is_job n v (job_of row)) (Some (job_of row)) None)) (found_is v n rows s.1)
    ∙ found_step v n (row.0 == v) row (lookup (is_at (nat_cmp v)) rows) refl (λ e. none_at v rows (subst (λ k. AllByRecursion (λ m. nat_cmp k m ≡ Less) (keys_of rows)) (eqb-true row.0 v e) s.0))
    ∙ ap (λ b. named v n (cond b (Some row.1) (lookup (is_at (nat_cmp v)) rows))) (sym (same_at v row.0))

-- where no job is of the name and version, none is left out
all_step : {X : Type 0} (test : X → Bool) (b : Bool) (x : X) (xs rest : List X) → is_some (cond b (Some x) (find test xs)) ≡ false → (is_some (find test xs) ≡ false → rest ≡ xs) → cond (not b) (x ∷ rest) rest ≡ x ∷ xs
all_step test true x xs rest h f = absurd (false≢true (sym h))
all_step test false x xs rest h f = ap (λ l. x ∷ l) (f h)

pub all_stay : {X : Type 0} (test : X → Bool) (xs : List X) → is_some (find test xs) ≡ false → filter (λ x. not (test x)) xs ≡ xs
all_stay test [] h = refl
all_stay test (x ∷ xs) h = all_step test (test x) x xs (filter (λ x. not (test x)) xs) h (all_stay test xs)

pub none_found : {X : Type 0} (test : X → Bool) (xs : List X) → is_some (find test xs) ≡ false → find test xs ≡ None
none_found test xs h = none_is (find test xs) h
  where
    none_is : {X : Type 0} (o : Option X) → is_some o ≡ false → o ≡ None
    none_is None k = refl
    none_is (Some x) k = absurd (false≢true (sym k))

named_none : (v : ℕ) (n : Name) (o : Option Job) → o ≡ None → is_some (named v n o) ≡ false
named_none v n None h = refl
named_none v n (Some job) h = absurd (false≢true (ap is_some (sym h)))

-- the job that a look-up finds has the name
abbrev pub IsNamed : Name → Option Job → Type 0
IsNamed n o = (job : Job) → o ≡ Some job → same_name job.name n ≡ true

left_here : (v : ℕ) (n : Name) (row : ℕ × Job) (rows : Rows) → (row.0 == v) ≡ true → same_name row.1.name n ≡ true → filter (λ j. not (is_job n v j)) (issued_of rows) ≡ issued_of rows → filter (λ j. not (is_job n v j)) (issued_of (row ∷ rows)) ≡ issued_of rows
left_here v n row rows e same h =
    filter-append (λ j. not (is_job n v j)) (issued_of rows) (job_of row ∷ [])
    ∙ ap (λ b. filter (λ j. not (is_job n v j)) (issued_of rows) ++ cond (not b) (job_of row ∷ []) []) (ap (λ b. b && (row.0 == v)) same ∙ e)
    ∙ append_none (filter (λ j. not (is_job n v j)) (issued_of rows))
    ∙ h
  where
    append_none : {X : Type 0} (xs : List X) → xs ++ [] ≡ xs
    append_none [] = refl
    append_none (x ∷ xs) = ap (λ l. x ∷ l) (append_none xs)

left_later : (v : ℕ) (n : Name) (row : ℕ × Job) (rows rest : Rows) → (row.0 == v) ≡ false → filter (λ j. not (is_job n v j)) (issued_of rows) ≡ issued_of rest → filter (λ j. not (is_job n v j)) (issued_of (row ∷ rows)) ≡ issued_of (row ∷ rest)
left_later v n row rows rest e h =
    filter-append (λ j. not (is_job n v j)) (issued_of rows) (job_of row ∷ [])
    ∙ ap (λ b. filter (λ j. not (is_job n v j)) (issued_of rows) ++ cond (not b) (job_of row ∷ []) []) (not_both (same_name row.1.name n))
    ∙ ap (λ l. l ++ job_of row ∷ []) h
  where
    not_both : (same : Bool) → (same && (row.0 == v)) ≡ false
    not_both true = e
    not_both false = refl

left_step : (v : ℕ) (n : Name) (b : Bool) (row : ℕ × Job) (rows : Rows) → (row.0 == v) ≡ b → is_at (nat_cmp v) row.0 ≡ b
    → (b ≡ true → filter (λ j. not (is_job n v j)) (issued_of rows) ≡ issued_of rows) → IsNamed n (cond b (Some row.1) (lookup (is_at (nat_cmp v)) rows))
    → (IsNamed n (lookup (is_at (nat_cmp v)) rows) → filter (λ j. not (is_job n v j)) (issued_of rows) ≡ issued_of (remove_entry (is_at (nat_cmp v)) rows))
    → filter (λ j. not (is_job n v j)) (issued_of (row ∷ rows)) ≡ issued_of (cond b rows (row ∷ remove_entry (is_at (nat_cmp v)) rows))
left_step v n true row rows e f none same more = left_here v n row rows e (same row.1 refl) (none refl)
left_step v n false row rows e f none same more = left_later v n row rows (remove_entry (is_at (nat_cmp v)) rows) e (more same)

-- the jobs that are left without the one of a version, where that one has the name
pub left_is : (v : ℕ) (n : Name) (rows : Rows) → IsStrictlySortedBy nat_cmp (keys_of rows) → IsNamed n (lookup (is_at (nat_cmp v)) rows) → filter (λ j. not (is_job n v j)) (issued_of rows) ≡ issued_of (remove_entry (is_at (nat_cmp v)) rows)
unfolding IsStrictlySortedBy
left_is v n [] s same = refl
left_is v n (row ∷ rows) s same =
    let e : (row.0 == v) ≡ is_at (nat_cmp v) row.0 = sym (same_at v row.0) in
    left_step v n (is_at (nat_cmp v) row.0) row rows e refl
    (λ t. all_stay (is_job n v) (issued_of rows) (ap is_some (found_is v n rows s.1) ∙ named_none v n _ (none_at v rows (subst (λ k. AllByRecursion (λ m. nat_cmp k m ≡ Less) (keys_of rows)) (eqb-true row.0 v (e ∙ t)) s.0))))
    same (left_is v n rows s.1)

-- the job that is found by name and version is that of the version
is_named_by : (v : ℕ) (n : Name) (o : Option Job) → is_some (named v n o) ≡ true → IsNamed n o
is_named_by v n None h job e = absurd (false≢true (ap is_some e))
is_named_by v n (Some job) h other e = named_here (same_name job.name n) refl
  where
    named_here : (same : Bool) → same_name job.name n ≡ same → same_name other.name n ≡ true
    named_here true k = subst (λ o. IfNamed o) e k
      where
        IfNamed : Option Job → Type 0
        IfNamed None = same_name job.name n ≡ true
        IfNamed (Some j) = same_name j.name n ≡ true
    named_here false k = absurd (false≢true (ap is_some (ap (λ b. if b then Some (job_of (v, job)) else None) (sym k)) ∙ h))

pub named_at : (v : ℕ) (n : Name) (rows : Rows) → IsStrictlySortedBy nat_cmp (keys_of rows) → is_some (find (is_job n v) (issued_of rows)) ≡ true → IsNamed n (lookup (is_at (nat_cmp v)) rows)
named_at v n rows s h = is_named_by v n _ (ap is_some (sym (found_is v n rows s)) ∙ h)

text_of : (v : ℕ) (n : Name) (o : Option Job) → is_some (named v n o) ≡ true → option_map (λ (j : model.Job). j.text) (named v n o) ≡ option_map (λ (j : Job). j.text.items) o
text_of v n None h = refl
text_of v n (Some job) h = text_here (same_name job.name n) h
  where
    text_here : (same : Bool) → is_some (if same then Some (job_of (v, job)) else None) ≡ true → option_map (λ (j : model.Job). j.text) (if same then Some (job_of (v, job)) else None) ≡ Some job.text.items
    text_here true k = refl
    text_here false k = absurd (false≢true k)

pub text_at : (v : ℕ) (n : Name) (rows : Rows) → IsStrictlySortedBy nat_cmp (keys_of rows) → is_some (find (is_job n v) (issued_of rows)) ≡ true → option_map (λ (j : model.Job). j.text) (find (is_job n v) (issued_of rows)) ≡ option_map (λ (j : Job). j.text.items) (lookup (is_at (nat_cmp v)) rows)
text_at v n rows s h = ap (option_map (λ (j : model.Job). j.text)) (found_is v n rows s) ∙ text_of v n _ (ap is_some (sym (found_is v n rows s)) ∙ h)

-- whether the job of a version has the name
pub some_named : (v : ℕ) (n : Name) (job : Job) → is_some (named v n (Some job)) ≡ same_name job.name n
some_named v n job = some_if (same_name job.name n)
  where
    some_if : (b : Bool) → is_some (if b then Some (job_of (v, job)) else None) ≡ b
    some_if true = refl
    some_if false = refl

pub has_is : (v : ℕ) (n : Name) (rows : Rows) (o : Option Job) → IsStrictlySortedBy nat_cmp (keys_of rows) → o ≡ lookup (is_at (nat_cmp v)) rows → is_some (find (is_job n v) (issued_of rows)) ≡ is_some (named v n o)
has_is v n rows o s e = ap is_some (found_is v n rows s) ∙ ap (λ x. is_some (named v n x)) (sym e)

pub none_named : (v : ℕ) (n : Name) → is_some (named v n None) ≡ false
none_named v n = refl

-- the text of the job of a version, where it has the name
pub text_named : (v : ℕ) (n : Name) (job : Job) (b : Bool) → b ≡ same_name job.name n → (if b then Some job.text.items else None) ≡ option_map (λ (j : model.Job). j.text) (named v n (Some job))
text_named v n job b e = text_if b ∙ ap (λ same. option_map (λ (j : model.Job). j.text) (if same then Some (job_of (v, job)) else None)) e
  where
    text_if : (b : Bool) → (if b then Some job.text.items else None) ≡ option_map (λ (j : model.Job). j.text) (if b then Some (job_of (v, job)) else None)
    text_if true = refl
    text_if false = refl

-- the text of the job that is found, by the job of the version
pub text_by : (v : ℕ) (n : Name) (rows : Rows) (o : Option Job) → IsStrictlySortedBy nat_cmp (keys_of rows) → o ≡ lookup (is_at (nat_cmp v)) rows → option_map (λ (j : model.Job). j.text) (named v n o) ≡ option_map (λ (j : model.Job). j.text) (find (is_job n v) (issued_of rows))
text_by v n rows o s e = ap (λ x. option_map (λ (j : model.Job). j.text) (named v n x)) e ∙ ap (option_map (λ (j : model.Job). j.text)) (sym (found_is v n rows s))

-- One job more, of a version above all others.

last_of : {X : Type 0} (P : X → Type 0) (xs : List X) (x : X) → AllByRecursion P (xs ++ x ∷ []) → AllByRecursion P xs × P x
last_of P [] x h = (tt, h.0)
last_of P (y ∷ xs) x h = let more = last_of P xs x h.1 in ((h.0, more.0), more.1)

pub added_is : (v : ℕ) (job : Job) (rows : Rows) → AllByRecursion (λ (j : model.Job). j.version < v) (issued_of rows) → issued_of (insert_entry nat_cmp rows v job) ≡ job_of (v, job) ∷ issued_of rows
added_is v job [] h = refl
added_is v job (row ∷ rows) h =
    let below = last_of (λ (j : model.Job). j.version < v) (issued_of rows) (job_of row) h in
    ap (λ o. issued_of (match_ordering o ((v, job) ∷ row ∷ rows) ((row.0, job) ∷ rows) (row ∷ insert_entry nat_cmp rows v job))) (sym (nat_cmp_is v row.0 Greater below.1))
    ∙ ap (λ l. l ++ job_of row ∷ []) (added_is v job rows below.0)

-- The jobs in the order of their versions.

pub reverse_issued : (rows : Rows) → reverse (issued_of rows) ≡ map job_of rows
reverse_issued [] = refl
reverse_issued (row ∷ rows) = reverse-append (issued_of rows) (job_of row ∷ []) ∙ ap (λ l. job_of row ∷ l) (reverse_issued rows)

pub keys_are : (rows : Rows) → map (λ row. key_of (job_of row)) rows ≡ map key_of (reverse (issued_of rows))
keys_are rows = keys_step rows ∙ ap (map key_of) (sym (reverse_issued rows))
  where
    keys_step : (rows : Rows) → map (λ row. key_of (job_of row)) rows ≡ map key_of (map job_of rows)
    keys_step [] = refl
    keys_step (row ∷ rows) = ap (λ l. key_of (job_of row) ∷ l) (keys_step rows)
