-- Tables that the test takes for the same are the same.
use Rattle.std.proofs.Common.{◌≡◌, ℕ, true, List, [], ◌∷◌, refl, ap, ◌∙◌, Option, Some, None}
use Rattle.std.specs.Prelude.{nat_eq}
use Rattle.std.proofs.lemmas.Bool.{and_from, and_parts, eq-eqb, eqb-true, false≢true}
use Rattle.core_model.proofs.Naming.{same_true, true_same}
use Rattle.core_model.specs.Names.{Name, same_name}
use Rattle.record_laws.specs.Resting.{is_page_with, is_same_row, is_same_table}

row_same : (p q : Name × ℕ) → is_same_row p q ≡ true → p ≡ q
row_same p q h =
    let both = and_parts (same_name p.0 q.0) (nat_eq p.1 q.1) h in
    ap (λ n. (n, p.1)) (same_true p.0 q.0 both.0) ∙ ap (λ v. (q.0, v)) (eqb-true p.1 q.1 both.1)

same_row : (p : Name × ℕ) → is_same_row p p ≡ true
same_row p = and_from (same_name p.0 p.0) (nat_eq p.1 p.1) (true_same p.0 p.0 refl) (eq-eqb p.1 p.1 refl)

pub table_same : (ps qs : List (Name × ℕ)) → is_same_table ps qs ≡ true → ps ≡ qs
table_same [] [] h = refl
table_same [] (q ∷ qs) h = absurd (false≢true h)
table_same (p ∷ ps) [] h = absurd (false≢true h)
table_same (p ∷ ps) (q ∷ qs) h =
    let both = and_parts (is_same_row p q) (is_same_table ps qs) h in
    ap (λ r. r ∷ ps) (row_same p q both.0) ∙ ap (λ rs. q ∷ rs) (table_same ps qs both.1)

pub same_table : (ps : List (Name × ℕ)) → is_same_table ps ps ≡ true
same_table [] = refl
same_table (p ∷ ps) = and_from (is_same_row p p) (is_same_table ps ps) (same_row p) (same_table ps)

pub page_same : (page : Option (List (Name × ℕ))) (table : List (Name × ℕ)) → is_page_with page table ≡ true → page ≡ Some table
page_same None table h = absurd (false≢true h)
page_same (Some page) table h = ap Some (table_same page table h)

pub same_page : (page : Option (List (Name × ℕ))) (table : List (Name × ℕ)) → page ≡ Some table → is_page_with page table ≡ true
same_page page table h = ap (λ p. is_page_with p table) h ∙ same_table table
