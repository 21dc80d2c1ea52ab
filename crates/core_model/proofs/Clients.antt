-- Clients by number, looked up.
use Rattle.std.proofs.Common.{◌≡◌, ℕ, Bool, true, false, List, [], ◌∷◌, refl, ap, sym, ◌∙◌}
use Rattle.std.specs.Prelude.{cond, not, ◌==◌, Option, Some, None, option_map, if◌then◌else◌}
use Rattle.std.proofs.lemmas.Bool.{eqb-true, eq-eqb, false≢true}
use Rattle.core_model.specs.Core.{client_at, without_client, with_client, each_client}
use Rattle.core_model.proofs.Naming.{same_test}
use Rattle.core_model.proofs.Tables.{both_ways, without_step}
use Prim.{⊥}

pub either_way : (k j : ℕ) → (k == j) ≡ (j == k)
either_way k j = same_test _ _ (λ h. eq-eqb j k (sym (eqb-true k j h))) (λ h. eq-eqb k j (sym (eqb-true j k h)))

module _ {X : Type 0} where
  filtered_row : (keep : Bool) (row : ℕ × X) (rows : List (ℕ × X)) (j : ℕ) → client_at (cond keep (row ∷ rows) rows) j ≡ (if keep then (if row.0 == j then Some row.1 else client_at rows j) else client_at rows j)
  filtered_row true row rows j = refl
  filtered_row false row rows j = refl

  pub at_without : (i : ℕ) (rows : List (ℕ × X)) (j : ℕ) → client_at (without_client i rows) j ≡ (if i == j then None else client_at rows j)
  at_without i [] j = both_ways (i == j) None
  at_without i (row ∷ rows) j = filtered_row (not (row.0 == i)) row (without_client i rows) j
      ∙ without_step (row.0 == i) (row.0 == j) (i == j) row.1 (client_at rows j) (client_at (without_client i rows) j) (λ e. ap (λ k. k == i) (eqb-true row.0 j e) ∙ either_way j i) (at_without i rows j)

  first_wins : (b : Bool) (x y : X) (o : Option X) → (if b then Some x else o) ≡ (if b then Some x else (if b then Some y else o))
  first_wins true x y o = refl
  first_wins false x y o = refl

  either_order : (a b : Bool) (x y : X) (o : Option X) → (a ≡ true → b ≡ true → ⊥) → (if a then Some y else (if b then Some x else o)) ≡ (if b then Some x else (if a then Some y else o))
  either_order true true x y o apart = absurd (apart refl refl)
  either_order true false x y o apart = refl
  either_order false true x y o apart = refl
  either_order false false x y o apart = refl

  placed : (same : Bool) (i : ℕ) (x : X) (row : ℕ × X) (rows rest : List (ℕ × X)) (j : ℕ) → (row.0 == i) ≡ same → client_at rest j ≡ (if i == j then Some x else client_at rows j)
      → client_at (if same then (i, x) ∷ rows else row ∷ rest) j ≡ (if i == j then Some x else client_at (row ∷ rows) j)
  placed true i x row rows rest j e h = first_wins (i == j) x row.1 (client_at rows j) ∙ ap (λ k. if i == j then Some x else (if k == j then Some row.1 else client_at rows j)) (sym (eqb-true row.0 i e))
  placed false i x row rows rest j e h = ap (λ o. if row.0 == j then Some row.1 else o) h
      ∙ either_order (row.0 == j) (i == j) x row.1 (client_at rows j) (λ p q. false≢true (sym e ∙ eq-eqb row.0 i (eqb-true row.0 j p ∙ sym (eqb-true i j q))))

  pub at_with : (i : ℕ) (x : X) (rows : List (ℕ × X)) (j : ℕ) → client_at (with_client i x rows) j ≡ (if i == j then Some x else client_at rows j)
  at_with i x [] j = refl
  at_with i x (row ∷ rows) j = placed (row.0 == i) i x row rows (with_client i x rows) j refl (at_with i x rows j)

  each_step : (f : X → X) (b : Bool) (x : X) (o p : Option X) → p ≡ option_map f o → (if b then Some (f x) else p) ≡ option_map f (if b then Some x else o)
  each_step f true x o p h = refl
  each_step f false x o p h = h

  pub at_each : (f : X → X) (rows : List (ℕ × X)) (j : ℕ) → client_at (each_client f rows) j ≡ option_map f (client_at rows j)
  at_each f [] j = refl
  at_each f (row ∷ rows) j = each_step f (row.0 == j) row.1 (client_at rows j) (client_at (each_client f rows) j) (at_each f rows j)
