-- A client put where its number's client stands first.
use Rattle.std.proofs.Common.{◌≡◌, ◌+◌, ◌<◌, ℕ, true, List, ◌∷◌, ◌++◌, get_or, length, take, drop, ap, sym, ◌∙◌}
use Rattle.std.specs.Prelude.{◌==◌, slice_set, if◌then◌else◌}
use Rattle.std.proofs.lemmas.List.{drop_more}
use Rattle.module_graph.proofs.Rows.{set_parts}
use Rattle.core_model.specs.Core.{with_client}

pub with_there : {X : Type 0} (n : ℕ) (k : X) (clients : List (ℕ × X)) (p : ℕ) (d : ℕ × X)
    → p < length clients → with_client n k clients ≡ take p clients ++ with_client n k (drop p clients)
    → ((get_or clients p d).0 == n) ≡ true → with_client n k clients ≡ slice_set clients p (n, k)
with_there n k clients p d h so_far s =
    let rest = drop (p + 1) clients in
    so_far
    ∙ ap (λ l. take p clients ++ with_client n k l) (drop_more clients p d h)
    ∙ ap (λ b. take p clients ++ (if b then (n, k) ∷ rest else get_or clients p d ∷ with_client n k rest)) s
    ∙ sym (set_parts clients p (n, k) h)
