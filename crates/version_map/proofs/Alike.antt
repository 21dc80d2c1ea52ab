-- What is looked up alike is filtered alike.
use Rattle.std.proofs.Common.{◌≡◌, Bool, List, [], ◌∷◌, refl, ap, ◌∙◌}
use Rattle.std.specs.Prelude.{cond, filter}
use Rattle.core_model.specs.Names.{Name}

-- two tests that agree keep the same names
pub same_filtered : (p q : Name → Bool) (names : List Name) → ((n : Name) → p n ≡ q n) → filter p names ≡ filter q names
same_filtered p q [] e = refl
same_filtered p q (n ∷ names) e = ap (λ b. cond b (n ∷ filter p names) (filter p names)) (e n) ∙ ap (λ l. cond (q n) (n ∷ l) l) (same_filtered p q names e)
