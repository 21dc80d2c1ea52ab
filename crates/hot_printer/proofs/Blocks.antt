-- Indentation, and the other body of an if.
use Rattle.std.proofs.Common.{◌≡◌, ℕ, zero, suc, ◌+◌, ◌<◌, List, [], ◌∷◌, ◌++◌, length, append_assoc, refl, ap, ◌∙◌, arith, sym}
use Rattle.std.specs.Prelude.{Result, OnOk, codes}
use Rattle.module_tree.specs.Tree.{stmts_of}
use Rattle.module_tree.specs.declared.tree.Stmt.{Stmt}
use Rattle.module_semantics.specs.Canon.{else_text, indent}
use Rattle.hot_printer.proofs.Puts.{three_puts}

-- one block more is two spaces more
indent_snoc : (n : ℕ) → indent (suc n) ≡ indent n ++ codes "  "
indent_snoc zero = refl
indent_snoc (suc n) = ap (λ t. codes "  " ++ t) (indent_snoc n)

pub indent_more : (n : ℕ) (a b c : List ℕ) → b ≡ a ++ indent n → c ≡ b ++ codes "  " → c ≡ a ++ indent (n + 1)
indent_more n a b c before more =
    let next : n + 1 ≡ suc n = omega arith in
    more ∙ (ap (λ t. t ++ codes "  ") before ∙ (append_assoc a (indent n) (codes "  ") ∙ ap (λ t. a ++ t) (sym (ap indent next ∙ indent_snoc n))))

full : (depth : ℕ) (ss : List Stmt) (text : List ℕ) → 0 < length ss → else_text depth (stmts_of ss) text ≡ codes " else {\n" ++ (text ++ (indent depth ++ codes "}\n"))
full depth [] text h = absurd (omega arith)
full depth (s ∷ ss) text h = refl

-- the other body, where it isn't empty
pub else_puts : {X E : Type 0} (r : Result X E) (depth : ℕ) (ss : List Stmt) (text a b c d : List ℕ) → 0 < length ss → b ≡ a ++ codes " else {\n"
    → c ≡ b ++ (text ++ (indent depth ++ codes "}")) → OnOk r (d ≡ c ++ codes "\n") → OnOk r (d ≡ a ++ else_text depth (stmts_of ss) text)
else_puts r depth ss text a b c d some first second last =
    let end : (text ++ (indent depth ++ codes "}")) ++ codes "\n" ≡ text ++ (indent depth ++ codes "}\n") =
    append_assoc text (indent depth ++ codes "}") (codes "\n") ∙ ap (λ t. text ++ t) (append_assoc (indent depth) (codes "}") (codes "\n")) in
    rw (full depth ss text some, ← end) (three_puts r a b c d _ _ _ first second last)
