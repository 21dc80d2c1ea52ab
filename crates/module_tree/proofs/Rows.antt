-- A row of operators, of which each has the row before it at its left.
use Rattle.std.proofs.Common.{List, [], ◌∷◌, ◌++◌, ◌≡◌, refl, sym, ap, ◌∙◌, Box, Global, ◌≤◌, arith}
use Rattle.module_tree.specs.declared.tree.Expr.{Expr, size-Expr}
use Rattle.module_tree.specs.declared.tree.Expr.TheFolds.{fold-roll-Expr}
use Rattle.module_tree.specs.declared.tree.Expr.TheOpen.{Expr-F}
use Rattle.module_tree.specs.declared.tree.Expr.TheVariants.{rolls-Binary}
use Rattle.module_tree.specs.declared.tree.Expr.TheViews.{Binary, sized-Binary}
use Rattle.module_tree.specs.declared.tree.Op.{Op}
use Rattle.module_tree.specs.Syntax.{ExprTree, binary}
use Rattle.module_tree.specs.Tree.{expr_of, expr_step}

-- two operands with their operator
pub expr_of-Binary : (op : Op) (a b : Box Expr Global) → expr_of (Binary op a b) ≡ binary op (expr_of a.value) (expr_of b.value)
expr_of-Binary op a b = ap expr_of (sym (rolls-Binary op a b)) ∙ fold-roll-Expr ExprTree expr_step (Expr-F.Binary op a b)

-- the operators with their right sides round a first operand: the outermost stands first
abbrev pub rowed : List (Op × Expr) → ExprTree → ExprTree
rowed [] first = first
rowed (r ∷ more) first = binary r.0 (rowed more first) (expr_of r.1)

rowed-push : (row : List (Op × Expr)) (op : Op) (right : Expr) (first : ExprTree) → rowed (row ++ (op, right) ∷ []) first ≡ rowed row (binary op first (expr_of right))
rowed-push [] op right first = refl
rowed-push (r ∷ more) op right first = ap (λ t. binary r.0 t (expr_of r.1)) (rowed-push more op right first)

-- one step down a row: the operator goes into the row, with a copy of its right side
pub pushed : (row next : List (Op × Expr)) (op : Op) (copy : Expr) (rest left right whole : ExprTree)
    → next ≡ row ++ (op, copy) ∷ [] → rest ≡ binary op left right → expr_of copy ≡ right → rowed row rest ≡ whole → rowed next left ≡ whole
pushed row next op copy rest left right whole is node same so_far =
    ap (λ r. rowed r left) is ∙ rowed-push row op copy left ∙ ap (λ r. rowed row (binary op left r)) same ∙ ap (rowed row) (sym node) ∙ so_far

-- one step back: the innermost operator goes round the copy
pub popped : (row next : List (Op × Expr)) (op : Op) (right : Expr) (copy joined whole : ExprTree)
    → row ≡ next ++ (op, right) ∷ [] → joined ≡ binary op copy (expr_of right) → rowed row copy ≡ whole → rowed next joined ≡ whole
popped row next op right copy joined whole is node so_far =
    ap (rowed next) node ∙ sym (rowed-push next op right copy) ∙ ap (λ r. rowed r copy) (sym is) ∙ so_far

-- the left operand is no larger than both
pub left_no_larger : (op : Op) (a b : Box Expr Global) → size-Expr a.value ≤ size-Expr (Binary op a b)
left_no_larger op a b = omega (arith, sized-Binary op a b)
