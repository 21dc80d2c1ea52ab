-- The tree of a row of operators.
use Rattle.std.specs.Prelude.{List, [], ◌∷◌}
use Rattle.module_tree.specs.Syntax as tree
use Rattle.module_tree.specs.Syntax.{ExprTree}
use Rattle.module_tree.specs.declared.tree.Op.{Op}
use Rattle.module_semantics.specs.NameRules.{Within}
use Rattle.module_semantics.specs.Raw.{RawExpr}
use Rattle.module_semantics.specs.Resolving.{expr_tree}

-- a first operand and what follows it, which group to the left
abbrev pub rowed : Within → ExprTree → List (Op × RawExpr) → ExprTree
rowed w first [] = first
rowed w first (b ∷ bs) = rowed w (tree.binary b.0 first (expr_tree w b.1)) bs
