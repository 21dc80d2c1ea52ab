-- Rows of operators, and conditions.
use Rattle.std.proofs.Common.{◌≡◌, List, [], ◌∷◌, refl, ap, length, ◌<◌, arith, map, Box, Vec, Global, sym, ◌∙◌}
use Rattle.std.specs.Prelude.{Some, None}
use Rattle.module_tree.specs.Syntax as tree
use Rattle.module_tree.specs.declared.tree.Op.{Op}
use Rattle.module_semantics.specs.Kinds.{NameAt}
use Rattle.module_semantics.specs.NameRules.{Within}
use Rattle.module_semantics.specs.Raw as raw
use Rattle.module_semantics.specs.Raw.{RawExpr, RawStmt, stmts_of}
use Rattle.module_tree.specs.Tree.{stmts}
use Rattle.raw_trees.specs.declared.raw_expr.RawExpr as code
use Rattle.raw_trees.specs.declared.raw_expr.RawExpr.TheViews.{Row}
use Rattle.raw_trees.specs.declared.raw_expr.RawExpr.TheFolds.{fold-roll-RawExpr}
use Rattle.raw_trees.specs.declared.raw_expr.RawExpr.TheOpen.{RawExpr-F}
use Rattle.raw_trees.specs.declared.raw_expr.RawExpr.TheVariants.{rolls-Row}
use Rattle.raw_trees.specs.Raw.{expr_step, operation_of, raw_expr_of}
use Rattle.module_semantics.specs.Reading.{grouped}
use Rattle.module_semantics.specs.Resolving.{cond_tree, expr_tree, name_cond, stmt_tree, stmts_tree}
use Rattle.name_rules.specs.Alone.{alone}
use Rattle.name_rules.specs.Rows.{rowed}

pub row_is : (w : Within) (a : RawExpr) (bs : List (Op × RawExpr)) → expr_tree w (grouped a bs) ≡ rowed w (expr_tree w a) bs
row_is w a [] = refl
row_is w a (b ∷ bs) = row_is w (raw.binary b.0 a b.1) bs

-- a row with operators is no name
pub row_not_alone : (op : Op) (a b : RawExpr) (bs : List (Op × RawExpr)) → alone (grouped (raw.binary op a b) bs) ≡ None
row_not_alone op a b [] = refl
row_not_alone op a b (c ∷ cs) = row_not_alone c.0 (raw.binary op a b) c.1 cs

pub long_row_not_alone : (a : RawExpr) (bs : List (Op × RawExpr)) → 0 < length bs → alone (grouped a bs) ≡ None
long_row_not_alone a [] h = absurd (omega arith)
long_row_not_alone a (b ∷ bs) h = row_not_alone b.0 a b.1 bs

-- a condition is a name, or a value
pub name_condition : (w : Within) (e : RawExpr) (n : NameAt) → alone e ≡ Some n → cond_tree w e ≡ name_cond w n.name
name_condition w (raw.name m) n h = let same : m ≡ n = cc in ap (λ x. name_cond w x.name) same
name_condition w (raw.num m) n h = absurd (cc)
name_condition w (raw.text s) n h = absurd (cc)
name_condition w raw.undefined n h = absurd (cc)
name_condition w (raw.bag k) n h = absurd (cc)
name_condition w (raw.member m safe k) n h = absurd (cc)
name_condition w (raw.neg a) n h = absurd (cc)
name_condition w (raw.binary op a b) n h = absurd (cc)
name_condition w (raw.choose c a b) n h = absurd (cc)

pub value_condition : (w : Within) (e : RawExpr) → alone e ≡ None → cond_tree w e ≡ tree.value (expr_tree w e)
value_condition w (raw.name m) h = absurd (cc)
value_condition w (raw.num m) h = refl
value_condition w (raw.text s) h = refl
value_condition w raw.undefined h = refl
value_condition w (raw.bag k) h = refl
value_condition w (raw.member m safe k) h = refl
value_condition w (raw.neg a) h = refl
value_condition w (raw.binary op a b) h = refl
value_condition w (raw.choose c a b) h = refl

-- statements, as a list of their own
pub stmts_are : (w : Within) (ss : List RawStmt) → stmts (map (stmt_tree w) ss) ≡ stmts_tree w (stmts_of ss)
stmts_are w [] = refl
stmts_are w (s ∷ ss) = ap (λ r. tree.one_stmt (stmt_tree w s) r) (stmts_are w ss)

-- what an expression of a row is
pub raw_expr_of-Row : (first : Box code.RawExpr Global) (rest : Vec (Op × code.RawExpr) Global) → raw_expr_of (Row first rest) ≡ grouped (raw_expr_of first.value) (map operation_of rest.items)
raw_expr_of-Row first rest = ap raw_expr_of (sym (rolls-Row first rest)) ∙ fold-roll-RawExpr RawExpr expr_step (RawExpr-F.Row first rest)
