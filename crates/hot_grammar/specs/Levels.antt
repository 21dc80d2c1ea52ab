-- The strengths of operators.
use Rattle.std.specs.Prelude.{ℕ, List, [], ◌∷◌}
use Rattle.module_tree.specs.declared.tree.Op.{Op}
use Rattle.module_tree.specs.declared.tree.Op.TheVariants as ops
use Rattle.module_semantics.specs.Kinds.{NULLISH, PLUS, MINUS, TIMES}
use Rattle.module_semantics.specs.Raw.{RawExpr}
use Rattle.module_semantics.specs.Readers.{Reader, choice}
use Rattle.module_semantics.specs.Reading.{null, sum, prod, unary, operation}
use Rattle.hot_grammar.specs.declared.level.Level.{Level}
use Rattle.hot_grammar.specs.declared.level.Level.TheVariants as levels

-- a row of operators of one strength
abbrev pub row_at : Level → Reader RawExpr → Reader RawExpr
row_at levels.Null e = null e
row_at levels.Sum e = sum e
row_at levels.Product e = prod e

-- an operand of it
abbrev pub operand_at : Level → Reader RawExpr → Reader RawExpr
operand_at levels.Null e = sum e
operand_at levels.Sum e = prod e
operand_at levels.Product e = unary e

-- its operators
abbrev pub operators_at : Level → List ℕ
operators_at levels.Null = NULLISH ∷ []
operators_at levels.Sum = PLUS ∷ MINUS ∷ []
operators_at levels.Product = TIMES ∷ []

-- an operator of it, with the operand at its right
abbrev pub operation_at : Level → Reader RawExpr → Reader (Op × RawExpr)
operation_at levels.Null e = operation NULLISH ops.Null (sum e)
operation_at levels.Sum e =
    choice (PLUS ∷ []) (operation PLUS ops.Add (prod e)) (operation MINUS ops.Sub (prod e))
operation_at levels.Product e = operation TIMES ops.Mul (unary e)
