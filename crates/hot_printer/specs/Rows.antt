-- The text of a row of operators, from its front.
use Rattle.std.specs.Prelude.{ℕ, suc, List, [], ◌++◌, Bool, true, false, codes}
use Rattle.module_tree.specs.Syntax.{ExprTree}
use Rattle.module_tree.specs.declared.tree.Op.{Op}
use Rattle.module_semantics.specs.Canon.{expr_text, level, op_level, op_text, placed}

-- an expression at a place that asks for this level
abbrev pub at_place : List (List ℕ) → ℕ → ExprTree → List ℕ
at_place ps place e = placed place (level e) (expr_text ps e)

-- the parenthesis that opens
abbrev pub opening : Bool → List ℕ
opening true = codes "("
opening false = []

-- the parenthesis that closes
abbrev pub closing : Bool → List ℕ
closing true = codes ")"
closing false = []

-- an operator and its right side
abbrev pub right_text : List (List ℕ) → Op → ExprTree → List ℕ
right_text ps op right = op_text op ++ at_place ps (suc (op_level op)) right

-- what stands behind the left side: the operator, its right side, and a parenthesis where one was opened
-- before
abbrev pub after_left : List (List ℕ) → Op × ExprTree × Bool → List ℕ
after_left ps n = right_text ps n.0 n.1 ++ closing n.2
