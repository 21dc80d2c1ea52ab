-- Pieces of the canonical text that are written by one function each.
use Rattle.std.specs.Prelude.{ℕ, suc, List, ◌++◌, codes}
use Rattle.module_tree.specs.Syntax.{CondTree, ExprTree, HandlerTree, StmtTrees}
use Rattle.module_semantics.specs.Canon.{cond_text, expr_text, indent, stmts_text}

-- what is given to a variable or a key
abbrev pub value_text : List (List ℕ) → ExprTree → List ℕ
value_text ps e = codes " = " ++ (expr_text ps e ++ codes ";\n")

-- what stands behind the parameters of a callback
abbrev pub body_text : HandlerTree → List ℕ
body_text h = codes " => {\n" ++ (stmts_text h.params 1 h.body ++ codes "}")

-- the statements of a block and its end
abbrev pub block_text : List (List ℕ) → ℕ → StmtTrees → List ℕ
block_text ps depth body = stmts_text ps (suc depth) body ++ (indent depth ++ codes "}")

-- an `if` up to its first block
abbrev pub if_text : List (List ℕ) → ℕ → CondTree → List ℕ
if_text ps depth c = indent depth ++ (codes "if (" ++ (cond_text ps c ++ codes ") {\n"))
