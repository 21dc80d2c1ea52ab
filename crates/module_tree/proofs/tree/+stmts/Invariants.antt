use Rattle.std.proofs.Common.{◌≡◌, ◌++◌, drop, map}
use Rattle.module_tree.specs.Tree.{stmt_of}
use Rattle.module_tree.proofs.tree.+stmts.Given as goal

-- the copies, and what is left to copy, are the whole
abbrev pub invariant-copy_stmts-loop-stmt : goal.invariant-copy_stmts-loop-stmt
invariant-copy_stmts-loop-stmt l = map stmt_of l.copies.items ++ map stmt_of (drop l.stmt-index l.stmts) ≡ map stmt_of l.stmts
