use Rattle.std.proofs.Common.{◌≡◌, ◌++◌, drop, map}
use Rattle.module_tree.specs.Tree.{stmt_of}
use Rattle.raw_trees.specs.Raw.{raw_stmt_of}
use Rattle.module_semantics.specs.Resolving.{stmt_tree}
use Rattle.name_rules.specs.Within.{within_of}
use Rattle.name_rules.proofs.resolving.+stmts.Given as goal

-- the statements so far, and those of what is left, are the whole
abbrev pub invariant-stmts_tree-loop-stmt : goal.invariant-stmts_tree-loop-stmt
invariant-stmts_tree-loop-stmt l =
    map stmt_of l.tree.items ++ map (stmt_tree (within_of l.within)) (map raw_stmt_of (drop l.stmt-index l.stmts)) ≡ map (stmt_tree (within_of l.within)) (map raw_stmt_of l.stmts)
