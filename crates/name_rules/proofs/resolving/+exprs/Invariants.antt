use Rattle.std.proofs.Common.{◌≡◌, drop, map}
use Rattle.module_tree.specs.Tree.{expr_of}
use Rattle.raw_trees.specs.Raw.{operation_of}
use Rattle.name_rules.specs.Rows.{rowed}
use Rattle.name_rules.specs.Within.{within_of}
use Rattle.name_rules.proofs.resolving.+exprs.Given as goal

-- what is left, behind the tree so far, is the whole
abbrev pub invariant-row_tree-loop-op : goal.invariant-row_tree-loop-op
invariant-row_tree-loop-op l =
    rowed (within_of l.within) (expr_of l.tree) (map operation_of (drop l.op-index l.rest)) ≡ rowed (within_of l.within) (expr_of l.initial.tree) (map operation_of l.rest)
