use Rattle.std.proofs.Common.{◌≡◌, ◌++◌, drop, map}
use Rattle.module_tree.specs.Tree.{expr_of}
use Rattle.raw_trees.specs.Raw.{raw_expr_of}
use Rattle.module_semantics.specs.Resolving.{expr_tree}
use Rattle.name_rules.specs.Within.{within_of}
use Rattle.name_rules.proofs.resolving.exprs_tree.Given as goal

-- the expressions so far, and those of what is left, are the whole
abbrev pub invariant-loop-e : goal.invariant-loop-e
invariant-loop-e l =
    map expr_of l.tree.items ++ map (expr_tree (within_of l.within)) (map raw_expr_of (drop l.e-index l.es)) ≡ map (expr_tree (within_of l.within)) (map raw_expr_of l.es)
