use Rattle.std.proofs.Common.{◌≡◌, None, drop, map}
use Rattle.raw_trees.specs.Raw.{raw_expr_of}
use Rattle.name_rules.specs.Firsts.{exprs_first}
use Rattle.name_rules.specs.Told.{told}
use Rattle.name_rules.specs.Within.{within_of}
use Rattle.name_rules.proofs.names.exprs_first.Given as goal

-- what was found, and what is left, tell the first of all
abbrev pub invariant-loop-e : goal.invariant-loop-e
invariant-loop-e l = exprs_first (within_of l.within) (told l.found) (map raw_expr_of (drop l.e-index l.es)) ≡ exprs_first (within_of l.within) None (map raw_expr_of l.es)
