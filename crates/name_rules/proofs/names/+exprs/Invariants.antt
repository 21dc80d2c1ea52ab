use Rattle.std.proofs.Common.{◌≡◌, drop, map}
use Rattle.raw_trees.specs.Raw.{operation_of}
use Rattle.name_rules.specs.Firsts.{rowed_first}
use Rattle.name_rules.specs.Told.{told}
use Rattle.name_rules.specs.Within.{within_of}
use Rattle.name_rules.proofs.names.+exprs.Given as goal

-- what was found, and what is left, tell the first of all
abbrev pub invariant-row_first-loop-op : goal.invariant-row_first-loop-op
invariant-row_first-loop-op l =
    rowed_first (within_of l.within) (told l.found) (map operation_of (drop l._op-index l.rest)) ≡ rowed_first (within_of l.within) (told l.initial.found) (map operation_of l.rest)
