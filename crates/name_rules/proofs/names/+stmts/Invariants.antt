use Rattle.std.proofs.Common.{◌≡◌, None, drop}
use Rattle.raw_trees.specs.Raw.{raw_stmts_of}
use Rattle.module_semantics.specs.NameRules.{names_of}
use Rattle.name_rules.specs.Firsts.{stmts_first}
use Rattle.name_rules.specs.Told.{told}
use Rattle.name_rules.specs.Within.{within_of}
use Rattle.name_rules.proofs.names.+stmts.Given as goal

-- what was found, and what is left, tell the first of all
abbrev pub invariant-stmts_first-loop-stmt : goal.invariant-stmts_first-loop-stmt
invariant-stmts_first-loop-stmt l =
    stmts_first (names_of l.lets) (within_of l.within) (told l.found) (raw_stmts_of (drop l.stmt-index l.stmts)) ≡ stmts_first (names_of l.lets) (within_of l.within) None (raw_stmts_of l.stmts)
