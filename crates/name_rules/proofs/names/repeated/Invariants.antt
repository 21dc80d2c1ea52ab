use Rattle.std.proofs.Common.{◌≡◌, [], None, drop, map, take}
use Rattle.raw_trees.specs.Raw.{name_at_of}
use Rattle.module_semantics.specs.NameRules.{names_of}
use Rattle.name_rules.specs.Firsts.{repeated_first}
use Rattle.name_rules.specs.Told.{told}
use Rattle.name_rules.proofs.names.repeated.Given as goal

-- what was found, and what is left, tell the first of all
abbrev pub invariant-loop-place : goal.invariant-loop-place
invariant-loop-place l =
    repeated_first (names_of (map name_at_of (take l.place l.all))) (told l.found) (map name_at_of (drop l.place l.all)) ≡ repeated_first [] None (map name_at_of l.all)
