use Rattle.std.proofs.Common.{◌≡◌, drop}
use Rattle.raw_trees.specs.Raw.{raw_items_of}
use Rattle.module_semantics.specs.NameRules.{names_of}
use Rattle.name_rules.specs.Firsts.{items_first}
use Rattle.name_rules.specs.Told.{told}
use Rattle.name_rules.proofs.names.items_first.Given as goal

-- what was found, and what is left, tell the first of all
abbrev pub invariant-loop-item : goal.invariant-loop-item
invariant-loop-item l = items_first (names_of l.lets) (told l.found) (raw_items_of (drop l.item-index l.items)) ≡ items_first (names_of l.lets) (told l.initial.found) (raw_items_of l.items)
