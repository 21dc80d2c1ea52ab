use Rattle.std.proofs.Common.{◌≡◌, ◌++◌, drop, map}
use Rattle.raw_trees.specs.Raw.{name_at_of, raw_items_of}
use Rattle.module_semantics.specs.NameRules.{lets_of, names_of}
use Rattle.name_rules.proofs.names.let_names.Given as goal

-- the names so far, and those of what is left, are the whole
abbrev pub invariant-loop-item : goal.invariant-loop-item
invariant-loop-item l =
    names_of (map name_at_of l.names.items) ++ lets_of (raw_items_of (drop l.item-index l.items)) ≡ lets_of (raw_items_of l.items)
