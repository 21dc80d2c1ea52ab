use Rattle.std.proofs.Common.{◌≡◌, ◌++◌, drop, map}
use Rattle.raw_trees.specs.Raw.{name_at_of, raw_items_of}
use Rattle.module_semantics.specs.NameRules.{bound_by}
use Rattle.module_semantics.specs.Reading.{flat}
use Rattle.name_rules.proofs.names.bound_names.Given as goal

-- the names so far, and those of what is left, are the whole
abbrev pub invariant-loop-item : goal.invariant-loop-item
invariant-loop-item l =
    map name_at_of l.names.items ++ flat (map bound_by (raw_items_of (drop l.item-index l.items))) ≡ flat (map bound_by (raw_items_of l.items))
