use Rattle.std.proofs.Common.{◌≡◌, ◌++◌, drop, map}
use Rattle.std.specs.Prelude.{flat_map}
use Rattle.module_tree.specs.Tree.{item_of}
use Rattle.module_semantics.specs.Analysis.{exported_by}
use Rattle.import_scan.proofs.analysis.exports.Given as goal

-- the names so far, and those of what is left, are all
abbrev pub invariant-loop-item : goal.invariant-loop-item
invariant-loop-item l = l.names.items ++ flat_map exported_by (map item_of (drop l.item-index l.items)) ≡ flat_map exported_by (map item_of l.items)
