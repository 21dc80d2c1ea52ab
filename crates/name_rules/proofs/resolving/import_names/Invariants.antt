use Rattle.std.proofs.Common.{◌≡◌, ◌++◌, drop, map}
use Rattle.raw_trees.specs.Raw.{raw_import_of}
use Rattle.module_semantics.specs.Resolving.{import_name}
use Rattle.name_rules.proofs.resolving.import_names.Given as goal

-- the names so far, and those of what is left, are the whole
abbrev pub invariant-loop-name : goal.invariant-loop-name
invariant-loop-name l = l.tree.items ++ map import_name (map raw_import_of (drop l.name-index l.names)) ≡ map import_name (map raw_import_of l.names)
