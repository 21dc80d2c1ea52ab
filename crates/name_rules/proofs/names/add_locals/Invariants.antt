use Rattle.std.proofs.Common.{◌≡◌, ◌++◌, drop, map}
use Rattle.raw_trees.specs.Raw.{name_at_of, raw_import_of}
use Rattle.name_rules.proofs.names.add_locals.Given as goal

-- the names so far, and those of what is left, are the whole
abbrev pub invariant-loop-import : goal.invariant-loop-import
invariant-loop-import l =
    map name_at_of l.names.items ++ map (λ i. i.local) (map raw_import_of (drop l.import-index l.imported)) ≡ map name_at_of l.initial.names.items ++ map (λ i. i.local) (map raw_import_of l.imported)
