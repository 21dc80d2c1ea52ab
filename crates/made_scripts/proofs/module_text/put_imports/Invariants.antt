use Rattle.std.proofs.Common.{◌≡◌, ◌++◌, drop}
use Rattle.std.specs.List.{flat_map}
use Rattle.made_scripts.specs.Making.{children, import_of}
use Rattle.made_scripts.proofs.module_text.put_imports.Given as goal

-- what is written, and the imports of the modules that are left, are the whole
abbrev pub invariant-loop-child : goal.invariant-loop-child
invariant-loop-child l =
    (l.text.items ++ flat_map (import_of l.count) (drop l.child-index l.child-items)
    ≡ l.initial.text.items ++ flat_map (import_of l.count) l.child-items)
    × (l.child-items ≡ children l.number)
