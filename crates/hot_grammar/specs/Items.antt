-- Declarations before it is told whether they are exported.
use Rattle.std.specs.Prelude.{Bool}
use Rattle.module_semantics.specs.Raw as plain
use Rattle.hot_grammar.specs.declared.item.Declaration.{Declaration}
use Rattle.raw_trees.specs.Raw.{name_at_of, raw_expr_of}

-- the item that a declaration is, by whether it is exported
abbrev pub declared : Declaration → Bool → plain.RawItem
declared d exported = plain.declare exported d.mutable (name_at_of d.name) (raw_expr_of d.value)
