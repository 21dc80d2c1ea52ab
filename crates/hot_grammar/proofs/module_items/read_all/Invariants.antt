use Rattle.std.proofs.Common.{◌≡◌, ◌-◌}
use Rattle.module_semantics.specs.Readers.{many, many_from, mapped}
use Rattle.module_semantics.specs.Reading.{flat, inner, item, item_firsts}
use Rattle.raw_trees.specs.Raw.{raw_items_of}
use Rattle.hot_grammar.proofs.Flattened.{after_flat}
use Rattle.hot_grammar.proofs.module_items.read_all.Given as goal

-- the items so far, and then what stands from here, are all of them
abbrev pub invariant-loop-turn : goal.invariant-loop-turn
invariant-loop-turn l = after_flat (raw_items_of l.items.items) (many_from item_firsts (item (inner l.depth)) (l.turn-end - l.turn) l.tokens) ≡ mapped flat (many item_firsts (item (inner l.depth))) l.fn.tokens
