use Rattle.std.proofs.Common.{◌≡◌, ◌-◌}
use Rattle.module_semantics.specs.Readers.{many, many_from}
use Rattle.module_semantics.specs.Reading.{inner, top, top_firsts}
use Rattle.raw_trees.specs.Raw.{raw_items_of}
use Rattle.hot_grammar.proofs.Repeats.{after}
use Rattle.hot_grammar.proofs.item.read_tops.Given as goal

-- the items so far, and then what stands from here, are all of them
abbrev pub invariant-loop-turn : goal.invariant-loop-turn
invariant-loop-turn l = after (raw_items_of l.items.items) (many_from top_firsts (top (inner l.depth)) (l.turn-end - l.turn) l.tokens) ≡ many top_firsts (top (inner l.depth)) l.fn.tokens
