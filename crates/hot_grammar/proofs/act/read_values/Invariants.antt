use Rattle.std.proofs.Common.{◌≡◌, ◌∷◌, [], ◌-◌, map}
use Rattle.module_semantics.specs.Kinds.{COMMA}
use Rattle.module_semantics.specs.Readers.{many_from, mark, separated, ◌▷◌}
use Rattle.module_semantics.specs.Reading.{expr_firsts, inner}
use Rattle.raw_trees.specs.Raw.{raw_expr_of}
use Rattle.hot_grammar.proofs.Repeats.{after}
use Rattle.hot_grammar.proofs.act.read_values.Given as goal

-- the values so far, and then what stands from here, are all of them
abbrev pub invariant-loop-turn : goal.invariant-loop-turn
invariant-loop-turn l =
    after (map raw_expr_of l.values.items) (many_from (COMMA ∷ []) (mark COMMA ▷ (inner l.depth).expr) (l.turn-end - l.turn) l.tokens)
    ≡ separated expr_firsts (inner l.depth).expr l.fn.tokens
