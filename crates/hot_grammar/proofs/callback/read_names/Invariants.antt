use Rattle.std.proofs.Common.{◌≡◌, ◌∷◌, [], ◌-◌, map}
use Rattle.module_semantics.specs.Kinds.{COMMA, free_names}
use Rattle.module_semantics.specs.Readers.{many_from, mark, separated, ◌▷◌}
use Rattle.module_semantics.specs.Reading.{free_name}
use Rattle.raw_trees.specs.Raw.{name_at_of}
use Rattle.hot_grammar.proofs.Repeats.{after}
use Rattle.hot_grammar.proofs.callback.read_names.Given as goal

-- the names so far, and then what stands from here, are all of them
abbrev pub invariant-loop-turn : goal.invariant-loop-turn
invariant-loop-turn l =
    after (map name_at_of l.names.items) (many_from (COMMA ∷ []) (mark COMMA ▷ free_name) (l.turn-end - l.turn) l.tokens)
    ≡ separated free_names free_name l.fn.tokens
