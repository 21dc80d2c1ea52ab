use Rattle.std.proofs.Common.{◌≡◌, ◌-◌, map}
use Rattle.module_semantics.specs.Kinds.{all_names}
use Rattle.module_semantics.specs.Readers.{listed, listed_from}
use Rattle.module_semantics.specs.Reading.{import_name}
use Rattle.raw_trees.specs.Raw.{raw_import_of}
use Rattle.hot_grammar.proofs.Repeats.{after}
use Rattle.hot_grammar.proofs.import.read_import_names.Given as goal

-- the names so far, and then what stands from here, are all of them
abbrev pub invariant-loop-turn : goal.invariant-loop-turn
invariant-loop-turn l = after (map raw_import_of l.names.items) (listed_from all_names import_name (l.turn-end - l.turn) l.tokens) ≡ listed all_names import_name l.fn.tokens
