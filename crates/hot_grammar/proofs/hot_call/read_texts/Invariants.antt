use Rattle.std.proofs.Common.{◌≡◌, ◌∷◌, [], ◌-◌}
use Rattle.module_semantics.specs.Kinds.{TEXT}
use Rattle.module_semantics.specs.Readers.{listed, listed_from}
use Rattle.module_semantics.specs.Reading.{text_token}
use Rattle.hot_grammar.proofs.Repeats.{after}
use Rattle.hot_grammar.proofs.hot_call.read_texts.Given as goal

-- the texts so far, and then what stands from here, are all of them
abbrev pub invariant-loop-turn : goal.invariant-loop-turn
invariant-loop-turn l = after l.texts.items (listed_from (TEXT ∷ []) text_token (l.turn-end - l.turn) l.tokens) ≡ listed (TEXT ∷ []) text_token l.fn.tokens
