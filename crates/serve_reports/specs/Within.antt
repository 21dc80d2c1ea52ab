-- Passes whose transcript lies within that of another.
use Rattle.std.specs.Prelude.{◌≡◌, true, List, [], ◌∷◌, ◌++◌}
use Rattle.core_model.specs.Transcript.{Recorded}
use Rattle.turn_lock.specs.Histories.{calls, has}
use Rattle.hmr_hub.specs.declared.pass.Pass.{Pass}
use Rattle.hmr_hub.specs.Passes.{known_of, number_of, seen_of}
use Rattle.hmr_hub.specs.Moves.{KnowsOwn}

-- What the one has seen begins what the other has seen. The other knows the number of the one, and has all
-- entries under it: those that the one had seen.
pub record IsWithin (p q : Pass) : Type 0 where
  pub more : List Recorded
  pub whole : seen_of q ≡ seen_of p ++ more
  pub knows : KnowsOwn p → has (number_of p) (known_of q) ≡ true
  pub quiet : KnowsOwn p → calls (number_of p ∷ []) more ≡ []

-- the entries under the number of the one are its calls, each once and in order
abbrev pub HasCalls : Pass → Pass → Type 0
HasCalls p q = KnowsOwn p → calls (number_of p ∷ []) (seen_of q) ≡ calls (number_of p ∷ []) (seen_of p)
