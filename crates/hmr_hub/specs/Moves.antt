-- How a pass goes on in the transcript of its hub: what it has seen since, and what came under its number.
use Rattle.std.specs.Prelude.{◌≡◌, ℕ, true, List, [], ◌∷◌, ◌++◌}
use Rattle.core_model.specs.Transcript.{Recorded}
use Rattle.turn_lock.specs.Histories.{calls, has}
use Rattle.hmr_hub.specs.declared.pass.Pass.{Pass}
use Rattle.hmr_hub.specs.Passes.{known_of, mark_of, number_of, roots_of, seen_of}

-- it knows its own number: past what it has seen there is no entry under it
abbrev pub KnowsOwn : Pass → Type 0
KnowsOwn p = has (number_of p) (known_of p) ≡ true

-- the entries that a pass has seen under its own number
abbrev pub own_of : Pass → List Recorded
own_of p = calls (number_of p ∷ []) (seen_of p)

-- a pass has gone on: it has seen more, and under its own number just these entries came
pub record Moved (p q : Pass) (mine : List Recorded) : Type 0 where
  pub mark : mark_of q ≡ mark_of p
  pub number : number_of q ≡ number_of p
  pub roots : roots_of q ≡ roots_of p
  pub knows : (k : ℕ) → has k (known_of p) ≡ true → has k (known_of q) ≡ true
  pub more : List Recorded
  pub longer : seen_of q ≡ seen_of p ++ more
  pub own : own_of q ≡ own_of p ++ mine
