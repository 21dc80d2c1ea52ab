-- How many entries a pass has seen.
use Rattle.std.specs.Prelude.{ℕ, length}
use Rattle.turn_lock.specs.Histories.{calls}
use Rattle.hmr_hub.specs.declared.pass.Pass.{Pass}
use Rattle.hmr_hub.specs.Passes.{known_of, seen_of}

-- under the numbers that it knows
abbrev pub made_by : Pass → ℕ
made_by p = length (calls (known_of p) (seen_of p))
