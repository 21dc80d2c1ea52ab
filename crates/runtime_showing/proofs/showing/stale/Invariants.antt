use Rattle.std.proofs.Common.{◌≡◌, take, Some}
use Rattle.std.specs.Prelude.{flat_map}
use Rattle.client_model.specs.Runtime.{Runtime}
use Rattle.page_state.specs.Standing as deeds
use Rattle.runtime_showing.specs.Showing.{stale_row}
use Rattle.runtime_showing.proofs.showing.stale.Given as goal

-- the stale edges of the modules so far
abbrev pub invariant-loop-place : goal.invariant-loop-place
invariant-loop-place g l = (r : Runtime) → deeds.StandsFor r l.runtime.page → l.edges.items ≡ flat_map (λ row. stale_row r (Some row)) (take l.place l.runtime.view)
