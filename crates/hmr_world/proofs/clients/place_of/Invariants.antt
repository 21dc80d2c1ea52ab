use Rattle.std.proofs.Common.{◌≡◌, ◌++◌, take, drop}
use Rattle.core_model.specs.Core.{client_at, with_client}
use Rattle.runtime_state.specs.declared.runtime.HotRuntime.{HotRuntime}
use Rattle.hmr_world.proofs.clients.place_of.Given as goal

-- the client isn't among those before
abbrev pub invariant-loop-place : goal.invariant-loop-place
invariant-loop-place g l = (client_at l.clients l.number ≡ client_at (drop l.place l.clients) l.number) × ((h : HotRuntime g.row.F.Denot) → with_client l.number h l.clients ≡ take l.place l.clients ++ with_client l.number h (drop l.place l.clients))
