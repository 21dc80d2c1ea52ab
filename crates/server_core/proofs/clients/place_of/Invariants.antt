use Rattle.std.proofs.Common.{◌≡◌, ◌++◌, take, drop}
use Rattle.core_model.specs.Core.{client_at, with_client}
use Rattle.client_records.specs.Record as client
use Rattle.server_core.proofs.clients.place_of.Given as goal

-- the client's record isn't among those before
abbrev pub invariant-loop-place : goal.invariant-loop-place
invariant-loop-place l = (client_at l.clients l.number ≡ client_at (drop l.place l.clients) l.number) × ((k : client.Kept) → with_client l.number k l.clients ≡ take l.place l.clients ++ with_client l.number k (drop l.place l.clients))
