-- The connected clients: what is kept of each, and that it is what the definitions have of it.
use Rattle.std.specs.Prelude.{◌≡◌, ℕ, ◌≤◌, List, map}
use Rattle.std.specs.List.{AllZip}
use Rattle.core_model.specs.Sources.{Sources}
use Rattle.core_model.specs.Client.{Client}
use Rattle.client_records.specs.Record as client
use Rattle.client_records.specs.Record.{IsRecord}

-- the connected clients by number, with what is kept of each
abbrev pub Clients : Type 0
Clients = List (ℕ × client.Kept)

-- what is kept under a number is what the definitions have of the client with this number
abbrev pub IsKept : Sources → ℕ × Client → ℕ × client.Kept → Type 0
IsKept s row kept = (kept.0 ≡ row.0) × IsRecord s row.1 kept.1

-- the clients are those, one by one
abbrev pub AreClients : Sources → List (ℕ × Client) → Clients → Type 0
AreClients s rows clients = AllZip (IsKept s) rows clients

-- the number is one that was given
pub record IsGiven (given n : ℕ) : Type 0 where
  pub least : 1 ≤ n
  pub most : n ≤ given

-- the numbers of the clients, in order
abbrev pub numbers_of : Clients → List ℕ
numbers_of clients = map (λ row. row.0) clients

-- there is room for a notice
abbrev pub HasRoom : ℕ × client.Kept → Type 0
HasRoom row = 1 ≤ row.1.queue.spare
