-- What a request makes of the connected clients.
use Rattle.std.specs.Prelude.{◌≡◌, ℕ, ◌==◌, false, List, Result, IfOk, IsOk, OnOk, OnErr, Option, Some, None}
use Rattle.std.specs.declared.alloc.AllocError.{AllocError}
use Rattle.core_model.specs.declared.refusal.Refusal.TheVariants.{UnknownClient}
use Rattle.core_model.specs.Sources.{Sources}
use Rattle.core_model.specs.Client.{Client}
use Rattle.core_model.specs.Requests as model
use Rattle.core_model.specs.Requests.{Request, heard, refused}
use Rattle.core_model.specs.Core.{client_at, with_client}
use Rattle.events_and_replies.specs.declared.event.Reply.{Reply}
use Rattle.server_core.specs.Clients.{Clients, AreClients, numbers_of}
use Rattle.events_and_replies.specs.Said.{said, IsWritten}

-- a connected client's request is heard on its own record
abbrev pub heard_of : Option Client → Sources → ℕ → Request → List (ℕ × Client)
    → List (ℕ × Client) × model.Reply
heard_of None s i r rows = (rows, refused UnknownClient)
heard_of (Some c) s i r rows = (with_client i (heard i s c r).0 rows, (heard i s c r).1)

-- the clients after a request, and the reply
abbrev pub heard_by : Sources → ℕ → Request → List (ℕ × Client) → List (ℕ × Client) × model.Reply
heard_by s i r rows = heard_of (client_at rows i) s i r rows

-- a request was heard: the clients are those after it, the reply is the definition's and can be written,
-- after memory ran out they are as before, and every other record is as it was
pub record IsHeard (s : Sources) (i : ℕ) (r : Request) (old new : Clients)
    (result : Result Reply AllocError) : Type 0 where
  pub stands : (rows : List (ℕ × Client)) → AreClients s rows old
      → OnOk result (AreClients s (heard_by s i r rows).0 new)
  pub reply : (rows : List (ℕ × Client)) → AreClients s rows old
      → IfOk result (λ reply. said (heard_by s i r rows).1 ≡ reply)
  pub written : (rows : List (ℕ × Client)) → AreClients s rows old → IfOk result IsWritten
  pub kept : (rows : List (ℕ × Client)) → AreClients s rows old → OnErr result (AreClients s rows new)
  pub numbers : numbers_of new ≡ numbers_of old
  pub others : (j : ℕ) → (i == j) ≡ false → client_at new j ≡ client_at old j
  pub unknown : client_at old i ≡ None → IsOk result
