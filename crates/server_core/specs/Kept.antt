-- What the core keeps, and when that is what the events so far give.
use Rattle.std.specs.Prelude.{◌≡◌, ℕ, ◌==◌, Bool, true, false, not, ◌||◌, List, ◌∷◌}
use Rattle.std.specs.Prelude.{Result, IfOk, IsOk, OnOk, OnErr, Option, Some, None}
use Rattle.std.specs.declared.alloc.AllocError.{AllocError}
use Rattle.core_model.specs.Names.{Name}
use Rattle.core_model.specs.Roots.{are_bad}
use Rattle.core_model.specs.Sources.{Sources, edit, result, EditAnswer, job, same}
use Rattle.core_model.specs.Sources.{removed, edit_refused, edit_answer}
use Rattle.core_model.specs.Client.{Client}
use Rattle.core_model.specs.Requests.{Request, ask, fetch, applied_as, aborted, invalidate}
use Rattle.core_model.specs.Core as model
use Rattle.core_model.specs.Core.{changes_of, core_after, client_at}
use Rattle.version_map.specs.Standing as sources
use Rattle.client_records.specs.Record as client
use Rattle.events_and_replies.specs.declared.event.Reply.{Reply}
use Rattle.server_core.specs.Clients.{Clients, AreClients}
use Rattle.events_and_replies.specs.Said.{said, IsWritten}

-- what the core keeps
pub record Kept : Type 0 where
  pub roots : List Name  -- the server's
  pub sources : Sources
  pub clients : Clients
  pub given : ℕ  -- the last client number given, 0 before any

-- the core has what these events give, the newest first
pub record StandsFor (past : List model.Event) (core : Kept) : Type 0 where
  pub sources : sources.StandsFor (changes_of past) core.sources
  pub given : core.given ≡ (core_after core.roots past).given
  pub clients : AreClients core.sources (core_after core.roots past).clients core.clients

-- the event leaves the client of this number as it is, whatever it is
abbrev pub leaves : ℕ → model.Event → Bool
leaves j (model.change ch) = false
leaves j (model.connect names) = true
leaves j (model.request i r) = not (i == j)
leaves j (model.disconnect i) = not (i == j)

abbrev pub is_job : EditAnswer → Bool
is_job (job v) = true
is_job same = false
is_job (removed v) = false
is_job (edit_refused w) = false

-- a request of a connected client takes memory, but for one that gives the plan up
abbrev pub is_free_request : Option Client → Request → Bool
is_free_request None r = true
is_free_request (Some c) ask = false
is_free_request (Some c) (fetch n) = false
is_free_request (Some c) (applied_as table) = false
is_free_request (Some c) aborted = true
is_free_request (Some c) (invalidate n v) = false

-- the event takes no memory: an edit that is no job, a client that isn't taken, that gives its plan up or
-- goes, and a request of a client that isn't connected
abbrev pub is_free : model.Core → model.Event → Bool
is_free core (model.change (edit n t)) = not (is_job (edit_answer core.sources n t))
is_free core (model.change (result n t o v)) = false
is_free core (model.connect names) = are_bad names || model.is_full core
is_free core (model.request i r) = is_free_request (client_at core.clients i) r
is_free core (model.disconnect i) = true

-- an event comes: afterwards the core stands for the events with this one, and the reply is the step's
pub record IsStep (event : model.Event) (old new : Kept) (result : Result Reply AllocError) : Type 0 where
  pub roots : new.roots ≡ old.roots
  pub stands : (past : List model.Event) → StandsFor past old → OnOk result (StandsFor (event ∷ past) new)
  pub reply : (past : List model.Event) → StandsFor past old
      → IfOk result (λ reply. said (model.step old.roots (core_after old.roots past) event).1 ≡ reply)
  pub written : (past : List model.Event) → StandsFor past old → IfOk result IsWritten
  pub kept : (past : List model.Event) → StandsFor past old → OnErr result (StandsFor past new)
  pub free : (past : List model.Event) → StandsFor past old
      → is_free (core_after old.roots past) event ≡ true → IsOk result
  pub others : (j : ℕ) (k : client.Kept) → leaves j event ≡ true → client_at old.clients j ≡ Some k
      → client_at new.clients j ≡ Some k
