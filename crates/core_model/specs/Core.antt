-- The server core: its events, what it answers, and what it keeps.
use Rattle.std.specs.Prelude.{ℕ, ◌+◌, ◌==◌, nat_le, Bool, true, false, not, ◌||◌, List, [], ◌∷◌, length, map}
use Rattle.std.specs.Prelude.{filter, reverse, Option, Some, None, if◌then◌else◌}
use Rattle.hmr_types.specs.declared.limits.TheConstants.{CLIENTS, LARGEST_CLIENT}
use Rattle.update_msgs.specs.declared.message.ServerMsg.TheVariants as msg
use Rattle.core_model.specs.declared.refusal.Refusal.TheVariants.{UnknownClient, TooManyClients, BadRoots}
use Rattle.core_model.specs.Roots.{are_bad, roots_or}
use Rattle.core_model.specs.Names.{Name}
use Rattle.core_model.specs.Sources.{Sources, Change, edit, result, edit_answer, result_answer, changed_by}
use Rattle.core_model.specs.Sources.{no_sources}
use Rattle.core_model.specs.Client.{Client, new_client, told_of_edit, told_of_result}
use Rattle.core_model.specs.Requests.{Request, Reply, edited, settled, to_client, refused, gone, heard}

-- an edit or a result, a client that comes and names its roots or none, a request of a client, or a client
-- that goes
pub data Event : Type 0 where
  change : Change → Event
  connect : List Name → Event
  request : ℕ → Request → Event
  disconnect : ℕ → Event

-- what the core keeps
pub record Core : Type 0 where
  pub sources : Sources
  pub clients : List (ℕ × Client)  -- the connected clients
  pub given : ℕ  -- the last client number given, 0 before any

-- the client of this number
abbrev pub client_at : {X : Type 0} → List (ℕ × X) → ℕ → Option X
client_at [] i = None
client_at (row ∷ rows) i = if row.0 == i then Some row.1 else client_at rows i

-- the clients of other numbers
abbrev pub without_client : {X : Type 0} → ℕ → List (ℕ × X) → List (ℕ × X)
without_client i rows = filter (λ row. not (row.0 == i)) rows

-- the clients with this one in the place of the number's own; a new number comes last
abbrev pub with_client : {X : Type 0} → ℕ → X → List (ℕ × X) → List (ℕ × X)
with_client i c [] = (i, c) ∷ []
with_client i c (row ∷ rows) = if row.0 == i then (i, c) ∷ rows else row ∷ with_client i c rows

-- each client, changed by f
abbrev pub each_client : {X : Type 0} → (X → X) → List (ℕ × X) → List (ℕ × X)
each_client f rows = map (λ row. (row.0, f row.1)) rows

-- the core's step

-- the reply to an edit or a result
abbrev pub answer_change : Core → Change → Reply
answer_change core (edit n t) = edited (edit_answer core.sources n t)
answer_change core (result n t o v) = settled (result_answer core.sources n t o v)

-- what an edit or a result is to each client
abbrev pub told_of : Sources → Change → Client → Client
told_of s (edit n t) c = told_of_edit (edit_answer s n t) n c
told_of s (result n t o v) c = told_of_result (result_answer s n t o v) n c

-- the core after an edit or a result
abbrev pub after_change : Core → Change → Core
after_change core ch = record core {
  sources = changed_by core.sources ch;
  clients = each_client (told_of core.sources ch) core.clients;
}

-- no further client is taken
abbrev pub is_full : Core → Bool
is_full core = nat_le CLIENTS (length core.clients) || nat_le LARGEST_CLIENT core.given

-- a client gets the next number, with these roots
abbrev pub admitted : List Name → Core → Core × Reply
admitted roots core = (
  record core {
    clients = with_client (core.given + 1) (new_client roots core.sources.served_no) core.clients;
    given = core.given + 1;
  },
  to_client (msg.Connected (core.given + 1) roots),
)

-- no further client is taken; else what follows
abbrev pub if_room : Bool → List Name → Core → Core × Reply
if_room true roots core = (core, refused TooManyClients)
if_room false roots core = admitted roots core

-- the roots that the client names are bad; else what follows
abbrev pub connected : Bool → List Name → Core → Core × Reply
connected true roots core = (core, refused BadRoots)
connected false roots core = if_room (is_full core) roots core

-- a connected client's request is heard on its own record
abbrev pub requested : Option Client → ℕ → Core → Request → Core × Reply
requested None i core r = (core, refused UnknownClient)
requested (Some c) i core r = (
  record core { clients = with_client i (heard i core.sources c r).0 core.clients },
  (heard i core.sources c r).1,
)

-- a connected client is no more
abbrev pub disconnected : Option Client → ℕ → Core → Core × Reply
disconnected None i core = (core, refused UnknownClient)
disconnected (Some c) i core = (record core { clients = without_client i core.clients }, gone)

-- what an event makes of the core of these roots, and the reply
abbrev pub step : List Name → Core → Event → Core × Reply
step roots core (change ch) = (after_change core ch, answer_change core ch)
step roots core (connect names) = connected (are_bad names) (roots_or names roots) core
step roots core (request i r) = requested (client_at core.clients i) i core r
step roots core (disconnect i) = disconnected (client_at core.clients i) i core

-- no event yet
abbrev pub new_core : Core
new_core = record { sources = no_sources; clients = []; given = 0 }

-- what the events so far make, the newest first
abbrev pub core_after : List Name → List Event → Core
core_after roots [] = new_core
core_after roots (event ∷ past) = (step roots (core_after roots past) event).0

-- what the events make, in their order
abbrev pub replay : List Name → List Event → Core
replay roots events = core_after roots (reverse events)

-- the replies to the events, in their order
abbrev pub replies : List Name → Core → List Event → List Reply
replies roots core [] = []
replies roots core (event ∷ events) =
    (step roots core event).1 ∷ replies roots (step roots core event).0 events

-- the edits and results among the events
abbrev pub changes_of : List Event → List Change
changes_of [] = []
changes_of (change ch ∷ events) = ch ∷ changes_of events
changes_of (connect names ∷ events) = changes_of events
changes_of (request i r ∷ events) = changes_of events
changes_of (disconnect i ∷ events) = changes_of events
