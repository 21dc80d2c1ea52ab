-- What is left where other clients' requests are left out.
use Rattle.std.specs.Prelude.{◌≡◌, ℕ, ◌≤◌, ◌==◌, Bool, true, List, [], ◌∷◌, length, filter, is_some}
use Rattle.std.specs.Prelude.{if◌then◌else◌}
use Rattle.core_model.specs.Names.{Name}
use Rattle.core_model.specs.Requests.{Reply}
use Rattle.core_model.specs.Core.{Core, Event, change, connect, request, disconnect, client_at, step}

-- an edit, a result, a client that comes or goes, or a request of this client
abbrev pub concerns : ℕ → Event → Bool
concerns d (change ch) = true
concerns d (connect names) = true
concerns d (request i r) = i == d
concerns d (disconnect i) = true

-- the events without the requests of all clients but this
abbrev pub without_others : ℕ → List Event → List Event
without_others d events = filter (concerns d) events

-- the replies to the events, without those to the requests of all clients but this
abbrev pub replies_without_others : ℕ → List Name → Core → List Event → List Reply
replies_without_others d roots core [] = []
replies_without_others d roots core (event ∷ events) =
    let more : List Reply = replies_without_others d roots (step roots core event).0 events in
    if concerns d event then (step roots core event).1 ∷ more else more

-- how many records stand under this number
abbrev pub records_of : {X : Type 0} → ℕ → List (ℕ × X) → ℕ
records_of i rows = length (filter (λ row. row.0 == i) rows)

-- each connected client has one record, under a number that was given
pub record AreNumbered (core : Core) : Type 0 where
  pub once : (i : ℕ) → records_of i core.clients ≤ 1
  pub given : (i : ℕ) → is_some (client_at core.clients i) ≡ true → i ≤ core.given
