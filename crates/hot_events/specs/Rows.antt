-- The lists of clients, as rows of a number and the events that wait.
use Rattle.std.specs.Prelude.{ℕ, ◌==◌, nat_lt, not, List, [], ◌∷◌, ◌++◌, drop, filter, map, Option, None}
use Rattle.std.specs.Prelude.{if◌then◌else◌}
use Rattle.hot_events.specs.Calls.{Event, first_of, is_many}

-- a client and the events that wait for it
abbrev pub Row : Type 0
Row = ℕ × List Event

-- the rows by rising number, with this one among them
abbrev pub with_row : Row → List Row → List Row
with_row row [] = row ∷ []
with_row row (r ∷ rows) = if nat_lt r.0 row.0 then r ∷ with_row row rows else row ∷ r ∷ rows

-- the rows of other clients
abbrev pub rows_without : ℕ → List Row → List Row
rows_without i rows = filter (λ row. not (row.0 == i)) rows

-- the event behind those that wait, where there is room
abbrev pub added_to : Event → List Event → List Event
added_to e es = if is_many es then es else es ++ e ∷ []

abbrev pub added_to_each : Event → List Row → List Row
added_to_each e rows = map (λ row. (row.0, added_to e row.1)) rows

-- the clients for which as many wait as may
abbrev pub full_in : List Row → List ℕ
full_in [] = []
full_in (row ∷ rows) = if is_many row.1 then row.0 ∷ full_in rows else full_in rows

-- the first event of a client
abbrev pub first_in : ℕ → List Row → Option Event
first_in i [] = None
first_in i (row ∷ rows) = if row.0 == i then first_of row.1 else first_in i rows

-- the rows after a client took its first event
abbrev pub taken_from : ℕ → List Row → List Row
taken_from i [] = []
taken_from i (row ∷ rows) = if row.0 == i then (row.0, drop 1 row.1) ∷ rows else row ∷ taken_from i rows
