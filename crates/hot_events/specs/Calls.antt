-- What was called of the events that wait, and what each client has heard of them. Lists of calls have the
-- newest first.
use Rattle.std.specs.Prelude.{◌≡◌, ℕ, ◌+◌, ◌-◌, ◌==◌, nat_le, nat_lt, Bool, not, ◌&&◌}
use Rattle.std.specs.Prelude.{List, [], ◌∷◌, ◌++◌, drop, filter, length, map, take, Option, Some, None}
use Rattle.std.specs.Prelude.{if◌then◌else◌}
use Rattle.std.specs.List.{list_any}
use Rattle.hmr_types.specs.declared.value.Value.{Value}

-- an event: the module that stands for it, and its value
abbrev pub Event : Type 0
Event = List ℕ × Value

-- a client comes or goes, an event is emitted, or a client takes the first one that waits for it
pub data Call : Type 0 where
  enters : ℕ → Call
  leaves : ℕ → Call
  emits : List ℕ → Value → Call
  takes : ℕ → Call

-- rising numbers, with this one among them
abbrev pub with_number : ℕ → List ℕ → List ℕ
with_number i [] = i ∷ []
with_number i (j ∷ js) = if nat_lt j i then j ∷ with_number i js else i ∷ j ∷ js

-- and without it
abbrev pub without_number : ℕ → List ℕ → List ℕ
without_number i js = filter (λ j. not (j == i)) js

-- the clients that are there, by rising number
abbrev pub present : List Call → List ℕ
present [] = []
present (enters i ∷ past) = with_number i (without_number i (present past))
present (leaves i ∷ past) = without_number i (present past)
present (emits n v ∷ past) = present past
present (takes i ∷ past) = present past

abbrev pub is_present : List Call → ℕ → Bool
is_present past i = list_any (λ j. j == i) (present past)

abbrev mutual
  -- the events that came to a client since it entered, in order: those that were emitted while it was there
  -- and fewer than 1,024 waited for it
  pub came : List Call → ℕ → List Event
  came [] i = []
  came (enters j ∷ past) i = if j == i then [] else came past i
  came (leaves j ∷ past) i = came past i
  came (emits n v ∷ past) i =
      if is_present past i && nat_lt (length (came past i) - taken past i) 1024 then came past i ++ (n, v) ∷ []
      else came past i
  came (takes j ∷ past) i = came past i

  -- how many of them it took
  pub taken : List Call → ℕ → ℕ
  taken [] i = 0
  taken (enters j ∷ past) i = if j == i then 0 else taken past i
  taken (leaves j ∷ past) i = taken past i
  taken (emits n v ∷ past) i = taken past i
  taken (takes j ∷ past) i =
      if (j == i) && is_present past i && nat_lt (taken past i) (length (came past i)) then taken past i + 1
      else taken past i

-- the events that a client has heard since it entered: those that came to it, without those that still wait
-- or were given up
abbrev pub heard : List Call → ℕ → List Event
heard past i = take (taken past i) (came past i)

-- the events that wait for a client that is there: those that came to it and that it didn't take
abbrev pub waiting : List Call → ℕ → List Event
waiting past i = drop (taken past i) (came past i)

-- the first of events
abbrev pub first_of : List Event → Option Event
first_of [] = None
first_of (e ∷ es) = Some e

-- the event that has waited longest for a client that is there
abbrev pub first : List Call → ℕ → Option Event
first past i = if is_present past i then first_of (waiting past i) else None

-- as many as may wait
abbrev pub is_many : List Event → Bool
is_many es = nat_le 1024 (length es)

-- the clients for which as many wait as may, by rising number
abbrev pub full : List Call → List ℕ
full past = filter (λ i. is_many (waiting past i)) (present past)

-- the event behind others, where there is one
abbrev pub and_then : List Event → Option Event → List Event
and_then es None = es
and_then es (Some e) = es ++ e ∷ []

-- what a client was given since it entered, take by take
abbrev pub given : List Call → ℕ → List Event
given [] i = []
given (enters j ∷ past) i = if j == i then [] else given past i
given (leaves j ∷ past) i = given past i
given (emits n v ∷ past) i = given past i
given (takes j ∷ past) i = if j == i then and_then (given past i) (first past i) else given past i

-- each client that is there has the events that wait for it
abbrev pub StandsFor : List Call → List (ℕ × List Event) → Type 0
StandsFor past rows = rows ≡ map (λ i. (i, waiting past i)) (present past)
