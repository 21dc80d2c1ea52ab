-- A transcript: events in the order in which the core met them, each under the number of the pass that
-- made it.
use Rattle.std.specs.Prelude.{◌≡◌, ℕ, ◌+◌, ◌≤◌, List, length, sum_by, map, All, ⊤}
use Rattle.hmr_types.specs.declared.analysis.Outcome.{Outcome}
use Rattle.core_model.specs.Names.{Name}
use Rattle.core_model.specs.Roots.{AreRoots}
use Rattle.core_model.specs.Sources.{Text, edit, result, text_or_none}
use Rattle.core_model.specs.Requests.{Request, Reply, ask, fetch, applied_as, aborted, invalidate}
use Rattle.core_model.specs.Formed.{IsFormed}
use Rattle.core_model.specs.Core.{Event, change, connect, request, disconnect, step, replay}

-- the most entries of a transcript
abbrev pub most_entries : ℕ
most_entries = 1_000_000

-- the most bytes of a transcript: 256 MiB
abbrev pub most_bytes : ℕ
most_bytes = 268_435_456

-- an event, and the number of the pass that made it
abbrev pub Recorded : Type 0
Recorded = ℕ × Event

-- the events alone
abbrev pub events_of : List Recorded → List Event
events_of entries = map (λ entry. entry.1) entries

-- the bytes of the names of a request
abbrev pub request_bytes : Request → ℕ
request_bytes ask = 0
request_bytes (fetch n) = length n
request_bytes (applied_as table) = sum_by (λ row. length row.0) table
request_bytes aborted = 0
request_bytes (invalidate n v) = length n

-- the bytes of the names and texts of an event
abbrev pub event_bytes : Event → ℕ
event_bytes (change (edit n t)) = length n + length (text_or_none t)
event_bytes (change (result n t o v)) = length n + length t
event_bytes (connect names) = sum_by length names
event_bytes (request i r) = request_bytes r
event_bytes (disconnect i) = 0

-- 64 bytes for each entry, and those of its event
abbrev pub transcript_bytes : List Recorded → ℕ
transcript_bytes entries = sum_by (λ entry. 64 + event_bytes entry.1) entries

-- a result that comes is the one that transforming its text gives
abbrev pub IsTrueEvent : (Name → Text → Outcome) → Event → Type 0
IsTrueEvent transformed (change (edit n t)) = ⊤
IsTrueEvent transformed (change (result n t o v)) = o ≡ transformed n t
IsTrueEvent transformed (connect names) = ⊤
IsTrueEvent transformed (request i r) = ⊤
IsTrueEvent transformed (disconnect i) = ⊤

-- a transcript that a core with these roots can have: its events are well formed, and its results true
pub record IsLegal (transformed : Name → Text → Outcome) (roots : List Name)
    (entries : List Recorded) : Type 0 where
  pub roots_are : AreRoots roots
  pub formed : All IsFormed (events_of entries)
  pub results : All (IsTrueEvent transformed) (events_of entries)
  pub few : length entries ≤ most_entries
  pub small : transcript_bytes entries ≤ most_bytes

-- the reply at a place: the step's, after what stands before it
abbrev pub reply_after : List Name → List Recorded → Event → Reply
reply_after roots before event = (step roots (replay roots (events_of before)) event).1
