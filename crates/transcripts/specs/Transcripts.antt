-- Transcripts of a hub: what may be recorded, and what has a place.
use Rattle.std.specs.Prelude.{◌≡◌, ℕ, ◌+◌, ◌==◌, nat_le, nat_lt, Bool, true, false, not, ◌||◌}
use Rattle.std.specs.Prelude.{⊤, List, [], ◌∷◌, length, reverse, All, Result, Ok, Err}
use Rattle.module_semantics.specs.Analysis.{transformed}
use Rattle.module_semantics.specs.ModuleText.{parsing}
use Rattle.core_model.specs.Names.{Name, at}
use Rattle.core_model.specs.Sources.{edit, result}
use Rattle.core_model.specs.Requests.{ask, fetch, applied_as, aborted, invalidate}
use Rattle.core_model.specs.Formed.{IsVersion}
use Rattle.core_model.specs.Core.{Event, change, connect, request, disconnect, core_after}
use Rattle.core_model.specs.Transcript.{Recorded, IsLegal, event_bytes, events_of, most_bytes}
use Rattle.core_model.specs.Transcript.{most_entries, transcript_bytes}
use Rattle.version_map.specs.Standing.{outstanding_in}

-- the events of a transcript, the newest first
abbrev pub past_of : List Recorded → List Event
past_of entries = reverse (events_of entries)

-- the bytes that an entry of the event counts
abbrev pub entry_bytes : Event → ℕ
entry_bytes event = 64 + event_bytes event

-- the transcript has no place for the event
abbrev pub is_full : List Recorded → Event → Bool
is_full entries event =
    nat_le most_entries (length entries) || nat_lt most_bytes (transcript_bytes entries + entry_bytes event)

abbrev pub is_edit : Event → Bool
is_edit (change (edit n t)) = true
is_edit (change (result n t o v)) = false
is_edit (connect names) = false
is_edit (request i r) = false
is_edit (disconnect i) = false

-- the pass of this number may make the event: an edit is under number 0
abbrev pub may_make : ℕ → Event → Bool
may_make by event = not (is_edit event) || (by == 0)

-- the version of a result or of an invalidation is one that an edit can have
abbrev pub HasVersion : Event → Type 0
HasVersion (change (edit n t)) = ⊤
HasVersion (change (result n t o v)) = IsVersion v
HasVersion (connect names) = ⊤
HasVersion (request i ask) = ⊤
HasVersion (request i (fetch n)) = ⊤
HasVersion (request i (applied_as table)) = ⊤
HasVersion (request i aborted) = ⊤
HasVersion (request i (invalidate n v)) = IsVersion v
HasVersion (disconnect i) = ⊤

-- the entry of an event, where it was answered
abbrev pub recorded : {R E : Type 0} → ℕ → Event → Result R E → List Recorded
recorded by event (Ok reply) = (by, event) ∷ []
recorded by event (Err stop) = []

-- a transcript that a hub with these roots can have: it is legal, and each edit in it is under number 0
pub record IsTranscript (roots : List Name) (entries : List Recorded) : Type 0 where
  pub legal : IsLegal (transformed parsing) roots entries
  pub edits : All (λ entry. may_make entry.0 entry.1 ≡ true) entries

-- after the transcript the name has a source whose result hasn't come
abbrev pub is_outstanding : List Name → List Recorded → Name → Bool
is_outstanding roots entries n = outstanding_in (at (core_after roots (past_of entries)).sources.current n)
