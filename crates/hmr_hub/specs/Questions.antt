-- What is asked of the core under the lock, and the entries of a history of such questions.
use Rattle.std.specs.Prelude.{ℕ, Bool, true, List, [], ◌∷◌, map, flat_map, ⊤}
use Rattle.module_semantics.specs.Analysis.{transformed}
use Rattle.module_semantics.specs.ModuleText.{parsing}
use Rattle.core_model.specs.Names.{Name}
use Rattle.core_model.specs.Formed.{IsFormed}
use Rattle.core_model.specs.Core.{Event}
use Rattle.core_model.specs.Transcript.{Recorded, IsTrueEvent}
use Rattle.transcripts.specs.Transcripts.{may_make}

-- an event is told; or it is asked whether a name's result hasn't come, for the report, or for the events
pub data Asked : Type 0 where
  tell : Event → Asked
  outstanding : Name → Asked
  report : Asked
  events : Asked

-- the pass of this number may ask it
abbrev pub may_ask : ℕ → Asked → Bool
may_ask by (tell event) = may_make by event
may_ask by (outstanding n) = true
may_ask by report = true
may_ask by events = true

-- an event is well formed, and a result true
abbrev pub IsAskable : Asked → Type 0
IsAskable (tell event) = IsFormed event × IsTrueEvent (transformed parsing) event
IsAskable (outstanding n) = ⊤
IsAskable report = ⊤
IsAskable events = ⊤

-- a question as an entry: the event that it tells
abbrev pub entry_in : ℕ → Asked → List Recorded
entry_in by (tell event) = (by, event) ∷ []
entry_in by (outstanding n) = []
entry_in by report = []
entry_in by events = []

-- the transcript of a history of questions
abbrev pub transcript_of : List (ℕ × Asked) → List Recorded
transcript_of history = flat_map (λ e. entry_in e.0 e.1) history

-- a transcript as a history of questions
abbrev pub history_of : List Recorded → List (ℕ × Asked)
history_of entries = map (λ e. (e.0, tell e.1)) entries
