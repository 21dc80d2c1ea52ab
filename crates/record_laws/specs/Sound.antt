-- Sound records.
use Rattle.std.specs.Prelude.{◌≡◌, ◌≤◌, ℕ, ◌+◌, true, ⊤, List, [], ◌∷◌, length, Some, Ok}
use Rattle.core_model.specs.Core.{Event, core_after}
use Rattle.core_model.specs.Names.{Name}
use Rattle.core_model.specs.Roots.{AreRoots}
use Rattle.core_model.specs.Transcript.{most_bytes, most_entries}
use Rattle.server_core.specs.Reading.{is_resting, page_of}
use Rattle.record_text.specs.Reading.{record_of}
use Rattle.record_text.specs.declared.record.Record.{Record}
use Rattle.record_text.specs.declared.record.RecordLine.{RecordLine}
use Rattle.record_text.specs.declared.record.RecordLine.TheVariants as lines
use Rattle.record_laws.specs.Answers.{answer_text}
use Rattle.record_laws.specs.Bounds.{past_bytes}
use Rattle.record_laws.specs.Events.{event_in}

-- the events so far and those that lines tell, the newest first
abbrev pub past_behind : List Event → List RecordLine → List Event
past_behind past [] = past
past_behind past (lines.Entry event reply ∷ more) = past_behind (event_in event ∷ past) more
past_behind past (lines.Rest client table ∷ more) = past_behind past more

-- the events that lines tell, the newest first
abbrev pub past_in : List RecordLine → List Event
past_in ls = past_behind [] ls

-- how many times lines say that a client is at rest, with those that were said before
abbrev pub rests_behind : ℕ → List RecordLine → ℕ
rests_behind rests [] = rests
rests_behind rests (lines.Entry event reply ∷ more) = rests_behind rests more
rests_behind rests (lines.Rest client table ∷ more) = rests_behind (rests + 1) more

-- behind these events, the newest first, the client is at rest, and its page has this table
pub record IsAtRest (roots : List Name) (past : List Event) (client : ℕ)
    (table : List (Name × ℕ)) : Type 0 where
  pub rests : is_resting (core_after roots past) client ≡ true
  pub page : page_of (core_after roots past) client ≡ Some table

-- what lines say of a core of these roots that was told these events, the newest first: each reply is the
-- core's, and each client that is said to be at rest is so
abbrev pub AreTrue : List Name → List Event → List RecordLine → Type 0
AreTrue roots past [] = ⊤
AreTrue roots past (lines.Entry event reply ∷ more) =
    (reply ≡ answer_text roots past (event_in event)) × AreTrue roots (event_in event ∷ past) more
AreTrue roots past (lines.Rest client table ∷ more) =
    IsAtRest roots past client table × AreTrue roots past more

-- a record is sound: its roots are those of a core, its events have their places in a transcript, and what it
-- says is true
pub record IsSound (r : Record) : Type 0 where
  pub roots : AreRoots r.roots
  pub few : length (past_in r.lines) ≤ most_entries
  pub small : past_bytes (past_in r.lines) ≤ most_bytes
  pub told : AreTrue r.roots [] r.lines

-- bytes are a sound record, of so many events, which says so many times that a client is at rest
pub record IsSoundText (text : List ℕ) (steps rests : ℕ) : Type 0 where
  pub meant : Record
  pub read : record_of text ≡ Ok meant
  pub sound : IsSound meant
  pub steps_are : steps ≡ length (past_in meant.lines)
  pub rests_are : rests ≡ rests_behind 0 meant.lines
