-- Which bytes are a record, and what it is; or the first line of those that are none.
--
-- A text is lines, and a line by itself says a root, an event, a piece of a text, a reply or a client at
-- rest. The lines are taken in order, each where it may stand.
use Rattle.std.specs.Prelude.{◌≡◌, ℕ, ◌+◌, Bool, List, [], ◌∷◌, ◌++◌, Option, Some, None}
use Rattle.std.specs.Prelude.{Result, Ok, Err, if◌then◌else◌, option_and_then}
use Rattle.std.specs.Option.{option_map}
use Rattle.hmr_types.specs.Results.{◌>>=◌}
use Rattle.play_script.specs.Script.{Line, lines_from}
use Rattle.record_text.specs.Lines.{said_of}
use Rattle.record_text.specs.Order.{after_event, after_last, after_reply, after_rest, after_root}
use Rattle.record_text.specs.Order.{after_text, at_first, may_stand}
use Rattle.record_text.specs.declared.draft.Draft.{Draft}
use Rattle.record_text.specs.declared.record.Record.{Record}
use Rattle.record_text.specs.declared.record.RecordEvent.{RecordEvent}
use Rattle.record_text.specs.declared.record.RecordEvent.TheVariants as events
use Rattle.record_text.specs.declared.record.RecordLine.{RecordLine}
use Rattle.record_text.specs.declared.record.RecordLine.TheVariants as lines
use Rattle.record_text.specs.declared.refusal.RecordFault.{RecordFault}
use Rattle.record_text.specs.declared.refusal.RecordFault.TheVariants as faults
use Rattle.record_text.specs.declared.refusal.Refusal.{Refusal}
use Rattle.record_text.specs.declared.refusal.Refusal.TheVariants as refusals
use Rattle.record_text.specs.declared.said.Said.{Said}
use Rattle.record_text.specs.declared.said.Said.TheVariants as says

-- an event with one more piece of its text
abbrev pub with_piece : List ℕ → RecordEvent → RecordEvent
with_piece piece (events.Edit name text) = events.Edit name (text ++ piece)
with_piece piece (events.Remove name) = events.Remove name
with_piece piece (events.Settle name text version) = events.Settle name (text ++ piece) version
with_piece piece (events.Connect names) = events.Connect names
with_piece piece (events.Ask client) = events.Ask client
with_piece piece (events.Fetch client name) = events.Fetch client name
with_piece piece (events.Applied client table) = events.Applied client table
with_piece piece (events.Aborted client) = events.Aborted client
with_piece piece (events.Invalidate client name version) = events.Invalidate client name version
with_piece piece (events.Disconnect client) = events.Disconnect client

-- the entry of an event and its reply
abbrev pub entries : Option RecordEvent → List ℕ → List RecordLine
entries None reply = []
entries (Some event) reply = lines.Entry event reply ∷ []

-- the record so far behind a line that says this
abbrev pub with_said : Draft → Said → Draft
with_said draft (says.Root name) = record draft { next = after_root; roots = draft.roots ++ name ∷ [] }
with_said draft (says.Event event) = record draft { next = after_event event; event = Some event }
with_said draft (says.Text piece) =
    record draft { next = after_text; event = option_map (with_piece piece) draft.event }
with_said draft (says.Last piece) =
    record draft { next = after_last; event = option_map (with_piece piece) draft.event }
with_said draft (says.Reply reply) =
    record draft { next = after_reply; event = None; lines = draft.lines ++ entries draft.event reply }
with_said draft (says.Rest client table) =
    record draft { next = after_rest; lines = draft.lines ++ lines.Rest client table ∷ [] }

-- the same, where that may stand there
abbrev pub placed : Draft → Said → Option Draft
placed draft said = if may_stand said draft.next then Some (with_said draft said) else None

-- a record before its first line
abbrev pub beginning : Draft
beginning = record { next = at_first; event = None; roots = []; lines = [] }

-- the record so far behind a line, which LF ends
abbrev pub line_read : Draft → List ℕ → Bool → Option Draft
line_read draft line ended = if ended then option_and_then (placed draft) (said_of line) else None

-- what is there, or that the line of this number is bad
abbrev pub or_bad : {X : Type 0} → ℕ → Option X → Result X ℕ
or_bad n (Some x) = Ok x
or_bad n None = Err n

-- the record is whole, or the line of this number is to come
abbrev pub whole : ℕ → Draft → Result Draft ℕ
whole n draft = if draft.next.event then Ok draft else Err n

-- what stands behind the lines from the one of this number on, or the number of the first bad one
abbrev pub all_read : Draft → ℕ → List Line → Result Draft ℕ
all_read draft n [] = whole n draft
all_read draft n (line ∷ more) =
    or_bad n (line_read draft line.bytes line.ended) >>= λ next. all_read next (n + 1) more

-- the record of what was read
abbrev pub of_draft : Draft → Record
of_draft draft = record { roots = draft.roots; lines = draft.lines }

-- the record that bytes are, or the number of their first bad line
abbrev pub record_of : List ℕ → Result Record ℕ
record_of text = all_read beginning 1 (lines_from [] text) >>= λ draft. Ok (of_draft draft)

-- the fault of a record whose line of this number is refused
abbrev pub fault_at : ℕ → Refusal → RecordFault
fault_at n refusals.BadLine = faults.BadLine n
fault_at n refusals.NoMemory = faults.NoMemory

-- a reader's answer is the definition's, or out of memory
abbrev pub IsReading : {X : Type 0} → Result X RecordFault → Result X ℕ → Type 0
IsReading (Ok x) meant = meant ≡ Ok x
IsReading (Err (faults.BadLine n)) meant = meant ≡ Err n
IsReading (Err faults.NoMemory) meant = Unit {0}
