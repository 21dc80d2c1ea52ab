-- What is said of bytes: whether they are a sound record, or the first line that is wrong and why.
--
-- The lines are taken in order. A core is told the events again, and what a line says of it is compared.
use Rattle.std.specs.Prelude.{ℕ, ◌+◌, Bool, true, false, List, [], ◌∷◌, ◌++◌, length}
use Rattle.std.specs.Prelude.{Option, Some, None, Result, Ok, Err, if◌then◌else◌}
use Rattle.hmr_types.specs.ModName.{is_text}
use Rattle.play_script.specs.Script.{Line, lines_from}
use Rattle.core_model.specs.Core.{Event}
use Rattle.core_model.specs.Names.{Name}
use Rattle.core_model.specs.Roots.{are_bad}
use Rattle.record_text.specs.Lines.{said_of}
use Rattle.record_text.specs.Order.{has_text}
use Rattle.record_text.specs.Reading.{with_piece}
use Rattle.record_text.specs.declared.record.RecordEvent.{RecordEvent}
use Rattle.record_text.specs.declared.said.Said.{Said}
use Rattle.record_text.specs.declared.said.Said.TheVariants as says
use Rattle.record_laws.specs.Answers.{answer_text}
use Rattle.record_laws.specs.Bounds.{has_place}
use Rattle.record_laws.specs.Events.{event_in}
use Rattle.record_laws.specs.Resting.{rests_with}
use Rattle.record_laws.specs.declared.verdict.Verdict.{Verdict}
use Rattle.record_laws.specs.declared.verdict.Verdict.TheVariants.{Yes, No}
use Rattle.record_laws.specs.declared.verdict.Why.{Why}
use Rattle.record_laws.specs.declared.verdict.Why.TheVariants.{BadLine, Roots, Reply, Rest, Limit}

-- what a core was told so far
pub record Replayed : Type 0 where
  pub roots : List Name
  pub past : List Event  -- the events, the newest first
  pub rests : ℕ  -- how many times a client was said to be at rest

-- an event whose reply is to come: its line, the event as far as its text was read, and whether a piece of it
-- may come
pub record Opened : Type 0 where
  pub line : ℕ
  pub event : RecordEvent
  pub text : Bool

-- what was read so far: roots; or whole entries, behind which a client may be at rest or not; or these and an
-- event whose reply is to come
pub data Course : Type 0 where
  in_roots : List Name → Course
  between : Replayed → Bool → Course
  within : Replayed → Opened → Course

-- what is behind a line, or the line that is wrong and why
abbrev pub Taken : Type 0
Taken = Result Course (ℕ × Why)

-- the line of this number can't stand there
abbrev pub bad : ℕ → Taken
bad n = Err (n, BadLine)

-- an event, as far as its text is read, has a place; else the line of the event is wrong
abbrev pub with_event : Opened → Replayed → Taken
with_event opened r =
    if has_place r.past (event_in opened.event) then Ok (within r opened) else Err (opened.line, Limit)

-- an event begins on the line of this number
abbrev pub begun : ℕ → RecordEvent → Replayed → Taken
begun n event r = with_event (record { line = n; event = event; text = has_text event }) r

-- no event was told to a core of these roots
abbrev pub untold : List Name → Replayed
untold roots = record { roots = roots; past = []; rests = 0 }

-- what is wrong with roots: there are none yet, or no core has them
abbrev pub roots_fault : List Name → Option Why
roots_fault [] = Some BadLine
roots_fault (root ∷ roots) = if are_bad (root ∷ roots) then Some Roots else None

-- the first event, behind roots with this fault or none
abbrev pub first_begun : Option Why → ℕ → RecordEvent → List Name → Taken
first_begun (Some why) n event roots = Err (n, why)
first_begun None n event roots = begun n event (untold roots)

-- one more piece of the text of an event, where one may come; behind it another may come, or not
abbrev pub with_more : ℕ → Bool → List ℕ → Opened → Replayed → Taken
with_more n more piece opened r =
    if opened.text
    then with_event (record opened { event = with_piece piece opened.event; text = more }) r
    else bad n

-- the reply is the core's
abbrev pub answered : ℕ → List ℕ → Opened → Replayed → Taken
answered n reply opened r =
    if is_text reply (answer_text r.roots r.past (event_in opened.event))
    then Ok (between (record r { past = event_in opened.event ∷ r.past }) true)
    else Err (n, Reply)

-- directly behind an entry, the client is at rest with this table
abbrev pub rested : ℕ → ℕ → List (Name × ℕ) → Bool → Replayed → Taken
rested n client table may r =
    if may
    then (if rests_with r.roots r.past client table
    then Ok (between (record r { rests = r.rests + 1 }) false)
    else Err (n, Rest))
    else bad n

-- a line among the roots
abbrev pub taken_in_roots : ℕ → List Name → Said → Taken
taken_in_roots n roots (says.Root name) = Ok (in_roots (roots ++ name ∷ []))
taken_in_roots n roots (says.Event event) = first_begun (roots_fault roots) n event roots
taken_in_roots n roots (says.Text piece) = bad n
taken_in_roots n roots (says.Last piece) = bad n
taken_in_roots n roots (says.Reply reply) = bad n
taken_in_roots n roots (says.Rest client table) = bad n

-- a line behind a whole entry
abbrev pub taken_between : ℕ → Replayed → Bool → Said → Taken
taken_between n r may (says.Root name) = bad n
taken_between n r may (says.Event event) = begun n event r
taken_between n r may (says.Text piece) = bad n
taken_between n r may (says.Last piece) = bad n
taken_between n r may (says.Reply reply) = bad n
taken_between n r may (says.Rest client table) = rested n client table may r

-- a line behind an event whose reply is to come
abbrev pub taken_within : ℕ → Replayed → Opened → Said → Taken
taken_within n r opened (says.Root name) = bad n
taken_within n r opened (says.Event event) = bad n
taken_within n r opened (says.Text piece) = with_more n true piece opened r
taken_within n r opened (says.Last piece) = with_more n false piece opened r
taken_within n r opened (says.Reply reply) = answered n reply opened r
taken_within n r opened (says.Rest client table) = bad n

-- the line of this number says this
abbrev pub taken : ℕ → Said → Course → Taken
taken n s (in_roots roots) = taken_in_roots n roots s
taken n s (between r may) = taken_between n r may s
taken n s (within r opened) = taken_within n r opened s

-- the line of this number says this, or nothing that a line of a record says
abbrev pub read_as : ℕ → Option Said → Course → Taken
read_as n None course = bad n
read_as n (Some s) course = taken n s course

-- the line of this number, which an LF ends or not
abbrev pub line_taken : ℕ → List ℕ → Bool → Course → Taken
line_taken n line ended course = if ended then read_as n (said_of line) course else bad n

-- no line is left behind roots with this fault or none
abbrev pub roots_alone : Option Why → ℕ → Verdict
roots_alone (Some why) n = No n why
roots_alone None n = Yes 0 0

-- no line is left; this is the number of the next
abbrev pub at_end : ℕ → Course → Verdict
at_end n (in_roots roots) = roots_alone (roots_fault roots) n
at_end n (between r may) = Yes (length r.past) r.rests
at_end n (within r opened) = No n BadLine

-- what follows, or the line that is wrong
abbrev pub or_no : Taken → (Course → Verdict) → Verdict
or_no (Ok course) f = f course
or_no (Err wrong) f = No wrong.0 wrong.1

-- the lines that are left, from the one of this number on
abbrev pub judged : Course → ℕ → List Line → Verdict
judged course n [] = at_end n course
judged course n (line ∷ more) =
    or_no (line_taken n line.bytes line.ended course) (λ next. judged next (n + 1) more)

-- what is said of bytes
abbrev pub verdict_of : List ℕ → Verdict
verdict_of text = judged (in_roots []) 1 (lines_from [] text)
