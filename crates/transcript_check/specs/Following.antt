-- When the code has what the definition has of the lines that were read.
use Rattle.std.specs.Prelude.{◌≡◌, ◌≤◌, ◌<◌, ℕ, ◌+◌, ◌++◌, Bool, List, [], length, take, All, ⊤}
use Rattle.std.specs.Prelude.{Some, None, Result, Ok, Err, if◌then◌else◌}
use Prim.{⊥}
use Rattle.std.specs.List.{flat_map}
use Rattle.hmr_types.specs.declared.limits.TheConstants.{ROOTS}
use Rattle.play_script.specs.Script.{Line}
use Rattle.core_model.specs.Core.{Event}
use Rattle.core_model.specs.Names.{Name}
use Rattle.core_model.specs.Transcript.{most_bytes, most_entries}
use Rattle.server_core.specs.Kept as core
use Rattle.server_core.specs.Kept.{StandsFor}
use Rattle.server_core.specs.declared.page_core.Core.{Core}
use Rattle.record_laws.specs.Bounds.{entry_bytes, past_bytes}
use Rattle.record_laws.specs.Course as meant
use Rattle.record_laws.specs.Course.{Opened, Replayed, Taken, roots_fault}
use Rattle.record_laws.specs.Events.{event_in}
use Rattle.event_facts.specs.Tellable.{IsTellable}
use Rattle.record_laws.specs.Written.{lines_told}
use Rattle.record_text.specs.Texts.{line_text}
use Rattle.transcript_check.specs.declared.course.Course.{Course}
use Rattle.transcript_check.specs.declared.course.Course.TheVariants as courses
use Rattle.transcript_check.specs.declared.halt.Halt.{Halt}
use Rattle.transcript_check.specs.declared.halt.Halt.TheVariants as halts
use Rattle.transcript_check.specs.declared.replay.Opened as kept
use Rattle.transcript_check.specs.declared.replay.Replay.{Replay}
use Rattle.record_laws.specs.declared.verdict.Verdict.{Verdict}
use Rattle.record_laws.specs.declared.verdict.Verdict.TheVariants.{No}

-- the core was told these events, the newest first
pub record IsTold (past : List Event) (kept : core.Kept) : Type 0 where
  pub stands : StandsFor past kept
  pub tellable : All IsTellable past

-- the core was told some events
pub record IsToldSome (kept : core.Kept) : Type 0 where
  pub past : List Event
  pub told : IsTold past kept

-- the core was told what was replayed, the events and the clients at rest are counted, and so many bytes of a
-- transcript are left
pub record IsReplay (r : Replayed) (x : Replay) : Type 0 where
  pub roots : x.core.roots ≡ r.roots
  pub told : IsTold r.past x.core
  pub steps : x.steps ≡ length r.past
  pub rests : x.rests ≡ r.rests
  pub left : x.left + past_bytes r.past ≡ most_bytes

abbrev pub one_if : Bool → ℕ
one_if b = if b then 1 else 0

-- behind whole entries: there are no more than may be, and a client at rest is behind an entry of its own
pub record IsBetween (r : Replayed) (may : Bool) (x : Replay) : Type 0 where
  pub replay : IsReplay r x
  pub few : length r.past ≤ most_entries
  pub rested : r.rests + one_if may ≤ length r.past

-- whole entries were replayed, and there are no more clients at rest than these
pub record IsOpen (r : Replayed) (x : Replay) : Type 0 where
  pub replay : IsReplay r x
  pub rested : r.rests ≤ length r.past

-- an event whose reply is to come, as the definitions have it
abbrev pub opened_as : kept.Opened → Opened
opened_as o = record { line = o.line; event = o.event; text = o.text }

-- behind an event, which has a place: so many bytes are left behind it
pub record IsWithin (r : Replayed) (opened : Opened) (x : Replay) (left : ℕ) : Type 0 where
  pub replay : IsReplay r x
  pub few : length r.past < most_entries
  pub rested : r.rests ≤ length r.past
  pub left_after : left + (entry_bytes (event_in opened.event) + past_bytes r.past) ≡ most_bytes

-- of roots that are too many for a core, so many are kept that this is known
abbrev pub kept_roots : List Name → List Name
kept_roots roots = take (ROOTS + 1) roots

-- the code has what the definition has
abbrev pub IsAt : meant.Course → Course → Type 0
IsAt (meant.in_roots roots) (courses.InRoots names) = names.items ≡ kept_roots roots
IsAt (meant.in_roots roots) (courses.Between x may) = ⊥
IsAt (meant.in_roots roots) (courses.Within x opened left) = ⊥
IsAt (meant.between r allowed) (courses.InRoots names) = ⊥
IsAt (meant.between r allowed) (courses.Between x may) = (may ≡ allowed) × IsBetween r may x
IsAt (meant.between r allowed) (courses.Within x opened left) = ⊥
IsAt (meant.within r begun) (courses.InRoots names) = ⊥
IsAt (meant.within r begun) (courses.Between x may) = ⊥
IsAt (meant.within r begun) (courses.Within x opened left) =
    (opened_as opened ≡ begun) × IsWithin r (opened_as opened) x left

-- the code has what the definition has of some lines
pub record IsSomewhere (x : Course) : Type 0 where
  pub course : meant.Course
  pub at : IsAt course x

pub record IsSomeBetween (may : Bool) (x : Replay) : Type 0 where
  pub replayed : Replayed
  pub between : IsBetween replayed may x

pub record IsSomeWithin (opened : kept.Opened) (x : Replay) (left : ℕ) : Type 0 where
  pub replayed : Replayed
  pub within : IsWithin replayed (opened_as opened) x left

-- behind a line, the code has what the definition has; or both end there
abbrev pub IsTaken : Result Course Halt → Taken → Type 0
IsTaken (Ok x) (Ok course) = IsAt course x
IsTaken (Ok x) (Err wrong) = ⊥
IsTaken (Err (halts.At line why)) (Ok course) = ⊥
IsTaken (Err (halts.At line why)) (Err wrong) = wrong ≡ (line, why)
IsTaken (Err halts.NoMemory) taken = ⊤

-- the lines that are left lead from what the code has to this verdict
pub record IsOnWay (x : Course) (n : ℕ) (ls : List Line) (verdict : Verdict) : Type 0 where
  pub course : meant.Course
  pub at : IsAt course x
  pub same : meant.judged course n ls ≡ verdict

-- a core of these roots that was told nothing; or what is wrong with them
abbrev pub IsOpening : ℕ → List Name → Result Core Halt → Type 0
IsOpening line roots (Ok kept) = (roots_fault roots ≡ None) × (kept.roots ≡ roots) × StandsFor [] kept
IsOpening line roots (Err (halts.At n why)) = (n ≡ line) × (roots_fault roots ≡ Some why)
IsOpening line roots (Err halts.NoMemory) = ⊥

-- what is said is the definition's, or that memory ran out
abbrev pub IsJudged : Result Verdict Halt → Verdict → Type 0
IsJudged (Ok verdict) meant = verdict ≡ meant
IsJudged (Err (halts.At line why)) meant = meant ≡ No line why
IsJudged (Err halts.NoMemory) meant = ⊤

-- the core was told events, and behind what is written the lines of those that are left make the whole text
pub record IsRecording (roots : List Name) (events : List Event) (kept : core.Kept)
    (out whole : List ℕ) : Type 0 where
  pub past : List Event
  pub told : IsTold past kept
  pub roots_are : kept.roots ≡ roots
  pub written : out ++ flat_map line_text (lines_told roots past events) ≡ whole
