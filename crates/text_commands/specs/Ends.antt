-- How a command ends, and what is known then.
use Rattle.std.specs.Prelude.{◌≡◌, ◌≤◌, ◌⊎◌, ℕ, List, [], ⊤, true, Option, Result, Ok, Err, length}
use Prim.{⊥}
use Rattle.std.specs.Io.KnownBytes.{Appends, Keeps}
use Rattle.hmr_types.specs.declared.limits.TheConstants.{ROOTS}
use Rattle.hmr_base.specs.declared.read.ReadFault.{ReadFault}
use Rattle.hmr_base.specs.declared.read.ReadFault.TheVariants as reading
use Rattle.core_model.specs.Names.{Name}
use Rattle.core_model.specs.Roots.{are_distinct}
use Rattle.command_ends.specs.Ends.{limit_line, number}
use Rattle.command_ends.specs.declared.limit.Limit.{Limit}
use Rattle.command_ends.specs.declared.limit.Limit.TheVariants as limits
use Rattle.command_ends.specs.declared.status.Status.{Status}
use Rattle.command_ends.specs.declared.status.Status.TheVariants as statuses
use Rattle.command_words.specs.declared.command.WordsFault.{WordsFault}
use Rattle.command_words.specs.declared.command.WordsFault.TheVariants as words
use Rattle.command_words.specs.Words.{usage_line}
use Rattle.play_script.specs.declared.fault.ScriptRefusal.{ScriptRefusal}
use Rattle.play_script.specs.declared.fault.ScriptRefusal.TheVariants as refusals
use Rattle.text_commands.specs.declared.stop.Stop.{Stop}
use Rattle.text_commands.specs.declared.stop.Stop.TheVariants.{NotACommand, TooLong, TextTooLong, Faulty}
use Rattle.text_commands.specs.declared.stop.Stop.TheVariants.{RecordTooLong, Unread, Unwritten}
use Rattle.text_commands.specs.declared.stop.Stop.TheVariants.{TranscriptFull, InstancesFull, NoMemory}
use Rattle.text_commands.specs.Outputs.{Output, fault_line, whole}

-- the stop for words that weren't read
abbrev pub stop_of_words : WordsFault → Stop
stop_of_words words.NotACommand = NotACommand
stop_of_words words.NoMemory = NoMemory

-- the stop for a script that wasn't read
abbrev pub stop_of_read : ReadFault → Stop
stop_of_read reading.Failed = Unread
stop_of_read reading.TooLong = TooLong
stop_of_read reading.NoMemory = NoMemory

-- the stop for a module text that wasn't read
abbrev pub stop_of_text : ReadFault → Stop
stop_of_text reading.Failed = Unread
stop_of_text reading.TooLong = TextTooLong
stop_of_text reading.NoMemory = NoMemory

-- the stop for a record that wasn't read
abbrev pub stop_of_record : ReadFault → Stop
stop_of_record reading.Failed = Unread
stop_of_record reading.TooLong = RecordTooLong
stop_of_record reading.NoMemory = NoMemory

-- the roots of a script: at most 16, no two equal
pub record AreFew (roots : List Name) : Type 0 where
  pub few : length roots ≤ ROOTS
  pub distinct : are_distinct roots ≡ true

-- the output has no last line, and all of it is written
pub record Finishes (o : Output) (old new : Option (List ℕ)) : Type 0 where
  pub status_is : o.status ≡ number statuses.Done
  pub out : Appends old new (whole o)

-- the output has this last line, and all before it is written
pub record EndsBefore (o : Output) (status : ℕ) (last : List ℕ) (old new : Option (List ℕ)) : Type 0 where
  pub status_is : o.status ≡ status
  pub last_is : o.last ≡ last
  pub out : Appends old new o.lines

-- the last line is that of a limit
abbrev pub EndsAtLimit : Output → Limit → Option (List ℕ) → Option (List ℕ) → Type 0
EndsAtLimit o limit old new = EndsBefore o (number statuses.Limit) (limit_line limit) old new

-- what a stop says: of words, of a limit and of a fault, that the output is so; of the input and the output,
-- how much is written, and that the output isn't of those that come before them
abbrev pub StopsAt : Output → Option (List ℕ) → Option (List ℕ) → Stop → Type 0
StopsAt o old new NotACommand = EndsBefore o (number statuses.NotACommand) usage_line old new
StopsAt o old new TooLong = EndsAtLimit o limits.Script old new
StopsAt o old new TextTooLong = EndsAtLimit o limits.Text old new
StopsAt o old new RecordTooLong = EndsAtLimit o limits.Record old new
StopsAt o old new (Faulty line) = EndsBefore o (number statuses.NoScript) line.items old new
StopsAt o old new Unread = Keeps old new × (o.status ≡ number statuses.NotACommand → ⊥)
StopsAt o old new Unwritten =
    (o.status ≡ number statuses.NotACommand → ⊥) × (o.status ≡ number statuses.NoScript → ⊥)
StopsAt o old new TranscriptFull = EndsAtLimit o limits.Transcript old new
StopsAt o old new InstancesFull = EndsAtLimit o limits.Instances old new
StopsAt o old new NoMemory = ⊤

-- words that are no command end so, or memory ran out
abbrev pub EndsAtWords : Result (Unit {0}) Stop → Type 0
EndsAtWords (Ok u) = ⊥
EndsAtWords (Err NotACommand) = ⊤
EndsAtWords (Err TooLong) = ⊥
EndsAtWords (Err TextTooLong) = ⊥
EndsAtWords (Err RecordTooLong) = ⊥
EndsAtWords (Err (Faulty line)) = ⊥
EndsAtWords (Err Unread) = ⊥
EndsAtWords (Err Unwritten) = ⊥
EndsAtWords (Err TranscriptFull) = ⊥
EndsAtWords (Err InstancesFull) = ⊥
EndsAtWords (Err NoMemory) = ⊤

-- the line of a script's fault; where memory ran out there is none
abbrev pub IsFaultLine : ScriptRefusal → List ℕ → Type 0
IsFaultLine (refusals.Faulty fault) line = line ≡ fault_line fault
IsFaultLine refusals.NoMemory line = ⊥

-- the stop where a script isn't read: the line of its fault, or that memory ran out
abbrev pub IsFaultStop : ScriptRefusal → Stop → Type 0
IsFaultStop refusal NotACommand = ⊥
IsFaultStop refusal TooLong = ⊥
IsFaultStop refusal TextTooLong = ⊥
IsFaultStop refusal RecordTooLong = ⊥
IsFaultStop refusal (Faulty line) = IsFaultLine refusal line.items
IsFaultStop refusal Unread = ⊥
IsFaultStop refusal Unwritten = ⊥
IsFaultStop refusal TranscriptFull = ⊥
IsFaultStop refusal InstancesFull = ⊥
IsFaultStop refusal NoMemory = ⊤

-- the exit status of an end
abbrev pub status_of : Result (Unit {0}) Stop → Status
status_of (Ok u) = statuses.Done
status_of (Err NotACommand) = statuses.NotACommand
status_of (Err TooLong) = statuses.Limit
status_of (Err TextTooLong) = statuses.Limit
status_of (Err RecordTooLong) = statuses.Limit
status_of (Err (Faulty line)) = statuses.NoScript
status_of (Err Unread) = statuses.Unread
status_of (Err Unwritten) = statuses.Unwritten
status_of (Err TranscriptFull) = statuses.Limit
status_of (Err InstancesFull) = statuses.Limit
status_of (Err NoMemory) = statuses.NoMemory

-- the line that is written at an end
abbrev pub last_of : Result (Unit {0}) Stop → List ℕ
last_of (Ok u) = []
last_of (Err NotACommand) = usage_line
last_of (Err TooLong) = limit_line limits.Script
last_of (Err TextTooLong) = limit_line limits.Text
last_of (Err RecordTooLong) = limit_line limits.Record
last_of (Err (Faulty line)) = line.items
last_of (Err Unread) = []
last_of (Err Unwritten) = []
last_of (Err TranscriptFull) = limit_line limits.Transcript
last_of (Err InstancesFull) = limit_line limits.Instances
last_of (Err NoMemory) = []

-- the ends without a line
abbrev pub IsSilent : Result (Unit {0}) Stop → Type 0
IsSilent (Ok u) = ⊤
IsSilent (Err NotACommand) = ⊥
IsSilent (Err TooLong) = ⊥
IsSilent (Err TextTooLong) = ⊥
IsSilent (Err RecordTooLong) = ⊥
IsSilent (Err (Faulty line)) = ⊥
IsSilent (Err Unread) = ⊤
IsSilent (Err Unwritten) = ⊤
IsSilent (Err TranscriptFull) = ⊥
IsSilent (Err InstancesFull) = ⊥
IsSilent (Err NoMemory) = ⊤

-- no other status is answered
abbrev pub IsOwnStatus : ℕ → Type 0
IsOwnStatus n = (n ≡ 0) ⊎ (n ≡ 2) ⊎ (n ≡ 3) ⊎ (n ≡ 4) ⊎ (n ≡ 5) ⊎ (n ≡ 8) ⊎ (n ≡ 9)
