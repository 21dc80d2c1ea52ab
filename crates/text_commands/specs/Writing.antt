-- How far lines are taken, and why their taking stops.
use Rattle.std.specs.Prelude.{◌≡◌, ◌≤◌, ⊤, ◌++◌}
use Rattle.std.specs.Prelude.{ℕ, List, Option, Some, None, Result, IsErrOf}
use Prim.{⊥}
use Rattle.std.specs.Io.KnownBytes.{Appends}
use Rattle.hmr_base.specs.Causes.{Rose}
use Rattle.hmr_base.specs.Fronts.{WritesFront}
use Rattle.output_lines.specs.declared.out_line.OutLine.{OutLine}
use Rattle.text_commands.specs.declared.stop.Stop.{Stop}
use Rattle.text_commands.specs.declared.stop.Stop.TheVariants.{NotACommand, TooLong, TextTooLong, Faulty}
use Rattle.text_commands.specs.declared.stop.Stop.TheVariants.{RecordTooLong, Unread, Unwritten}
use Rattle.text_commands.specs.declared.stop.Stop.TheVariants.{TranscriptFull, InstancesFull, NoMemory}
use Rattle.text_commands.specs.Outputs.{lines_text}

-- all of the one text is written, and behind it a front of the other
pub record WritesBehind (old new : Option (List ℕ)) (text last : List ℕ) : Type 0 where
  pub front : List ℕ
  pub rest : List ℕ
  pub whole : front ++ rest ≡ last
  pub out : Appends old new (text ++ front)

-- what has taken lines: the bytes that it wrote, where it tells them, and the lines, where it keeps them
pub record Taken : Type 0 where
  pub bytes : Option (List ℕ)
  pub lines : Option (List OutLine)

-- lines are written as their bytes, and aren't kept
abbrev pub written_as : Option (List ℕ) → Taken
written_as bytes = record { bytes = bytes; lines = None }

-- lines are kept, and aren't written
abbrev pub kept_as : List OutLine → Taken
kept_as lines = record { bytes = None; lines = Some lines }

-- the lines that are kept grow by these
abbrev pub Gains : Option (List OutLine) → Option (List OutLine) → List OutLine → Type 0
Gains None new lines = ⊤
Gains (Some before) None lines = ⊥
Gains (Some before) (Some after) lines = after ≡ before ++ lines

-- lines aren't kept, and aren't written
abbrev pub dropped : Taken
dropped = record { bytes = None; lines = None }

-- all of these lines were taken
pub record Takes (old new : Taken) (lines : List OutLine) : Type 0 where
  pub written : Appends old.bytes new.bytes (lines_text lines)
  pub kept : Gains old.lines new.lines lines

-- a front of their bytes was written
abbrev pub TakesFront : Taken → Taken → List OutLine → Type 0
TakesFront old new lines = WritesFront old.bytes new.bytes (lines_text lines)

-- writing stops only at the output or where memory ran out
abbrev pub IsWriteStop : Stop → Type 0
IsWriteStop NotACommand = ⊥
IsWriteStop TooLong = ⊥
IsWriteStop TextTooLong = ⊥
IsWriteStop RecordTooLong = ⊥
IsWriteStop (Faulty line) = ⊥
IsWriteStop Unread = ⊥
IsWriteStop Unwritten = ⊤
IsWriteStop TranscriptFull = ⊥
IsWriteStop InstancesFull = ⊥
IsWriteStop NoMemory = ⊤

-- playing also stops at too many instances
abbrev pub IsPlayStop : Stop → Type 0
IsPlayStop NotACommand = ⊥
IsPlayStop TooLong = ⊥
IsPlayStop TextTooLong = ⊥
IsPlayStop RecordTooLong = ⊥
IsPlayStop (Faulty line) = ⊥
IsPlayStop Unread = ⊥
IsPlayStop Unwritten = ⊤
IsPlayStop TranscriptFull = ⊥
IsPlayStop InstancesFull = ⊤
IsPlayStop NoMemory = ⊤

-- where nothing is written, it stops only there or where memory ran out
abbrev pub IsKeepStop : Stop → Type 0
IsKeepStop NotACommand = ⊥
IsKeepStop TooLong = ⊥
IsKeepStop TextTooLong = ⊥
IsKeepStop RecordTooLong = ⊥
IsKeepStop (Faulty line) = ⊥
IsKeepStop Unread = ⊥
IsKeepStop Unwritten = ⊥
IsKeepStop TranscriptFull = ⊥
IsKeepStop InstancesFull = ⊤
IsKeepStop NoMemory = ⊤

-- the count of faults doesn't fall, and it rose where the output failed
pub record HasCause {X : Type 0} (before now : ℕ) (result : Result X Stop) : Type 0 where
  pub later : before ≤ now
  pub unwritten : IsErrOf result Unwritten → Rose before now
