-- How far the run of a script is recorded.
use Rattle.std.specs.Prelude.{◌≡◌, ℕ, List, [], ⊤, Result, IfErr, IfOk, OnOk}
use Prim.{⊥}
use Rattle.std.specs.Global.{Vec}
use Rattle.command_ends.specs.Ends.{limit_line, number}
use Rattle.command_ends.specs.declared.limit.Limit.TheVariants as limits
use Rattle.command_ends.specs.declared.status.Status.TheVariants as statuses
use Rattle.text_commands.specs.declared.stop.Stop.{Stop}
use Rattle.text_commands.specs.declared.stop.Stop.TheVariants.{NotACommand, TooLong, TextTooLong, Faulty}
use Rattle.text_commands.specs.declared.stop.Stop.TheVariants.{RecordTooLong, Unread, Unwritten}
use Rattle.text_commands.specs.declared.stop.Stop.TheVariants.{TranscriptFull, InstancesFull, NoMemory}
use Rattle.text_commands.specs.Outputs.{Output, whole}

-- the output is this line alone
pub record IsAlone (o : Output) (status : ℕ) (last : List ℕ) : Type 0 where
  pub status_is : o.status ≡ status
  pub lines_are : o.lines ≡ []
  pub last_is : o.last ≡ last

-- what a stop says of the output: that it is a fault or a limit alone
abbrev pub IsRecordStop : Output → Stop → Type 0
IsRecordStop o NotACommand = ⊥
IsRecordStop o TooLong = ⊥
IsRecordStop o TextTooLong = ⊥
IsRecordStop o RecordTooLong = ⊥
IsRecordStop o (Faulty line) = IsAlone o (number statuses.NoScript) line.items
IsRecordStop o Unread = ⊥
IsRecordStop o Unwritten = ⊥
IsRecordStop o TranscriptFull = IsAlone o (number statuses.Limit) (limit_line limits.Transcript)
IsRecordStop o InstancesFull = IsAlone o (number statuses.Limit) (limit_line limits.Instances)
IsRecordStop o NoMemory = ⊤

-- The text is the whole output; or this is a fault or a limit alone, or memory ran out.
pub record Records (o : Output) (result : Result (Vec ℕ) Stop) : Type 0 where
  pub ends : OnOk result (o.status ≡ number statuses.Done)
  pub text : IfOk result (λ text. text.items ≡ whole o)
  pub stops : IfErr result (λ stop. IsRecordStop o stop)
