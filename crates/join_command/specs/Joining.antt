-- What a client's command writes, and how it ends.
use Rattle.std.specs.Prelude.{◌≡◌, ◌⊎◌, ◌≤◌, ◌+◌, ℕ, List, [], length, Option, Result, Ok, Err, ⊤}
use Prim.{⊥}
use Rattle.std.specs.List.{AllZip, flat_map}
use Rattle.std.specs.Io.KnownBytes.{Appends}
use Rattle.hmr_base.specs.Fronts.{WritesFront}
use Rattle.hmr_base.specs.declared.out_fault.OutFault.{OutFault}
use Rattle.hmr_base.specs.declared.out_fault.OutFault.TheVariants as faults
use Rattle.output_lines.specs.declared.out_line.OutLine.{OutLine}
use Rattle.play_text.specs.Lines.{line_text}
use Rattle.update_msgs.specs.declared.message.ServerMsg.{ServerMsg}
use Rattle.transport.specs.Told.{told_and, told_front, told_none}
use Rattle.client_model.specs.Runtime.{Opening}
use Rattle.sessions.specs.declared.ended.Ended.{Ended}
use Rattle.sessions.specs.declared.ended.Ended.TheVariants as ends
use Rattle.client_sessions.specs.Asking.{AllTaken, lines_of}
use Rattle.client_sessions.specs.Course.{ClientCourse, said}
use Rattle.client_sessions.specs.Exchange.{ReadsIn}
use Rattle.join_command.specs.declared.stop.JoinStop.{JoinStop}
use Rattle.join_command.specs.declared.stop.JoinStop.TheVariants.{Unwritten, NetFailed, InstancesFull}
use Rattle.join_command.specs.declared.stop.JoinStop.TheVariants.{BadAnswer, NoMemory}

-- what is told of a list of messages, or of bytes
abbrev pub Words : Type 0
Words = Option (List (List ℕ))

abbrev pub Bytes : Type 0
Bytes = Option (List ℕ)

-- the bytes of lines
abbrev pub lines_text : List OutLine → List ℕ
lines_text lines = flat_map line_text lines

-- the stop at a fault of the net
abbrev pub stop_at : OutFault → JoinStop
stop_at faults.Failed = NetFailed
stop_at faults.NoMemory = NoMemory

-- how the command ends where the session ended so
abbrev pub ends_as : Ended → Result ⊤ JoinStop
ends_as ends.Closed = Ok tt
ends_as ends.LinkFault = Err NetFailed
ends_as (ends.BadMessage fault) = Err BadAnswer
ends_as ends.Stopped = Err NoMemory
ends_as ends.NoMemory = Err NoMemory
ends_as (ends.Unexpected wanted got) = Err BadAnswer
ends_as ends.InstancesFull = Err InstancesFull

-- writing stops only at the output or where memory ran out
abbrev pub IsWriteStop : JoinStop → Type 0
IsWriteStop Unwritten = ⊤
IsWriteStop NetFailed = ⊥
IsWriteStop InstancesFull = ⊥
IsWriteStop BadAnswer = ⊥
IsWriteStop NoMemory = ⊤

-- the session came to its end, and all its lines are written
pub record RunsOut (opening : Opening) (turns format : ℕ) (left left' sent sent' : Words) (old new : Bytes)
    (result : Result ⊤ JoinStop) : Type 0 where
  pub lines : List OutLine
  pub ended : Ended
  pub course : ClientCourse opening turns format left left' sent sent' lines ended
  pub written : Appends old new (lines_text lines)
  pub result_is : result ≡ ends_as ended

-- writing stopped behind these answers, and a front of their lines is written; nothing more was sent
pub record IsCutShort (opening : Opening) (turns format : ℕ) (left left' sent sent' : Words) (old new : Bytes)
    (result : Result ⊤ JoinStop) : Type 0 where
  pub takes : List (List ℕ)
  pub answers : List ServerMsg
  pub left_is : left ≡ told_front takes left'
  pub sent_is : sent' ≡ told_and sent (said opening answers)
  pub reads : AllZip (ReadsIn format) takes answers
  pub few : length answers ≤ turns + 1
  pub taken : AllTaken opening [] answers
  pub written : WritesFront old new (lines_text (lines_of opening [] answers))
  pub stop : JoinStop
  pub stops : IsWriteStop stop
  pub result_is : result ≡ Err stop

-- the one or the other
abbrev pub Joins : Opening → ℕ → ℕ → Words → Words → Words → Words → Bytes → Bytes → Result ⊤ JoinStop
    → Type 0
Joins opening turns format left left' sent sent' old new result =
    RunsOut opening turns format left left' sent sent' old new result
    ⊎ IsCutShort opening turns format left left' sent sent' old new result

-- no end was given, and nothing is written
pub record IsUnconnected (old new : Bytes) (result : Result ⊤ JoinStop) : Type 0 where
  pub fault : OutFault
  pub result_is : result ≡ Err (stop_at fault)
  pub written : Appends old new []

-- a session over the end to which these messages came, of which these were left, and which sent these, where
-- the net tells messages
abbrev pub JoinsOver : Opening → ℕ → Words → Words → Words → Bytes → Bytes → Result ⊤ JoinStop → Type 0
JoinsOver opening turns coming left sent old new result =
    Joins opening turns opening.format coming left (told_none coming) sent old new result

-- the same, or there was no end
abbrev pub JoinsBy : Opening → ℕ → Words → Words → Words → Bytes → Bytes → Result ⊤ JoinStop → Type 0
JoinsBy opening turns coming left sent old new result =
    IsUnconnected old new result ⊎ JoinsOver opening turns coming left sent old new result

-- the same, with nothing said of what was left and what was sent
abbrev pub JoinsAt : Opening → ℕ → Words → Bytes → Bytes → Result ⊤ JoinStop → Type 0
JoinsAt opening turns coming old new result =
    IsUnconnected old new result
    ⊎ ((left : Words) × (sent : Words) × JoinsOver opening turns coming left sent old new result)
