-- What a client of the module language asks, one answer after another, and what it takes of them.
use Rattle.std.specs.Prelude.{List, [], ◌∷◌, ◌++◌, Bool, true, false, ⊤}
use Prim.{⊥}
use Rattle.output_lines.specs.declared.out_line.OutLine.{OutLine}
use Rattle.update_msgs.specs.declared.message.ClientMsg.{ClientMsg}
use Rattle.update_msgs.specs.declared.message.ClientMsg.TheVariants.{Bye}
use Rattle.update_msgs.specs.declared.message.ServerMsg.{ServerMsg}
use Rattle.client_model.specs.Past.{Past, message, runtime_after}
use Rattle.client_model.specs.Requesting.{request}
use Rattle.client_model.specs.Runtime.{Opening}
use Rattle.client_model.specs.Taking.{Taken, took, unexpected, instances_full, is_stopped, take}
use Rattle.module_language.specs.ModuleLanguage.{module_language}
use Rattle.runtime_state.specs.Standing.{StandsFor}
use Rattle.runtime_state.specs.declared.fault.RuntimeFault.{RuntimeFault}
use Rattle.runtime_state.specs.declared.fault.RuntimeFault.TheVariants as faults
use Rattle.runtime_state.specs.declared.runtime.HotRuntime.{HotRuntime}
use Rattle.sessions.specs.declared.ended.Ended.{Ended}
use Rattle.sessions.specs.declared.ended.Ended.TheVariants.{Stopped, NoMemory, Unexpected, InstancesFull}

-- a runtime that took no message yet
abbrev pub IsNew : {F : Type 0} → HotRuntime F → Type 0
IsNew h = (opening : Opening) × StandsFor opening [] h

-- the request that stands after what came
abbrev pub asked_after : Opening → Past → ClientMsg
asked_after opening past = request module_language (runtime_after module_language opening past)

-- what taking a message answers after what came
abbrev pub taken_after : Opening → Past → ServerMsg → Taken
taken_after opening past m = (take module_language (runtime_after module_language opening past) m).answer

-- the message was taken
abbrev pub IsTook : Taken → Type 0
IsTook (took lines) = ⊤
IsTook (unexpected wanted got) = ⊥
IsTook instances_full = ⊥
IsTook is_stopped = ⊥

-- what came, once these answers did too
abbrev pub past_after : Past → List ServerMsg → Past
past_after past [] = past
past_after past (m ∷ ms) = past_after (message m ∷ past) ms

-- each of these answers was taken, after what came before it
abbrev pub AllTaken : Opening → Past → List ServerMsg → Type 0
AllTaken opening past [] = ⊤
AllTaken opening past (m ∷ ms) =
    IsTook (taken_after opening past m) × AllTaken opening (message m ∷ past) ms

-- the requests that were answered so
abbrev pub requests : Opening → Past → List ServerMsg → List ClientMsg
requests opening past [] = []
requests opening past (m ∷ ms) = asked_after opening past ∷ requests opening (message m ∷ past) ms

-- the lines of what was taken
abbrev pub lines_by : Taken → List OutLine
lines_by (took lines) = lines
lines_by (unexpected wanted got) = []
lines_by instances_full = []
lines_by is_stopped = []

-- the lines of each answer that was taken
abbrev pub lines_of : Opening → Past → List ServerMsg → List OutLine
lines_of opening past [] = []
lines_of opening past (m ∷ ms) =
    lines_by (taken_after opening past m) ++ lines_of opening (message m ∷ past) ms

-- the last request that is known, once so many were answered: bye, or that of the runtime
abbrev pub next_asked : Bool → Opening → Past → ClientMsg
next_asked true opening past = Bye
next_asked false opening past = asked_after opening past

-- the ending by a fault of the runtime
abbrev pub ended_by : RuntimeFault → Ended
ended_by (faults.Unexpected wanted got) = Unexpected wanted got
ended_by faults.InstancesFull = InstancesFull
ended_by faults.Stopped = Stopped
ended_by faults.NoMemory = NoMemory
