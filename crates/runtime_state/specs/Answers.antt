-- What the runtime answers, against what the definitions answer. Want of memory may come in place of any
-- answer but that it was stopped.
use Rattle.std.specs.Prelude.{◌≡◌, Option, Some, None, Result, Ok, Err, ⊤}
use Prim.{⊥}
use Rattle.std.specs.Global.{Vec}
use Rattle.output_lines.specs.declared.out_line.OutLine.{OutLine}
use Rattle.client_model.specs.Taking.{Taken, took, unexpected, instances_full, is_stopped}
use Rattle.client_model.specs.Firing as firing
use Rattle.client_model.specs.Firing.{Fired, heard, busy}
use Rattle.runtime_state.specs.declared.fault.RuntimeFault.{RuntimeFault}
use Rattle.runtime_state.specs.declared.fault.RuntimeFault.TheVariants.{Unexpected, InstancesFull}
use Rattle.runtime_state.specs.declared.fault.RuntimeFault.TheVariants.{Stopped, NoMemory}

-- the answer to a message is the definition's
abbrev pub IsTaken : Taken → Result (Vec OutLine) RuntimeFault → Type 0
IsTaken taken (Ok lines) = taken ≡ took lines.items
IsTaken taken (Err (Unexpected wanted got)) = taken ≡ unexpected wanted got
IsTaken taken (Err InstancesFull) = taken ≡ instances_full
IsTaken taken (Err Stopped) = taken ≡ is_stopped
IsTaken taken (Err NoMemory) = ⊤

-- the answer to an event is the definition's
abbrev pub IsFired : Fired → Result (Option (Vec OutLine)) RuntimeFault → Type 0
IsFired fired (Ok (Some lines)) = fired ≡ heard lines.items
IsFired fired (Ok None) = fired ≡ busy
IsFired fired (Err (Unexpected wanted got)) = ⊥
IsFired fired (Err InstancesFull) = ⊥
IsFired fired (Err Stopped) = fired ≡ firing.is_stopped
IsFired fired (Err NoMemory) = ⊤

-- unless memory ran out
abbrev pub UnlessNoMemory : {T : Type 0} → Type 0 → Result T RuntimeFault → Type 0
UnlessNoMemory P (Ok x) = P
UnlessNoMemory P (Err (Unexpected wanted got)) = P
UnlessNoMemory P (Err InstancesFull) = P
UnlessNoMemory P (Err Stopped) = P
UnlessNoMemory P (Err NoMemory) = ⊤

-- where the answer stops the runtime
abbrev pub OnStop : {T : Type 0} → Type 0 → Result T RuntimeFault → Type 0
OnStop P (Ok x) = ⊤
OnStop P (Err (Unexpected wanted got)) = ⊤
OnStop P (Err InstancesFull) = P
OnStop P (Err Stopped) = ⊤
OnStop P (Err NoMemory) = P

-- where the answer is a refusal that changes nothing
abbrev pub OnRefusal : {T : Type 0} → Type 0 → Result T RuntimeFault → Type 0
OnRefusal P (Ok x) = ⊤
OnRefusal P (Err (Unexpected wanted got)) = P
OnRefusal P (Err InstancesFull) = ⊤
OnRefusal P (Err Stopped) = P
OnRefusal P (Err NoMemory) = ⊤

-- where there is no answer
abbrev pub OnNone : {T : Type 0} → Type 0 → Result (Option T) RuntimeFault → Type 0
OnNone P (Ok (Some x)) = ⊤
OnNone P (Ok None) = P
OnNone P (Err fault) = ⊤
