-- What holds unless memory ran out.
use Rattle.std.specs.Prelude.{Result, Ok, Err}
use Rattle.runtime_state.specs.Answers.{UnlessNoMemory}
use Rattle.runtime_state.specs.declared.fault.RuntimeFault.{RuntimeFault}
use Rattle.runtime_state.specs.declared.fault.RuntimeFault.TheVariants.{Unexpected, InstancesFull, Stopped, NoMemory}

pub unless_map : {T P Q : Type 0} → (P → Q) → (answer : Result T RuntimeFault) → UnlessNoMemory P answer → UnlessNoMemory Q answer
unless_map f (Ok x) h = f h
unless_map f (Err (Unexpected wanted got)) h = f h
unless_map f (Err InstancesFull) h = f h
unless_map f (Err Stopped) h = f h
unless_map f (Err NoMemory) h = tt
