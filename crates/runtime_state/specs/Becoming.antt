-- What a runtime becomes at an answer or an event.
use Rattle.std.specs.Prelude.{◌≡◌, List, Result}
use Rattle.std.specs.Global.{Vec}
use Rattle.output_lines.specs.declared.out_line.OutLine.{OutLine}
use Rattle.client_model.specs.Journal.{lines_of_all}
use Rattle.client_model.specs.Runtime.{Runtime, Did}
use Rattle.client_model.specs.Taking.{Taking}
use Rattle.runtime_state.specs.Answers.{IsTaken, UnlessNoMemory}
use Rattle.runtime_state.specs.Standing.{IsSound, Keeps}
use Rattle.runtime_state.specs.declared.fault.RuntimeFault.{RuntimeFault}
use Rattle.runtime_state.specs.declared.runtime.HotRuntime.{HotRuntime}

-- it keeps what the definitions' client became, and tells the lines of what happened to that
pub record Becomes {F : Type 0} (did : Did) (after : HotRuntime F) (tells : List OutLine) : Type 0 where
  pub sound : IsSound after
  pub keeps : Keeps did.0 after
  pub lines : tells ≡ lines_of_all did.0.client did.1

-- it keeps what a client is, and all of it is sound
pub record Stands {F : Type 0} (r : Runtime) (h : HotRuntime F) : Type 0 where
  pub sound : IsSound h
  pub keeps : Keeps r h

-- unless memory ran out, it is what the definitions' client is after the message, and answers as that does
pub record IsTaking {F : Type 0} (taking : Taking) (after : HotRuntime F)
    (result : Result (Vec OutLine) RuntimeFault) : Type 0 where
  pub stands : UnlessNoMemory (Stands taking.after after) result
  pub answer : IsTaken taking.answer result
