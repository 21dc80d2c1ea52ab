-- How far a part of a play is carried out.
use Rattle.std.specs.Prelude.{◌≡◌}
use Rattle.std.specs.Prelude.{true, false, Result, OnOk, IsErrOf}
use Rattle.event_runs.specs.Playing.{Played}
use Rattle.text_commands.specs.declared.stop.Stop.{Stop}
use Rattle.text_commands.specs.declared.stop.Stop.TheVariants.{InstancesFull}
use Rattle.text_commands.specs.Writing.{Taken, Takes, TakesFront}

-- A part of a play was carried out. A front of its lines is written, and all of them are taken unless the
-- output failed or memory ran out. Where it answers no stop, the run isn't over; the stop for too many
-- instances comes only where the part ends the run.
pub record Performs (old new : Taken) (part : Played) (result : Result (Unit {0}) Stop) : Type 0 where
  pub front : TakesFront old new part.lines
  pub done : OnOk result (Takes old new part.lines)
  pub goes_on : OnOk result (part.over ≡ false)
  pub ended : IsErrOf result InstancesFull → part.over ≡ true
  pub all : IsErrOf result InstancesFull → Takes old new part.lines
