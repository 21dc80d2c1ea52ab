-- How far a generated run is summed up.
use Rattle.std.specs.Prelude.{◌≡◌, ℕ, true, false, Result, IfErr, IfOk, OnOk, IsErrOf}
use Rattle.std.specs.Global.{Vec}
use Rattle.world_model.specs.Playing.{Stage}
use Rattle.event_runs.specs.Playing.{Played}
use Rattle.made_scripts.specs.Summary.{summary}
use Rattle.text_commands.specs.declared.stop.Stop.{Stop}
use Rattle.text_commands.specs.declared.stop.Stop.TheVariants.{InstancesFull}
use Rattle.script_runs.specs.Instances.{first_made}
use Rattle.text_commands.specs.Writing.{IsKeepStop}

-- The run came to its end, and this is its summary; or a client would have made too many instances, or
-- memory ran out.
pub record SumsUp (stage : Stage) (count : ℕ) (run : Played) (result : Result (Vec ℕ) Stop) : Type 0 where
  pub ends : OnOk result (run.over ≡ false)
  pub text : IfOk result (λ text. text.items ≡ summary count (first_made stage run) run.lines)
  pub full : IsErrOf result InstancesFull → run.over ≡ true
  pub stops : IfErr result IsKeepStop
