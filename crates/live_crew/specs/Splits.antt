-- The pass from which those of the jobs are split off.
use Rattle.std.specs.Prelude.{[]}
use Rattle.hmr_hub.specs.declared.pass.Pass.{Pass}
use Rattle.hmr_hub.specs.Passes.{HasTranscript}
use Rattle.hmr_hub.specs.Moves.{Moved}

-- passes were split off it, and nothing else
pub record Divided (p q : Pass) : Type 0 where
  pub moved : Moved p q []
  pub transcript : HasTranscript p → HasTranscript q
