-- The first edits of a server.
use Rattle.std.specs.Prelude.{◌≡◌, List, [], Option}
use Rattle.core_model.specs.Transcript.{Recorded}
use Rattle.hmr_hub.specs.declared.pass.Pass.{Pass}
use Rattle.hub_editor.specs.Edits.{Edit}
use Rattle.hub_editor.specs.Openings.{AreAccepted, BeginsOpening, StopsOpening, opening}
use Rattle.hub_editor.specs.declared.stop.EditStop.{EditStop}
use Rattle.folder_edits.specs.Rounds.{Files, IsRound}

-- A scan gave this listing. The transcript is the edits that bring its modules, in order of their names, and
-- then their results; none of these edits was refused.
pub record Opens (coming : Option (List Files)) (listing : Files) (entries : List Recorded) : Type 0 where
  pub first : List Edit
  pub round : IsRound coming [] listing first
  pub accepted : AreAccepted [] first
  pub opening_is : entries ≡ opening first

-- A scan gave a listing. What the pass has seen is a front of the edits that bring its modules, in order of
-- their names, and then of their results. Each edit of these was accepted, but for the last one where the stop
-- is that of its refusal.
pub record BeginsFirst (coming : Option (List Files)) (p : Pass) (stop : EditStop) : Type 0 where
  pub listing : Files
  pub first : List Edit
  pub round : IsRound coming [] listing first
  pub begins : BeginsOpening first p
  pub stops : StopsOpening first p stop
