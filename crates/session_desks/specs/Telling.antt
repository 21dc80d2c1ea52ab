-- One event that is told to a hub.
use Rattle.std.specs.Prelude.{◌≡◌, Bool, true, false, Result, Ok, Err}
use Rattle.core_model.specs.Core.{Event}
use Rattle.update_msgs.specs.declared.desk.HubStop.{HubStop}
use Rattle.update_msgs.specs.declared.desk.HubStop.TheVariants.{TranscriptFull, NoMemory}
use Rattle.events_and_replies.specs.declared.event.Reply.{Reply}
use Rattle.transform_pool.specs.Boards.{full_after}
use Rattle.hmr_hub.specs.declared.pass.Pass.{Pass}
use Rattle.hmr_hub.specs.Calls.{Called, SameKnower}

-- the pass called its hub once, and it is noted whether the transcript had no place
pub record Told (event : Event) (reply : Result Reply HubStop) (p q : Pass)
    (full full' : Bool) : Type 0 where
  pub called : Called event reply p q
  pub same : SameKnower p q
  pub full_is : full' ≡ full_after full reply

-- there was no memory
abbrev pub lacks_memory : Result Reply HubStop → Bool
lacks_memory (Ok reply) = false
lacks_memory (Err TranscriptFull) = false
lacks_memory (Err NoMemory) = true
