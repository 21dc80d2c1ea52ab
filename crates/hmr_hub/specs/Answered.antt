-- An entry of a transcript, with what was answered to it.
use Rattle.std.specs.Prelude.{◌≡◌, ℕ, List, ◌∷◌, ◌++◌}
use Rattle.core_model.specs.Names.{Name}
use Rattle.core_model.specs.Core.{Event}
use Rattle.core_model.specs.Transcript.{Recorded, reply_after}
use Rattle.events_and_replies.specs.declared.event.Reply.{Reply}
use Rattle.events_and_replies.specs.Said.{said}

-- the event is an entry under this number, and the reply is the core's after the entries before it
pub record Answered (roots : List Name) (entries : List Recorded) (by : ℕ) (event : Event)
    (reply : Reply) : Type 0 where
  pub before : List Recorded
  pub after : List Recorded
  pub whole : entries ≡ before ++ (by, event) ∷ after
  pub reply_is : said (reply_after roots before event) ≡ reply
