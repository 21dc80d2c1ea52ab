-- What is under the lock, as the code keeps it, and what holds of it always.
use Rattle.server_core.specs.Kept.{StandsFor}
use Rattle.hmr_hub.specs.declared.recorded_core.RecordedCore.TheInside.{Inside}
use Rattle.hmr_hub.specs.Pages.{ArePages}
use Rattle.hmr_hub.specs.Recordings.{Recording}
use Rattle.transcripts.specs.Transcripts.{IsTranscript, past_of}

-- the roots of the core, and the transcript
abbrev pub recording_of : Inside → Recording
recording_of a = record { roots = a.core.roots; entries = a.transcript.entries }

-- the core is the replay of the transcript beside it, and the pages are those that the transcript leaves
pub record IsSound (a : Inside) : Type 0 where
  pub stands : StandsFor (past_of a.transcript.entries) a.core
  pub transcript : IsTranscript a.core.roots a.transcript.entries
  pub pages : ArePages a.core.roots (past_of a.transcript.entries) a.pages.items
