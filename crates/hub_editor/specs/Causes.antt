-- Why an editor stops, as its pass has seen it.
use Rattle.std.specs.Prelude.{◌≡◌, ⊤, Ok, Err}
use Prim.{⊥}
use Rattle.hmr_types.specs.declared.words.EditRefusal.{EditRefusal}
use Rattle.hmr_types.specs.declared.words.EditRefusal.TheVariants.{TextTooLong, TooManyNames, SourceTotal}
use Rattle.hmr_types.specs.declared.words.EditRefusal.TheVariants.{NumbersSpent}
use Rattle.events_and_replies.specs.declared.event.Reply.TheVariants.{EditRefused}
use Rattle.hmr_hub.specs.declared.pass.Pass.{Pass}
use Rattle.hmr_hub.specs.Passes.{roots_of, seen_of}
use Rattle.hmr_hub.specs.Answered.{Answered}
use Rattle.hmr_hub.specs.Fullness.{IsNearlyFull}
use Rattle.hub_editor.specs.Edits.{Answer, Edit, edit_event}
use Rattle.hub_editor.specs.declared.stop.EditStop.{EditStop}
use Rattle.hub_editor.specs.declared.stop.EditStop.TheVariants.{Text, Names, Sources, Full, NoMemory}

-- an edit of the editor was answered by this refusal
pub record HasRefused (p : Pass) (refusal : EditRefusal) : Type 0 where
  pub edit : Edit
  pub answered : Answered (roots_of p) (seen_of p) 0 (edit_event edit) (EditRefused refusal)

-- what stands in the transcript where the editor stopped so
abbrev pub IsCause : Pass → EditStop → Type 0
IsCause p Text = HasRefused p TextTooLong
IsCause p Names = HasRefused p TooManyNames
IsCause p Sources = HasRefused p SourceTotal
IsCause p Full = IsNearlyFull (seen_of p)
IsCause p NoMemory = ⊤

-- a stop for want of a place or of memory, and by no refusal
abbrev pub IsRoomStop : EditStop → Type 0
IsRoomStop Text = ⊥
IsRoomStop Names = ⊥
IsRoomStop Sources = ⊥
IsRoomStop Full = ⊤
IsRoomStop NoMemory = ⊤

-- the stop of this refusal
abbrev pub IsStopFor : EditRefusal → EditStop → Type 0
IsStopFor TextTooLong stop = stop ≡ Text
IsStopFor TooManyNames stop = stop ≡ Names
IsStopFor SourceTotal stop = stop ≡ Sources
IsStopFor NumbersSpent stop = ⊥

-- the stop at an edit that was answered so
abbrev pub IsStopBy : Answer → EditStop → Type 0
IsStopBy (Ok outcome) stop = IsRoomStop stop
IsStopBy (Err refusal) stop = IsStopFor refusal stop
