-- Passes of a hub, and what each has seen.
use Rattle.std.specs.Prelude.{◌≡◌, ℕ, Bool, List}
use Rattle.atomic_table.specs.Seated.{TableId}
use Rattle.core_model.specs.Names.{Name}
use Rattle.core_model.specs.Transcript.{Recorded}
use Rattle.turn_lock.specs.Passes as lock
use Rattle.hmr_hub.specs.declared.pass.Hub.{Hub}
use Rattle.hmr_hub.specs.declared.pass.Pass.{Pass}
use Rattle.hmr_hub.specs.Questions.{transcript_of}
use Rattle.hmr_hub.specs.Recordings.{roots_in}
use Rattle.transcripts.specs.Transcripts.{IsTranscript}

-- which hub the pass is of
abbrev pub mark_of : Pass → TableId
mark_of p = p.pass.seat.table_id

-- which hub this is
abbrev pub hub_mark : Hub → TableId
hub_mark h = h.lock.table.shared.table_id

-- it is a pass of this hub
abbrev pub IsPassOf : Hub → Pass → Type 0
IsPassOf h p = mark_of p ≡ hub_mark h

abbrev pub number_of : Pass → ℕ
number_of p = lock.pass_number p.pass

-- the transcript that it has seen
abbrev pub seen_of : Pass → List Recorded
seen_of p = transcript_of (lock.pass_view p.pass).seen

-- the numbers whose entries it has all seen: its own, and those of the passes that were joined into it
abbrev pub known_of : Pass → List ℕ
known_of p = (lock.pass_view p.pass).known

-- no other pass was split off it
abbrev pub is_alone : Pass → Bool
is_alone p = (lock.pass_view p.pass).alone

-- it found that all numbers were given
abbrev pub all_given : Pass → Bool
all_given p = (lock.pass_view p.pass).all_given

-- how many numbers it knows to be given: one that is given later is that or above
abbrev pub given_of : Pass → ℕ
given_of p = (lock.pass_view p.pass).given

-- the server's roots
abbrev pub roots_of : Pass → List Name
roots_of p = roots_in (lock.pass_view p.pass).opening

-- what it has seen is a transcript of a hub with its roots: it is legal, and each edit in it is under number
-- 0
abbrev pub HasTranscript : Pass → Type 0
HasTranscript p = IsTranscript (roots_of p) (seen_of p)
