-- What stands while an editor makes its edits, and when it has made one more.
use Rattle.std.specs.Prelude.{◌≡◌, ◌⊎◌, ⊤, [], ◌∷◌, ◌++◌}
use Rattle.std.specs.Prelude.{true, List, map, flat_map, is_ok, Some, None, All, if◌then◌else◌}
use Rattle.std.specs.List.Sorted.{IsPermutation}
use Rattle.core_model.specs.Names.{Name, same_name}
use Rattle.core_model.specs.Sources.{edit_answer}
use Rattle.core_model.specs.Transcript.{Recorded, reply_after}
use Rattle.events_and_replies.specs.Said.{edit_said, said}
use Rattle.turn_lock.specs.Histories.{calls}
use Rattle.transform_pool.specs.Passes.{HeldLastPut, places}
use Rattle.transform_pool.specs.Tasks.{Task}
use Rattle.transform_pool.specs.declared.item.Role.{Role}
use Rattle.hmr_hub.specs.declared.pass.Pass.{Pass}
use Rattle.hmr_hub.specs.Passes.{is_alone, number_of, roots_of, seen_of}
use Rattle.hmr_hub.specs.Moves.{Moved, own_of}
use Rattle.hmr_hub.specs.Answered.{Answered}
use Rattle.hub_editor.specs.Causes.{IsRoomStop, IsStopBy}
use Rattle.hub_editor.specs.Edits.{Answer, Edit, Made, answered_edit, counted_by, edit_entry, edit_event}
use Rattle.hub_editor.specs.Edits.{edit_of, jobs_at_end, jobs_at_once, jobs_of, jobs_put, last_of, reply_of}
use Rattle.hub_editor.specs.Results.{HasOwnResults, HasResult, last_in, result_entry, sources_in}
use Rattle.hub_editor.specs.declared.editor.Editor.{Editor}
use Rattle.hub_editor.specs.declared.stop.EditStop.{EditStop}
use Rattle.hub_editor.specs.declared.worked.Worked.{Worked}
use Rattle.hub_editor.specs.declared.worked.Worked.TheVariants.{AtOnce, No}

-- the edits that an editor has made, in order
abbrev pub made_by : Editor → List Made
made_by editor = editor.works.items

-- the entries of an edit: itself, and its result where the editor worked it at once
abbrev pub entries_of : Made → List Recorded
entries_of m = edit_entry (edit_of m) ∷ map result_entry (jobs_at_once m)

-- the edit is an entry of the editor, with this answer
abbrev pub IsAnswered : Pass → Made → Type 0
IsAnswered p m = Answered (roots_of p) (seen_of p) 0 (edit_event (edit_of m)) (reply_of m.answer)

-- The edit is the entry that comes behind just these of the editor's own, and it was answered so by the
-- state that the entries before it make.
pub record IsAnsweredAt (p : Pass) (own : List Recorded) (e : Edit) (answer : Answer) : Type 0 where
  pub before : List Recorded
  pub after : List Recorded
  pub whole : seen_of p ≡ before ++ edit_entry e ∷ after
  pub own_are : calls (number_of p ∷ []) before ≡ own
  pub reply_is : said (reply_after (roots_of p) before (edit_event e)) ≡ reply_of answer

-- Each edit was answered at its own place: behind these entries of the editor and those of the edits before
-- it. So edits of the same name and text have each its own answer.
abbrev pub AreAnswered : Pass → List Recorded → List Made → Type 0
AreAnswered p own [] = ⊤
AreAnswered p own (m ∷ made) =
    IsAnsweredAt p own (edit_of m) m.answer × AreAnswered p (own ++ entries_of m) made

-- The pass p has gone on to q. Under the editor's number came the edits, each once and in order, with the
-- results of the jobs that it worked at once, and then the results of the jobs that it worked at the end,
-- each once. Each edit was answered so at its place. What a name has is what the last counted one of these
-- edits gave it, and what it had at p where none did.
pub record Edited (p q : Pass) (made : List Made) : Type 0 where
  pub settled : List Task
  pub moved : Moved p q (flat_map entries_of made ++ map result_entry settled)
  pub each : IsPermutation (flat_map jobs_at_end made) settled
  pub answered : AreAnswered q (own_of p) made
  pub results : All (HasOwnResults (seen_of q)) made
  pub sources : (n : Name) → last_in (seen_of q) n ≡ last_of made (last_in (seen_of p) n) n

-- The pass has gone on by these entries of its own. None of them is an edit, and no edit came: what each
-- name has is as it was. A pass that is alone has seen nothing else.
pub record Went (p q : Pass) (mine : List Recorded) : Type 0 where
  pub moved : Moved p q mine
  pub sources : (n : Name) → last_in (seen_of q) n ≡ last_in (seen_of p) n
  pub alone : is_alone p ≡ true → seen_of q ≡ seen_of p ++ mine

-- an edit was told and answered
pub record Told (e : Edit) (answer : Answer) (p q : Pass) : Type 0 where
  pub moved : Moved p q (edit_entry e ∷ [])
  pub answered : Answered (roots_of q) (seen_of q) 0 (edit_event e) (reply_of answer)
  pub placed : IsAnsweredAt q (own_of p) e answer
  pub sources : (n : Name) → last_in (seen_of q) n
      ≡ (if same_name e.0 n then counted_by answer e.1 (last_in (seen_of p) n) else last_in (seen_of p) n)
  pub alone : is_alone p ≡ true → seen_of q ≡ seen_of p ++ edit_entry e ∷ []
  pub first : is_alone p ≡ true → edit_said (edit_answer (sources_in (seen_of p)) e.0 e.1) ≡ reply_of answer

-- the result of a job was told
pub record Settled (job : Task) (p q : Pass) : Type 0 where
  pub went : Went p q (result_entry job ∷ [])
  pub there : HasResult (seen_of q) job

-- the editor worked the job of an edit
pub record WorkedOut (worked : Worked) (m n : Made) (p q : Pass) : Type 0 where
  pub unworked : m.worked ≡ No
  pub job : Task
  pub jobs : jobs_of m ≡ job ∷ []
  pub settled : Settled job p q
  pub marked : n ≡ record m { worked = worked }

-- it worked the job of an edit, or nothing of the editor happened
abbrev pub Steps : Worked → Made → Made → Pass → Pass → Type 0
Steps worked m n p q = ((n ≡ m) × Went p q []) ⊎ WorkedOut worked m n p q

-- the same edits with the same answers; which of their jobs were worked may differ
abbrev pub SameEdits : List Made → List Made → Type 0
SameEdits old new = map answered_edit new ≡ map answered_edit old

-- no job was worked at the end yet
abbrev pub IsGoing : List Made → Type 0
IsGoing made = flat_map jobs_at_end made ≡ []

-- One edit more was made, and not refused. Its job was put into the queue; or else the editor worked it at
-- once, and then the queue had no place for it.
pub record Added (edit : Edit) (old new : List Made) (v w : Role) : Type 0 where
  pub one : Made
  pub whole : new ≡ old ++ one ∷ []
  pub edit_is : edit_of one ≡ edit
  pub accepted : is_ok one.answer ≡ true
  pub put : w.put ≡ v.put ++ jobs_put one
  pub held : one.worked ≡ AtOnce → HeldLastPut places v.put

-- of these edits a front was made
pub record Fronted (old new : List Made) (edits : List Edit) : Type 0 where
  pub rest : List Edit
  pub whole : map edit_of new ++ rest ≡ map edit_of old ++ edits

-- It stopped at this edit. The edit was not made, for want of a place or of memory; or it was made, and it
-- was refused so, or its job had no place or no memory.
abbrev pub StoppedAt : Edit → List Made → List Made → EditStop → Type 0
StoppedAt e old new stop =
    ((new ≡ old) × IsRoomStop stop)
    ⊎ ((one : Made) × (new ≡ old ++ one ∷ []) × (edit_of one ≡ e) × IsStopBy one.answer stop)

-- for each name the job of its last counted edit has its result in the transcript
abbrev pub HaveLastResults : Pass → List Made → Type 0
HaveLastResults p made = (job : Task) → last_of made None job.name ≡ Some (job.ver, job.text)
    → HasResult (seen_of p) job
