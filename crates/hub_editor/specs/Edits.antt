-- Edits that an editor made of a hub: what was answered, and the jobs that came of them.
use Rattle.std.specs.Prelude.{◌≢◌, ◌≤◌, ⊤, ℕ, ◌+◌, ◌==◌, ◌&&◌, Bool, true, false, List, [], ◌∷◌}
use Rattle.std.specs.Prelude.{length, map, Option, Some, None, Result, Ok, Err, if◌then◌else◌}
use Rattle.std.specs.Option.{option_map}
use Rattle.std.specs.Global.{Vec}
use Prim.{⊥}
use Rattle.hmr_types.specs.declared.limits.TheConstants.{MESSAGE_BYTES}
use Rattle.hmr_types.specs.declared.words.EditRefusal.{EditRefusal}
use Rattle.hmr_types.specs.declared.words.EditRefusal.TheVariants.{NumbersSpent}
use Rattle.core_model.specs.Formed.{IsVersion}
use Rattle.core_model.specs.Names.{Name, same_name}
use Rattle.core_model.specs.Sources.{Text, edit, text_or_none}
use Rattle.core_model.specs.Core.{Event, change}
use Rattle.core_model.specs.Transcript.{Recorded}
use Rattle.version_map.specs.declared.outcome.EditOutcome.{EditOutcome}
use Rattle.version_map.specs.declared.outcome.EditOutcome.TheVariants.{Job, Same, Removed}
use Rattle.events_and_replies.specs.declared.event.Reply.{Reply}
use Rattle.events_and_replies.specs.declared.event.Reply.TheVariants as replies
use Rattle.transform_pool.specs.Tasks.{Task}
use Rattle.hub_editor.specs.declared.worked.Worked.{Worked}
use Rattle.hub_editor.specs.declared.worked.Worked.TheVariants.{No, AtOnce, AtEnd}

-- a name and its new text, or none where the name is removed
abbrev pub Edit : Type 0
Edit = Name × Option Text

-- what the hub answers to an edit
abbrev pub Answer : Type 0
Answer = Result EditOutcome EditRefusal

-- an edit that was made: what was answered, and when the editor itself worked the job that came of it
pub record Made : Type 0 where
  pub name : Name
  pub text : Option Text
  pub answer : Answer
  pub worked : Worked

-- the bytes of a text
abbrev pub text_in : Option (Vec ℕ) → Option Text
text_in text = option_map (λ v. v.items) text

-- the edits in a list as it is handed over
abbrev pub edits_in : List (Name × Option (Vec ℕ)) → List Edit
edits_in edits = map (λ e. (e.0, text_in e.1)) edits

abbrev pub edit_of : Made → Edit
edit_of m = (m.name, m.text)

-- an edit, and what was answered
abbrev pub answered_edit : Made → Edit × Answer
answered_edit m = (edit_of m, m.answer)

-- the bytes of the name and the text of an edit
abbrev pub length_of : Edit → ℕ
length_of e = length e.0 + length (text_or_none e.1)

abbrev pub edit_event : Edit → Event
edit_event e = change (edit e.0 e.1)

-- an edit as an entry of the editor, whose number is 0
abbrev pub edit_entry : Edit → Recorded
edit_entry e = (0, edit_event e)

-- the answer, as the hub replies it
abbrev pub reply_of : Answer → Reply
reply_of (Ok outcome) = replies.Edited outcome
reply_of (Err refusal) = replies.EditRefused refusal

-- the version of a job is one that an edit can have; numbers are never spent
abbrev pub IsGiven : Answer → Type 0
IsGiven (Ok (Job v)) = IsVersion v
IsGiven (Ok Same) = ⊤
IsGiven (Ok (Removed v)) = ⊤
IsGiven (Err refusal) = refusal ≢ NumbersSpent

-- a reply that an edit can have
abbrev pub IsEditReply : Reply → Type 0
IsEditReply (replies.Edited outcome) = IsGiven (Ok outcome)
IsEditReply (replies.EditRefused refusal) = IsGiven (Err refusal)
IsEditReply (replies.Settled settled) = ⊥
IsEditReply (replies.To message) = ⊥
IsEditReply (replies.Refused refusal) = ⊥
IsEditReply replies.Gone = ⊥

-- the job that comes of an edit, where one does
abbrev pub jobs_from : Edit → Answer → List Task
jobs_from (n, None) answer = []
jobs_from (n, Some t) (Ok (Job v)) = record { name = n; text = t; ver = v } ∷ []
jobs_from (n, Some t) (Ok Same) = []
jobs_from (n, Some t) (Ok (Removed v)) = []
jobs_from (n, Some t) (Err refusal) = []

-- it brings a job
abbrev pub is_job : Answer → Bool
is_job (Ok (Job v)) = true
is_job (Ok Same) = false
is_job (Ok (Removed v)) = false
is_job (Err refusal) = false

-- its job has this version
abbrev pub has_version : ℕ → Answer → Bool
has_version ver (Ok (Job v)) = v == ver
has_version ver (Ok Same) = false
has_version ver (Ok (Removed v)) = false
has_version ver (Err refusal) = false

-- what is kept of an edit for its job: it has a message's size at most
pub record IsKept (e : Edit) (answer : Answer) : Type 0 where
  pub short : length_of e ≤ MESSAGE_BYTES
  pub given : IsGiven answer

abbrev pub jobs_of : Made → List Task
jobs_of m = jobs_from (edit_of m) m.answer

-- a job that can be worked and its result told
pub record IsWorkable (work : Task) : Type 0 where
  pub version : IsVersion work.ver
  pub short : length work.name + length work.text ≤ MESSAGE_BYTES

-- the editor didn't work it
abbrev pub is_unworked : Worked → Bool
is_unworked No = true
is_unworked AtOnce = false
is_unworked AtEnd = false

-- it has a job that the editor didn't work
abbrev pub is_waiting : Made → Bool
is_waiting m = is_job m.answer && is_unworked m.worked

-- the jobs, where the editor worked them as soon as the edit was answered
abbrev pub if_at_once : Worked → List Task → List Task
if_at_once No jobs = []
if_at_once AtOnce jobs = jobs
if_at_once AtEnd jobs = []

-- where it worked them after all edits
abbrev pub if_at_end : Worked → List Task → List Task
if_at_end No jobs = []
if_at_end AtOnce jobs = []
if_at_end AtEnd jobs = jobs

-- where it had put them into the queue
abbrev pub if_put : Worked → List Task → List Task
if_put No jobs = jobs
if_put AtOnce jobs = []
if_put AtEnd jobs = jobs

abbrev pub jobs_at_once : Made → List Task
jobs_at_once m = if_at_once m.worked (jobs_of m)

abbrev pub jobs_at_end : Made → List Task
jobs_at_end m = if_at_end m.worked (jobs_of m)

abbrev pub jobs_put : Made → List Task
jobs_put m = if_put m.worked (jobs_of m)

-- the version and the text of a counted edit, none where it is a removal; an edit that isn't counted leaves
-- what was before it
abbrev pub counted_by : Answer → Option Text → Option (ℕ × Text) → Option (ℕ × Text)
counted_by (Ok (Job v)) t before = Some (v, text_or_none t)
counted_by (Ok Same) t before = before
counted_by (Ok (Removed v)) t before = None
counted_by (Err refusal) t before = before

-- the version and the text that a name has after these edits, where it had those before
abbrev pub last_of : List Made → Option (ℕ × Text) → Name → Option (ℕ × Text)
last_of [] before n = before
last_of (m ∷ made) before n =
    last_of made (if same_name m.name n then counted_by m.answer m.text before else before) n
