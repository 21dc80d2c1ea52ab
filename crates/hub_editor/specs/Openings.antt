-- The first edits of a hub, and their results.
use Rattle.std.specs.Prelude.{◌≡◌, ◌⊎◌, ⊤, ℕ, Bool, true, false, List, [], ◌∷◌, ◌++◌, map, Some, None}
use Prim.{⊥}
use Rattle.core_model.specs.Sources.{Change, edit, edit_answer, sources_after}
use Rattle.core_model.specs.Sources as answers
use Rattle.core_model.specs.Transcript.{Recorded}
use Rattle.transforms.specs.Transform.{Transform}
use Rattle.hmr_hub.specs.declared.pass.Pass.{Pass}
use Rattle.hmr_hub.specs.Passes.{seen_of}
use Rattle.transform_pool.specs.Tasks.{Task}
use Rattle.hub_editor.specs.Causes.{IsRoomStop, IsStopFor}
use Rattle.hub_editor.specs.Edits.{Edit, edit_entry}
use Rattle.hub_editor.specs.Results.{result_entry, sources_in}
use Rattle.hub_editor.specs.declared.stop.EditStop.{EditStop}

-- the job that comes of an edit, by its answer
abbrev pub jobs_as : Edit → answers.EditAnswer → List Task
jobs_as (n, None) answer = []
jobs_as (n, Some t) (answers.job v) = record { name = n; text = t; ver = v } ∷ []
jobs_as (n, Some t) answers.same = []
jobs_as (n, Some t) (answers.removed v) = []
jobs_as (n, Some t) (answers.edit_refused refusal) = []

-- the jobs that come of edits one after another, after these changes, the newest first
abbrev pub jobs_after : List Change → List Edit → List Task
jobs_after past [] = []
jobs_after past (e ∷ edits) =
    jobs_as e (edit_answer (sources_after past) e.0 e.1) ++ jobs_after (edit e.0 e.1 ∷ past) edits

-- the edits, and then the results of the jobs that came of them
abbrev pub opening : List Edit → List Recorded
opening edits = map edit_entry edits ++ map result_entry (jobs_after [] edits)

abbrev pub is_accepted : answers.EditAnswer → Bool
is_accepted (answers.job v) = true
is_accepted answers.same = true
is_accepted (answers.removed v) = true
is_accepted (answers.edit_refused refusal) = false

-- none of the edits is refused, one after another, after these changes, the newest first
abbrev pub AreAccepted : List Change → List Edit → Type 0
AreAccepted past [] = ⊤
AreAccepted past (e ∷ edits) =
    (is_accepted (edit_answer (sources_after past) e.0 e.1) ≡ true) × AreAccepted (edit e.0 e.1 ∷ past) edits

-- so far: the edits were told and accepted, and these jobs came of them
pub record Opening (edits : List Edit) (p : Pass) (jobs : List Task) : Type 0 where
  pub seen : seen_of p ≡ map edit_entry edits
  pub accepted : AreAccepted [] edits
  pub jobs_are : jobs ≡ jobs_after [] edits

-- what the pass has seen is a front of the edits and then their results
pub record BeginsOpening (edits : List Edit) (p : Pass) : Type 0 where
  pub rest : List Recorded
  pub front : seen_of p ++ rest ≡ opening edits

-- the stop is that of the refusal in this answer
abbrev pub IsRefusalStop : answers.EditAnswer → EditStop → Type 0
IsRefusalStop (answers.job v) stop = ⊥
IsRefusalStop answers.same stop = ⊥
IsRefusalStop (answers.removed v) stop = ⊥
IsRefusalStop (answers.edit_refused refusal) stop = IsStopFor refusal stop

-- It stopped at this edit. A pass that is alone has seen nothing more, and a place or memory was wanting; or
-- it has seen the edit, which was refused so.
abbrev pub StopsFirst : Edit → Pass → Pass → EditStop → Type 0
StopsFirst e p q stop =
    ((seen_of q ≡ seen_of p) × IsRoomStop stop)
    ⊎ ((seen_of q ≡ seen_of p ++ edit_entry e ∷ [])
    × IsRefusalStop (edit_answer (sources_in (seen_of p)) e.0 e.1) stop)

-- How it ended when these edits were told and accepted, and those were left. A place or memory was wanting,
-- and no further edit was seen; or one more was seen, which was refused so.
abbrev pub IsOpeningEnd : List Edit → List Edit → List Recorded → EditStop → Type 0
IsOpeningEnd accepted left seen stop =
    (IsRoomStop stop × ((left ≡ []) ⊎ (seen ≡ map edit_entry accepted)))
    ⊎ ((e : Edit) × (seen ≡ map edit_entry (accepted ++ e ∷ []))
    × IsRefusalStop (edit_answer (sources_in (map edit_entry accepted)) e.0 e.1) stop)

-- Where it stopped so: each edit that was seen was accepted, but for the last one where the stop is that of
-- its refusal.
pub record StopsOpening (edits : List Edit) (p : Pass) (stop : EditStop) : Type 0 where
  pub accepted : List Edit
  pub left : List Edit
  pub whole : accepted ++ left ≡ edits
  pub none_refused : AreAccepted [] accepted
  pub end : IsOpeningEnd accepted left (seen_of p) stop

-- the job of a result, at its version
abbrev pub job_at : Transform → ℕ → Task
job_at d v = record { name = d.name; text = d.text; ver = v }

-- results with their versions, as entries of the editor
abbrev pub told_entries : List Transform → List ℕ → List Recorded
told_entries [] versions = []
told_entries (d ∷ done) [] = []
told_entries (d ∷ done) (v ∷ versions) = result_entry (job_at d v) ∷ told_entries done versions

-- of these results with their versions a front was told
pub record BeginsResults (done : List Transform) (versions : List ℕ) (p q : Pass) : Type 0 where
  pub rest : List Recorded
  pub front : seen_of q ++ rest ≡ seen_of p ++ told_entries done versions
