-- Results of jobs in a transcript.
use Rattle.std.specs.Prelude.{◌≡◌, ℕ, ⊤, List, ◌∷◌, ◌++◌, Option, All}
use Rattle.module_semantics.specs.Analysis.{transformed}
use Rattle.module_semantics.specs.ModuleText.{parsing}
use Rattle.core_model.specs.LookBack.{last_edit}
use Rattle.core_model.specs.Names.{Name}
use Rattle.core_model.specs.Sources.{Sources, Text, result, sources_after}
use Rattle.core_model.specs.Core.{Event, change, changes_of}
use Rattle.core_model.specs.Transcript.{Recorded}
use Rattle.transcripts.specs.Transcripts.{past_of}
use Rattle.transform_pool.specs.Tasks.{Task}
use Rattle.hub_editor.specs.Edits.{Made, jobs_of}
use Rattle.hub_editor.specs.declared.worked.Worked.{Worked}
use Rattle.hub_editor.specs.declared.worked.Worked.TheVariants.{No, AtOnce, AtEnd}

-- the result of a job: what its text transforms to
abbrev pub result_event : Task → Event
result_event job = change (result job.name job.text (transformed parsing job.name job.text) job.ver)

-- as an entry of the editor
abbrev pub result_entry : Task → Recorded
result_entry job = (0, result_event job)

-- the result of the job is an entry, whoever worked it
pub record HasResult (entries : List Recorded) (job : Task) : Type 0 where
  pub by : ℕ
  pub before : List Recorded
  pub after : List Recorded
  pub whole : entries ≡ before ++ (by, result_event job) ∷ after

-- what the editor worked itself has its result
abbrev pub IsResulted : List Recorded → Worked → List Task → Type 0
IsResulted entries No jobs = ⊤
IsResulted entries AtOnce jobs = All (HasResult entries) jobs
IsResulted entries AtEnd jobs = All (HasResult entries) jobs

abbrev pub HasOwnResults : List Recorded → Made → Type 0
HasOwnResults entries m = IsResulted entries m.worked (jobs_of m)

-- the version and the text of the last counted edit of a name, none where it is a removal or there is none
abbrev pub last_in : List Recorded → Name → Option (ℕ × Text)
last_in entries n = last_edit (changes_of (past_of entries)) n

-- the sources that a transcript makes
abbrev pub sources_in : List Recorded → Sources
sources_in entries = sources_after (changes_of (past_of entries))
