-- The jobs that were issued and whose results haven't come.
use Rattle.std.specs.Prelude.{◌<◌, ◌≤◌, ℕ, ⊤, List, [], ◌∷◌, ◌++◌, length}
use Rattle.std.specs.List.{AllByRecursion}
use Rattle.hmr_types.specs.declared.limits.TheConstants.{TEXT_BYTES}
use Rattle.core_model.specs.Names.{Name}
use Rattle.core_model.specs.Sources.{EditAnswer, job, same, removed, edit_refused}
use Rattle.world_model.specs.World as model
use Rattle.world_parts.specs.declared.jobs.Job.{Job}

-- a job under its version, as the definitions have it
abbrev pub job_of : ℕ × Job → model.Job
job_of row = record { name = row.1.name; version = row.0; text = row.1.text.items }

-- jobs by rising version, the newest first
abbrev pub issued_of : List (ℕ × Job) → List model.Job
issued_of [] = []
issued_of (row ∷ rows) = issued_of rows ++ job_of row ∷ []

-- the name and the version of a job
abbrev pub key_of : model.Job → Name × ℕ
key_of j = (j.name, j.version)

-- the version is one of the first so many, and the text is no longer than a source may be
pub record IsIssued (counted : ℕ) (j : model.Job) : Type 0 where
  pub given : j.version ≤ counted
  pub short : length j.text ≤ TEXT_BYTES

-- each job is so
abbrev pub AreIssued : ℕ → List model.Job → Type 0
AreIssued counted [] = ⊤
AreIssued counted (j ∷ jobs) = IsIssued counted j × AreIssued counted jobs

-- where the answer gives a version, all jobs are of lower ones
abbrev pub AreBelow : EditAnswer → List model.Job → Type 0
AreBelow (job v) jobs = AllByRecursion (λ j. j.version < v) jobs
AreBelow same jobs = ⊤
AreBelow (removed v) jobs = ⊤
AreBelow (edit_refused word) jobs = ⊤
