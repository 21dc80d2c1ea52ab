-- The results of jobs.
use Rattle.std.specs.Prelude.{ℕ}
use Rattle.module_semantics.specs.Analysis.{transformed}
use Rattle.module_semantics.specs.ModuleText.{parsing}
use Rattle.transforms.specs.Transform.{Transform}
use Rattle.transform_pool.specs.Tasks.{Task}

-- the result of a job
abbrev pub result_of : Task → Transform
result_of job = record { name = job.name; text = job.text; outcome = transformed parsing job.name job.text }

-- what is posted of a job
abbrev pub post_of : Task → Transform × ℕ
post_of job = (result_of job, job.ver)
