-- What is shown to a spawner that is to count.
use Rattle.std.specs.Prelude.{ℕ}
use Rattle.jobs.specs.declared.spawner.Started.{Started}

-- the kind of the job that a thread was started for
abbrev pub started_kind : Started → ℕ
started_kind started = started.kind
