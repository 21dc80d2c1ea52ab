-- Which job a started one is.
use Rattle.std.specs.Prelude.{◌≡◌}
use Rattle.jobs.specs.declared.threads.Thread.{Thread}
use Rattle.jobs.specs.declared.running.Running.{Running}

-- what a thread has promised
abbrev pub promise_of : {T Q : Type 0} → Thread T Q → Q
promise_of thread = thread.handle.promise

-- what was started is this job: its thread has promised to end it
abbrev pub Runs : {J O : Type 0} → Running J O → J → Type 0
Runs running job = (promise_of running.thread).0.value ≡ job
