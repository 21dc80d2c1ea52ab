-- Which client a started one is.
use Rattle.std.specs.Prelude.{◌≡◌}
use Rattle.transport.specs.declared.link.Link as Link
use Rattle.jobs.specs.Runs.{promise_of}
use Rattle.client_jobs.specs.declared.client.ClientJob.{ClientJob}
use Rattle.client_jobs.specs.declared.client_threads.RunningClient.{RunningClient}

-- what was started is this client: its thread has promised to end it
abbrev pub RunsClient : {F L : Type 0} {g : Link.Ghosts L} → RunningClient F L g → ClientJob F L g → Type 0
RunsClient running job = (promise_of running.thread).0.value ≡ job
