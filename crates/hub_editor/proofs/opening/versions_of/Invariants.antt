use Rattle.std.proofs.Common.{◌≡◌, map, take}
use Rattle.hub_editor.proofs.opening.versions_of.Given as goal

abbrev pub invariant-loop-job : goal.invariant-loop-job
invariant-loop-job l = l.versions.items ≡ map (λ job. job.ver) (take l.job-index l.jobs)
