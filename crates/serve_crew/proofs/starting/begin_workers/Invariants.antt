use Rattle.std.proofs.Common.{◌≡◌, ◌+◌, ℕ, false, length}
use Rattle.crew_plans.specs.Hubs.{all_given}
use Rattle.serve_crew.specs.Begins.{Begins, BegunAll}
use Rattle.serve_crew.proofs.starting.begin_workers.Given as goal

-- workers were begun for the passes that are gone
abbrev pub invariant-loop-jobs : goal.invariant-loop-jobs
invariant-loop-jobs g l =
    record {
      begins : Begins g.N.Net g.P.Spawner l.fn.crew l.crew l.fn.pass l.pass l.fn.net l.net l.fn.spawner l.spawner;
      made : ℕ;
      gone : made + length l.workers.takers.items ≡ length l.fn.workers.takers.items;
      all : BegunAll g.N.Net g.P.Spawner made 0 0 l.fn.crew l.crew l.fn.net l.net l.fn.spawner l.spawner;
      given : all_given l.fn.pass ≡ false → all_given l.pass ≡ false;
    }

abbrev pub decreases-loop-jobs : goal.decreases-loop-jobs
decreases-loop-jobs g l = length l.workers.takers.items
