use Rattle.std.proofs.Common.{◌≡◌, false}
use Rattle.crew_plans.specs.Hubs.{all_given}
use Rattle.serve_crew.specs.Begins.{Begins, BegunAll}
use Rattle.serve_crew.proofs.starting.begin_sessions.Given as goal

-- so many sessions were begun
abbrev pub invariant-loop : goal.invariant-loop
invariant-loop g l =
    record {
      begins : Begins g.N.Net g.P.Spawner l.fn.crew l.crew l.fn.pass l.pass l.fn.net l.net l.fn.spawner l.spawner;
      all : BegunAll g.N.Net g.P.Spawner 0 l.counter 0 l.fn.crew l.crew l.fn.net l.net l.fn.spawner l.spawner;
      given : all_given l.fn.pass ≡ false → all_given l.pass ≡ false;
    }
