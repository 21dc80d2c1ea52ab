use Rattle.std.proofs.Common.{◌≡◌, false}
use Rattle.std.specs.List.{All}
use Rattle.handler_table.specs.Held.{IsHost}
use Rattle.crew_plans.specs.Hubs.{all_given}
use Rattle.serve_crew.specs.Begins.{Begins, BegunAll}
use Rattle.serve_crew.proofs.pairs.begin_pairs.Given as goal

-- so many pairs were begun
abbrev pub invariant-loop-place : goal.invariant-loop-place
invariant-loop-place g l =
    record {
      begins : Begins g.N.Net g.P.Spawner l.fn.crew l.crew l.fn.pass l.pass l.fn.net l.net l.fn.spawner l.spawner;
      all : BegunAll g.N.Net g.P.Spawner 0 l.place l.place l.fn.crew l.crew l.fn.net l.net l.fn.spawner l.spawner;
      given : all_given l.fn.pass ≡ false → all_given l.pass ≡ false;
      hosts : All (All (IsHost (goal.F-post g))) l.shelves;
    }
