use Rattle.std.proofs.Common.{◌≡◌}
use Rattle.live_setup.proofs.ports.listen_again.Given as goal

-- it isn't shut by a port that is taken
abbrev pub invariant-loop : goal.invariant-loop
invariant-loop g l = g.E.Entrance.is_shut l.entrance ≡ g.E.Entrance.is_shut l.initial.entrance
