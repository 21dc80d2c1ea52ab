use Rattle.std.proofs.Common.{◌≡◌}
use Rattle.live_setup.proofs.ports.listen_behind.Given as goal

-- it isn't shut by a port that is taken
abbrev pub invariant-loop-step : goal.invariant-loop-step
invariant-loop-step g l = g.E.Entrance.is_shut l.entrance ≡ g.E.Entrance.is_shut l.initial.entrance
