use Rattle.std.proofs.Common.{◌≡◌}
use Rattle.transport.specs.declared.link.Phase.TheVariants.{Open}
use Rattle.outside_tests.proofs.ends.send_all.Given as goal

abbrev pub invariant-loop-message : goal.invariant-loop-message
invariant-loop-message g l = g.L.Link.phase l.link ≡ Open
