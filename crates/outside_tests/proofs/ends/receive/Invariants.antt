use Rattle.std.proofs.Common.{◌≡◌}
use Rattle.transport.specs.declared.link.Phase.TheVariants.{Open}
use Rattle.outside_tests.proofs.ends.receive.Given as goal

abbrev pub invariant-loop : goal.invariant-loop
invariant-loop g l = g.L.Link.phase l.link ≡ Open
