use Rattle.std.proofs.Common.{◌≡◌}
use Rattle.hmr_hub.specs.Passes.{IsPassOf, number_of}
use Rattle.hub_tests.proofs.filling.fill.Given as goal

abbrev pub invariant-loop : goal.invariant-loop
invariant-loop g l = record {
  pass : IsPassOf l.hub l.pass;
  first : number_of l.pass ≡ 0;
}
