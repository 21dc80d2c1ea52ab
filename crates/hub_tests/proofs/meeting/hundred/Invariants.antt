use Rattle.std.proofs.Common.{◌≡◌, ◌*◌}
use Rattle.hmr_hub.specs.Passes.{IsPassOf}
use Rattle.hub_tests.specs.Counts.{made_by}
use Rattle.hub_tests.proofs.meeting.hundred.Given as goal

abbrev pub invariant-loop-round : goal.invariant-loop-round
invariant-loop-round g l = record {
  pass : IsPassOf l.hub l.pass;
  made : made_by l.pass ≡ 2 * l.round;
}
