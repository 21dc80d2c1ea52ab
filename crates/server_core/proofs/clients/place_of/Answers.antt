use Rattle.std.proofs.Common.{◌≡◌, true}
use Rattle.std.specs.Prelude.{◌==◌}
use Rattle.std.proofs.lemmas.Bool.{eq-eqb}
use Rattle.server_core.proofs.Numbers.{with_there}
use Rattle.server_core.proofs.clients.place_of.Goals as goal

pub returns-then-clients-place-clause-with : goal.returns-then-clients-place-clause-with
returns-then-clients-place-clause-with c = λ k. with_there c.args.number k c.args.clients.now c.loop-place.place c.index-clients-place.result c.loop-place-test.true (c.loop-place.invariant.1 k) (eq-eqb _ _ c.if-clients-place.true)
