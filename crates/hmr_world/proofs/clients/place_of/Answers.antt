use Rattle.std.proofs.lemmas.Bool.{eq-eqb}
use Rattle.hmr_world.proofs.Placing.{with_there}
use Rattle.hmr_world.proofs.clients.place_of.Goals as goal

pub returns-then-clients-place-clause-with : goal.returns-then-clients-place-clause-with
returns-then-clients-place-clause-with g c = λ h. with_there c.args.number h c.args.clients.now c.loop-place.place c.index-clients-place.result c.loop-place-test.true (c.loop-place.invariant.1 h) (eq-eqb _ _ c.if-clients-place.true)
