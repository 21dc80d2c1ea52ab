use Rattle.std.proofs.Common.{sym, ◌∙◌}
use Rattle.client_queue.proofs.Placing.{row_there}
use Rattle.client_queue.proofs.sorted.row_place.Goals as goal

pub returns-then-eq-clause-there : goal.returns-then-eq-clause-there
returns-then-eq-clause-there c = λ x. row_there c.args.name.now x c.args.rows.now c.loop-place.place c.index-rows-place.result c.loop-place-test.true (c.loop-place.invariant x) (sym c.eq.ensures ∙ c.if-eq.true)
