use Rattle.std.proofs.Common.{sym, take, ◌+◌}
use Rattle.std.proofs.Math.Path.{subst}
use Rattle.module_graph.specs.Paths.{Adds}
use Rattle.module_graph.proofs.Searches.{adds_none, adds_more}
use Rattle.module_graph.proofs.known.Known.add_all.Goals as goal

pub loop-name-init : goal.loop-name-init
loop-name-init c = adds_none _

pub loop-name-preserved : goal.loop-name-preserved
loop-name-preserved c = subst (Adds c.args.self.now (take (c.loop-name.name-index + 1) c.args.names.now)) (sym c.in_ok-add.ensures.ok)
    (adds_more c.args.self.now c.args.names.now c.loop-name.self c.loop-name.name-index c.name-item.result c.loop-name-test.true c.name-item.is c.loop-name.invariant)
