use Rattle.std.proofs.Common.{refl}
use Rattle.hmr_hub.specs.Passes.{roots_of}
use Rattle.live_crew.proofs.Doors.{doors_same}
use Rattle.live_crew.proofs.crew.Crew.begin_worker.Goals as goal

pub returns-clause-keeps : goal.returns-clause-keeps
returns-clause-keeps g c = λ start.
    let roots = roots_of c.args.pass.now in
    c.begin.ensures.keeps roots tt (doors_same g.E.Door.Door roots _ _ _ _ refl c.split.ensures.running start)
