use Rattle.live_crew.proofs.Doors.{doors_then}
use Rattle.live_crew.proofs.Passes.{divided_then}
use Rattle.live_server.proofs.top.begin.Goals as goal

pub returns-clause-divided : goal.returns-clause-divided
returns-clause-divided g c = divided_then _ _ _ c.begin_workers.ensures.divided c.begin_doors.ensures.divided

pub returns-clause-keeps : goal.returns-clause-keeps
returns-clause-keeps g c =
    doors_then g.E.Door.Door _ _ _ _ _ _ _ _ c.begin_workers.ensures.divided c.begin_workers.ensures.keeps c.begin_doors.ensures.keeps
