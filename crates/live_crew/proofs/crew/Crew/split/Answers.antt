use Rattle.live_crew.proofs.Crews.{crew_room}
use Rattle.live_crew.proofs.Held.{unused_half}
use Rattle.live_crew.proofs.crew.Crew.split.Goals as goal

pub returns-in_err-reserve_place-clause-crew : goal.returns-in_err-reserve_place-clause-crew
returns-in_err-reserve_place-clause-crew g c =
    let e = c.reserve_place.ensures in
    crew_room g.E.Door.Door _ _ _ c.args.self.now.passes _ c.requires.crew e.running e.left (e.room c.requires.crew.room)

pub returns-in_err-hub-clause-crew : goal.returns-in_err-hub-clause-crew
returns-in_err-hub-clause-crew g c =
    let e = c.reserve_place.ensures in
    crew_room g.E.Door.Door _ _ _ c.args.self.now.passes _ c.requires.crew e.running e.left (e.room c.requires.crew.room)

pub returns-in_err-half-clause-crew : goal.returns-in_err-half-clause-crew
returns-in_err-half-clause-crew g c =
    let e = c.reserve_place.ensures in
    crew_room g.E.Door.Door _ _ _ c.args.self.now.passes _ c.requires.crew e.running e.left (e.room c.requires.crew.room)

pub returns-clause-crew : goal.returns-clause-crew
returns-clause-crew g c =
    let e = c.reserve_place.ensures in
    crew_room g.E.Door.Door _ _ _ c.args.self.now.passes _ c.requires.crew e.running e.left (e.room c.requires.crew.room)

pub returns-clause-unused : goal.returns-clause-unused
returns-clause-unused g c = unused_half _ _ c.in_ok-half.ensures.half
