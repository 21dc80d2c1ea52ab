use Rattle.std.proofs.Common.{refl}
use Rattle.serve_crew.proofs.Crews.{crew_room}
use Rattle.serve_crew.proofs.Lendings.{ok_of}
use Rattle.serve_crew.proofs.crew.Crew.split.Goals as goal

pub returns-in_err-reserve_place-clause-crew : goal.returns-in_err-reserve_place-clause-crew
returns-in_err-reserve_place-clause-crew g c =
    let e = c.reserve_place.ensures in
    crew_room g.N.End.Link _ _ _ _ c.args.self.now.gathered _ c.requires.crew e.running e.left refl (e.room c.requires.crew.pass_room) refl

pub returns-clause-crew : goal.returns-clause-crew
returns-clause-crew g c =
    let e = c.reserve_place.ensures in
    crew_room g.N.End.Link _ _ _ _ c.args.self.now.gathered _ c.requires.crew e.running e.left refl (e.room c.requires.crew.pass_room) refl

pub returns-clause-place : goal.returns-clause-place
returns-clause-place g c = ok_of c.split_off.result c.in_ok-reserve_place.ensures.place
