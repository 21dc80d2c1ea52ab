use Rattle.std.proofs.Common.{refl, ap, arith}
use Rattle.std.specs.Arc.{arc_value}
use Rattle.serve_crew.specs.Crews.{ends_held, ends_of}
use Rattle.serve_crew.proofs.Crews.{crew_pushed, crew_taken, pass_of_hub}
use Rattle.serve_crew.proofs.Lendings.{back_of, lends_back_of, lends_on, sum_last}
use Rattle.serve_crew.proofs.crew.Crew.begin.Goals as goal

pub returns-in-Ok-clause-crew : goal.returns-in-Ok-clause-crew
returns-in-Ok-clause-crew g c =
    crew_pushed g.N.End.Link _ c.args.self.now.running _ _ _ c.in-Ok.running c.requires.crew c.requires.place
    (record { job = c.args.job; runs = c.in-Ok.ensures.running; of = c.requires.of }) c.push_reserved.ensures.items c.push_reserved.ensures.len

pub returns-in-Ok-clause-ends : goal.returns-in-Ok-clause-ends
returns-in-Ok-clause-ends g c =
    lends_on _ _ _ _ _ (omega (arith, sum_last ends_held _ _ c.in-Ok.running c.push_reserved.ensures.items, ap ends_of c.in-Ok.ensures.running)) refl

pub returns-in-Err-clause-crew : goal.returns-in-Err-clause-crew
returns-in-Err-clause-crew g c =
    crew_taken g.N.End.Link _ _ _ c.in-Err.out c.args.self.now.gathered _ _ _ c.requires.crew c.requires.place c.take_in.ensures.taken c.take_in.ensures.logs
    (pass_of_hub g.N.End.Link (arc_value c.args.self.now.hub) c.args.job c.in-Err.out c.requires.of c.in-Err.ensures.refused.0)

pub returns-in-Err-clause-ends : goal.returns-in-Err-clause-ends
returns-in-Err-clause-ends g c = lends_back_of _ _ _ _ _ (back_of g.N.End.Link c.args.job c.in-Err.out c.in-Err.ensures.refused.0) c.take_in.ensures.lent
