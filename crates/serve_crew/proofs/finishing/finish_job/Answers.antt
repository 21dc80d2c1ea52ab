use Rattle.std.proofs.Common.{ap, arith}
use Rattle.serve_crew.specs.Crews.{ends_of}
use Rattle.serve_crew.proofs.Crews.{done_of, finished_out, finished_rose, gathered_taken, out_cause, pass_of_hub}
use Rattle.crew_plans.proofs.Faults.{gathers_taken}
use Rattle.serve_crew.proofs.Lendings.{back_of}
use Rattle.serve_crew.proofs.finishing.finish_job.Goals as goal

pub take_in-requires-clause-done : goal.take_in-requires-clause-done
take_in-requires-clause-done g c =
    let r = c.requires.runs in
    let out = c.finish-out.result in
    done_of g.N.End.Link r.job out (finished_out g.N.End.Link _ _ r.job out (c.finish-out.ensures.out r.job r.runs))

pub returns-clause-gathered : goal.returns-clause-gathered
returns-clause-gathered g c =
    let r = c.requires.runs in
    let out = c.finish-out.result in
    let its = finished_out g.N.End.Link _ _ r.job out (c.finish-out.ensures.out r.job r.runs) in
    gathered_taken c.args.hub.now out _ _ _ c.args.gathered.now c.take_in.new.gathered c.take_in.ensures.taken (pass_of_hub g.N.End.Link c.args.hub.now r.job out r.of its)

pub returns-clause-gathers : goal.returns-clause-gathers
returns-clause-gathers g c =
    let r = c.requires.runs in
    let out = c.finish-out.result in
    gathers_taken _ _ _ _ _ _ _ _ _ _ _ c.take_in.ensures.taken c.take_in.ensures.later c.finish-out.ensures.later
    (out_cause out _ _ _ _ c.take_in.ensures.rose (finished_rose g.N.End.Link _ _ r.job out (c.finish-out.ensures.out r.job r.runs)))

pub returns-clause-ends : goal.returns-clause-ends
returns-clause-ends g c =
    let r = c.requires.runs in
    let out = c.finish-out.result in
    let its = finished_out g.N.End.Link _ _ r.job out (c.finish-out.ensures.out r.job r.runs) in
    λ others h. omega (arith, h, c.take_in.ensures.lent, back_of g.N.End.Link r.job out its, ap ends_of r.runs)
