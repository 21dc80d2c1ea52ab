use Rattle.std.proofs.Common.{refl, subst}
use Rattle.hmr_hub.specs.Passes.{hub_mark}
use Rattle.live_crew.specs.Doors.{job_of}
use Rattle.live_crew.specs.Held.{TakenBack}
use Rattle.live_crew.proofs.Doors.{out_is_held, out_kind}
use Rattle.live_crew.proofs.Outs.{finished_out, out_is_good}
use Rattle.live_crew.proofs.finishing.finish_job.Goals as goal

pub take_in-requires-clause-good : goal.take_in-requires-clause-good
take_in-requires-clause-good g c =
    let r = c.requires.runs in
    let out = c.finish-out.result in
    out_is_good g.E.Door.Door (hub_mark c.args.hub.now) r.job out (finished_out g.E.Door.Door _ _ r.job out (c.finish-out.ensures.out r.job r.runs)) r.of

pub returns-clause-back : goal.returns-clause-back
returns-clause-back g c = λ roots fresh.
    let job = job_of c.args.running in
    let out = c.finish-out.result in
    let ends = finished_out g.E.Door.Door _ _ job out (c.finish-out.ensures.out job refl) in
    subst (λ kind. TakenBack roots kind c.args.passes.now.items c.take_in.new.passes.items) (out_kind g.E.Door.Door job out ends)
    (c.take_in.ensures.back roots (out_is_held g.E.Door.Door roots job out ends fresh))
