use Rattle.std.proofs.Common.{◌≡◌, false, true, sym, subst}
use Rattle.std.specs.Prelude.{Some}
use Rattle.sessions.specs.declared.ended.Ended.TheVariants.{LinkFault}
use Rattle.serve_crew.specs.Outs.{HasLeft, IsServed, IsShut, OutOf}
use Rattle.serve_crew.specs.declared.job.ServeOut.TheVariants as outs
use Rattle.serve_crew.proofs.Outs.{rose_some, session_served}
use Rattle.serve_crew.proofs.work.ServeJobJob.work.Goals as goal

pub returns-in-Session : goal.returns-in-Session
returns-in-Session g c =
    let j = c.in-Session.field-0 in
    let served = c.serve_session-ended.new.desk in
    let link = c.serve_session-ended.new.link in
    let ended = c.serve_session-ended.result in
    let out = outs.Session c.leave.new.self link (Some ended) in
    let e = c.serve_session-ended.ensures in
    let how : IsServed g.L.Link j.link j.desk ended link served = record {
      same = e.stays;
      course = e.course;
      shut = e.shut;
      later = e.later;
      failed = e.failed;
      stopped = e.stopped;
    } in
    let shut : IsShut g.L.Link link (Some ended) =
    record { shut = c.serve_session-ended.ensures.shut; faulty = λ e. let failed : ended ≡ LinkFault = cc in rose_some _ _ (c.serve_session-ended.ensures.failed failed) } in
    subst (λ job. OutOf g.L.Link job out × (false ≡ false) × HasLeft g.L.Link job out) (sym c.in-Session.is) (session_served g.row.G.Denot g.L.Link j served c.leave.new.self link ended how c.leave.ensures.left shut)
