use Rattle.live_server.specs.Serving.{HasJoined}
use Rattle.live_server.proofs.Serving.{joined_look}
use Rattle.live_server.proofs.ending.wind_up_all.Goals as goal

pub returns-in-Ok-clause-joined : goal.returns-in-Ok-clause-joined
returns-in-Ok-clause-joined g c =
    let w = c.wind_up-report.ensures in
    let r = c.put_record.ensures in
    let joined : HasJoined c.args.passes.items c.args.pass.now c.wind_up-report.new.pass = record {
      transcript = w.transcript;
      own = w.own c.requires.knows;
      within = w.within;
      each_calls = w.calls;
    } in
    joined_look c.args.passes.items c.args.pass.now c.wind_up-report.new.pass c.put_record.new.pass c.requires.knows joined r.same r.looked r.transcript

pub returns-clause-joined : goal.returns-clause-joined
returns-clause-joined g c =
    let w = c.wind_up-report.ensures in
    let r = c.put_record.ensures in
    let joined : HasJoined c.args.passes.items c.args.pass.now c.wind_up-report.new.pass = record {
      transcript = w.transcript;
      own = w.own c.requires.knows;
      within = w.within;
      each_calls = w.calls;
    } in
    joined_look c.args.passes.items c.args.pass.now c.wind_up-report.new.pass c.put_record.new.pass c.requires.knows joined r.same r.looked r.transcript
