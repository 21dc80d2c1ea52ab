use Rattle.std.proofs.Common.{rules, ◌≡◌, Some}
use Rattle.live_crew.proofs.Attendants.{held}
use Rattle.live_crew.proofs.attendant.HubAttendant.hold_session.Goals as goal

pub returns-clause-stays : goal.returns-clause-stays
returns-clause-stays g c =
    let has : c.args.self.now.pass ≡ Some c.in-Some.pass = search rules in
    let hub : c.keep.new.self.hub ≡ c.args.self.now.hub = search rules in
    let desk = c.new-desk.ensures in
    let served = c.serve_session-ended.ensures in
    held c.args.self.now c.keep.new.self c.in-Some.pass c.new-desk.result c.serve_session-ended.new.desk c.leave.new.self c.serve_session-ended.result _ _ _ _ has desk.pass
    desk.client desk.told served.stays served.course c.leave.ensures.left c.leave.ensures.stays hub c.keep.ensures.pass
