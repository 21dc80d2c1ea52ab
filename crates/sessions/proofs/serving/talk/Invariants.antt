use Rattle.std.proofs.Common.{◌≡◌, ◌≤◌, false}
use Rattle.std.specs.Prelude.{Ok}
use Rattle.transport.specs.declared.link.Phase.TheVariants.{Open}
use Rattle.update_msgs.specs.Writable.{IsFormat}
use Rattle.sessions.specs.Course.{Course}
use Rattle.sessions.proofs.serving.talk.Given as goal

-- each message so far was answered
abbrev pub invariant-loop : goal.invariant-loop
invariant-loop g l =
    let left = g.L.Link.left in
    let sent = g.L.Link.sent in
    let told = g.D.Desk.told in
    (goal.iterator-loop g).can_next l.iterator' × (goal.iterator-loop g).is_finite l.iterator'
    × record {
      is_open : g.L.Link.phase l.link ≡ Open;
      room : g.D.Desk.full l.desk ≡ false;
      format : IsFormat l.format;
      course : Course 1 (left l.fn.link) (left l.link) (sent l.fn.link) (sent l.link) (told l.fn.desk) (told l.desk) (Ok l.format);
      later : g.L.Link.faults l.fn.link ≤ g.L.Link.faults l.link;
      stays : g.D.Desk.stays l.fn.desk l.desk;
    }
