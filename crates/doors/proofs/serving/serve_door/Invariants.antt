use Rattle.std.proofs.Common.{◌≡◌, ◌≤◌, false}
use Rattle.doors.proofs.serving.serve_door.Given as goal

-- each visitor so far was served and its end given back
abbrev pub invariant-loop : goal.invariant-loop
invariant-loop g l =
    (goal.iterator-loop g).can_next l.iterator' × (goal.iterator-loop g).is_finite l.iterator'
    × record {
      going : g.D.Door.is_shut l.door ≡ false;
      back : g.D.Door.is_out l.door ≡ false;
      ready : g.A.Attendant.is_done l.attendant ≡ false;
      even : g.A.Attendant.visits l.attendant ≡ g.D.Door.visits l.door;
      later : g.D.Door.faults l.fn.door ≤ g.D.Door.faults l.door;
      stays : g.A.Attendant.stays l.fn.attendant l.attendant;
    }
