use Rattle.std.proofs.Common.{◌≡◌, refl, rules, arith}
use Rattle.sessions.proofs.Courses.{begins, after, room_left}
use Rattle.sessions.proofs.serving.talk.Goals as goal

pub loop-init : goal.loop-init
loop-init g c = (
  tt,
  tt,
  record {
    is_open = c.requires.is_open;
    room = c.requires.room;
    format = search rules;
    course = begins _ _ _ _;
    later = omega arith;
    stays = g.met.D.Desk.same _;
  },
)

pub returns-in-Err-clause-course : goal.returns-in-Err-clause-course
returns-in-Err-clause-course g c = after _ _ _ _ _ _ _ _ _ _ _ _ c.loop.invariant.2.course (rw c.in-Err.is at c.turn.ensures.course)

pub loop-preserved : goal.loop-preserved
loop-preserved g c = (
  search rules,
  search rules,
  record {
    is_open = c.turn.ensures.is_open;
    room = room_left _ _ _ c.in-Ok.is c.turn.ensures.stopped;
    format = rw c.in-Ok.is at c.turn.ensures.format;
    course = after _ _ _ _ _ _ _ _ _ _ _ _ c.loop.invariant.2.course (rw c.in-Ok.is at c.turn.ensures.course);
    later = omega (arith, c.turn.ensures.later, c.loop.invariant.2.later);
    stays = g.met.D.Desk.then _ _ _ c.loop.invariant.2.stays c.turn.ensures.stays;
  },
)
