use Rattle.event_runs.specs.Steps.{event_step_of}
use Rattle.input_commands.proofs.Stepping.{on_ok, step_plays, step_stops, without_fault, world_stops}
use Rattle.text_commands.proofs.Ended.{never_full, plays_stop}
use Rattle.input_commands.proofs.play.play_step.Goals as goal

pub returns-in-Ok-clause-plays : goal.returns-in-Ok-clause-plays
returns-in-Ok-clause-plays g c = λ stage w h.
    let call = c.show in
    let made = c.in-Ok.ensures in
    step_plays stage w c.args.world.now h (event_step_of c.args.step) c.args.quiet c.in-Ok.lines c.step.new.self
    (g.K.LineSink.taken c.args.out.now) (g.K.LineSink.taken call.new.self) call.result
    (made.lines h.run h.stands) (made.stands h.run h.stands) (made.logged h.run h.stands h.logged) call.ensures.front call.ensures.done
    (never_full call.result call.ensures.stops)

pub returns-in-Ok-clause-running : goal.returns-in-Ok-clause-running
returns-in-Ok-clause-running g c = on_ok c.show.result c.in-Ok.ensures.running

pub returns-in-Ok-clause-stops : goal.returns-in-Ok-clause-stops
returns-in-Ok-clause-stops g c = plays_stop c.show.result c.show.ensures.stops

pub returns-in-Err-clause-plays : goal.returns-in-Err-clause-plays
returns-in-Err-clause-plays g c = λ stage w h.
    step_stops stage w c.args.world.now h (event_step_of c.args.step) c.args.quiet c.in-Err.ended c.step.new.self _
    c.stop_of_world.result
    (c.in-Err.ensures.lines h.run h.stands) (c.in-Err.ensures.stopped h.run h.stands h.logged) c.stop_of_world.ensures

pub returns-in-Err-clause-stops : goal.returns-in-Err-clause-stops
returns-in-Err-clause-stops g c = world_stops c.in-Err.ended c.stop_of_world.result c.stop_of_world.ensures

pub returns-in-Err-clause-faults : goal.returns-in-Err-clause-faults
returns-in-Err-clause-faults g c =
    without_fault c.in-Err.ended c.stop_of_world.result (g.K.LineSink.faults c.args.out.now) c.stop_of_world.ensures
