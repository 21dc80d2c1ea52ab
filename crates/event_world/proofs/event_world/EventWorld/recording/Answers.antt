use Rattle.event_runs.specs.Runs.{beginning, stage_of}
use Rattle.event_runs.proofs.Keeping.{begins}
use Rattle.event_runs.proofs.Logging.{none_logged}
use Rattle.event_world.proofs.event_world.EventWorld.recording.Goals as goal

pub returns-clause-stands : goal.returns-clause-stands
returns-clause-stands g c = λ run stands none. record {
  world_stands = stands;
  lists_stand = c.new.ensures;
  keeps = begins run none;
}

pub returns-clause-logged : goal.returns-clause-logged
returns-clause-logged g c = λ run none.
    none_logged (stage_of (beginning run)) run.steps c.new-log.result none c.new-log.ensures.none

pub returns-clause-running : goal.returns-clause-running
returns-clause-running g c =
    let none = c.requires.none in
    record { run = beginning none.run; stands = returns-clause-stands g c none.run none.stands none.none }
