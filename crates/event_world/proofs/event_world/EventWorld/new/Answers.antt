use Rattle.event_runs.specs.Runs.{beginning}
use Rattle.event_runs.proofs.Keeping.{begins}
use Rattle.event_world.proofs.event_world.EventWorld.new.Goals as goal

pub returns-clause-stands : goal.returns-clause-stands
returns-clause-stands g c = λ run stands none. record {
  world_stands = stands;
  lists_stand = c.new.ensures;
  keeps = begins run none;
}

pub returns-clause-running : goal.returns-clause-running
returns-clause-running g c =
    let none = c.requires.none in
    record { run = beginning none.run; stands = returns-clause-stands g c none.run none.stands none.none }
