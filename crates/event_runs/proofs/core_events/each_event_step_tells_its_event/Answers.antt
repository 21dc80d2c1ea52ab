use Rattle.event_runs.proofs.CoreEvents.{each_tells}
use Rattle.event_runs.proofs.core_events.each_event_step_tells_its_event.Goals as goal

pub returns : goal.returns
returns c = λ run s. each_tells run c.each_step_tells_its_event.ensures s
