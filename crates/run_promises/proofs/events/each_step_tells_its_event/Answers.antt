use Rattle.run_promises.proofs.Telling.{each_tells}
use Rattle.run_promises.proofs.events.each_step_tells_its_event.Goals as goal

pub returns : goal.returns
returns c = λ run s. each_tells run s
