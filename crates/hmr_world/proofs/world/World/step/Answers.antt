use Rattle.run_promises.specs.RunSteps.{run_on}
use Rattle.world_parts.specs.Steps.{step_of}
use Rattle.hmr_world.proofs.Stepped.{stands_on, ends_running, on_ok}
use Rattle.hmr_world.proofs.world.World.step.Goals as goal

pub returns-clause-stands : goal.returns-clause-stands
returns-clause-stands g c = λ run h.
    let s = step_of c.args.step in
    stands_on run s c.args.self.now c.made.new.self c.made.result h (c.made.ensures.step run h)

pub returns-clause-lines : goal.returns-clause-lines
returns-clause-lines g c = λ run h. (c.made.ensures.step run h).lines

pub returns-clause-running : goal.returns-clause-running
returns-clause-running g c =
    let s = step_of c.args.step in
    ends_running c.args.self.now c.made.new.self s c.made.result c.requires.running c.made.ensures.step

pub returns-clause-promises : goal.returns-clause-promises
returns-clause-promises g c = λ run h.
    on_ok c.made.result (c.what_is_promised_of_runs.ensures (run_on run (step_of c.args.step)))

pub returns-clause-isolation : goal.returns-clause-isolation
returns-clause-isolation g c = λ run h.
    on_ok c.made.result ((c.what_is_promised_of_runs.ensures run).isolation (step_of c.args.step))
