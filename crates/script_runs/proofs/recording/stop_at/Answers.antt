use Rattle.script_runs.proofs.recording.stop_at.Goals as goal

pub returns-in-InstancesFull : goal.returns-in-InstancesFull
returns-in-InstancesFull c = λ stage p over is.
    c.stop_at_instances.ensures stage p (is c.in-InstancesFull.is) (over c.in-InstancesFull.is)
