use Rattle.std.proofs.Common.{◌≡◌, IfOk, sym}
use Rattle.std.specs.Option.{option_map}
use Rattle.std.proofs.Math.Path.{subst}
use Rattle.events_and_replies.specs.Said.{event_of}
use Rattle.event_runs.specs.CoreEvents.{core_event_in}
use Rattle.event_runs.specs.Runs.{run_of}
use Rattle.event_runs.specs.Steps.{event_step_of}
use Rattle.event_world.proofs.event_world.EventWorld.event_of.Goals as goal

pub event_of-requires : goal.event_of-requires
event_of-requires g c =
    let before = c.requires.running in
    record { running = record { run = run_of before.run; stands = before.stands.world_stands } }

pub returns-in-Plain : goal.returns-in-Plain
returns-in-Plain g c = λ run h.
    subst (λ s. IfOk c.event_of.result (λ told. option_map event_of told ≡ core_event_in run (event_step_of s)))
    (sym c.in-Plain.is) (c.event_of.ensures (run_of run) h.world_stands)
