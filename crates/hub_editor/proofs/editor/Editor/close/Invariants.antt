use Rattle.std.specs.Prelude.{IfErr}
use Rattle.hmr_hub.specs.declared.pass.Pass.{Pass}
use Rattle.hmr_hub.specs.Calls.{SameKnower}
use Rattle.hmr_hub.specs.Passes.{HasTranscript, IsPassOf}
use Rattle.transform_pool.specs.Passes as pool
use Rattle.transform_pool.specs.Roles.{SamePuts}
use Rattle.hub_editor.specs.Causes.{IsCause, IsRoomStop}
use Rattle.hub_editor.specs.Editing.{Edited, SameEdits}
use Rattle.hub_editor.proofs.editor.Editor.close.Given as goal

-- the jobs that were handed back so far were worked, up to the first stop
abbrev pub invariant-loop : goal.invariant-loop
invariant-loop g l =
    (goal.iterator-loop g).can_next l.iterator' × (goal.iterator-loop g).is_finite l.iterator'
    × IsPassOf l.caller.hub.now l.pass
    × SameKnower l.fn.pass l.pass
    × (HasTranscript l.fn.pass → HasTranscript l.pass)
    × ((p : Pass) → Edited p l.fn.pass l.fn.self.works.items → Edited p l.pass l.self.works.items)
    × SameEdits l.fn.self.works.items l.self.works.items
    × pool.IsPassOf l.queue l.jobs
    × SamePuts (pool.role_of l.fn.jobs) (pool.role_of l.jobs)
    × IfErr l.ended IsRoomStop
    × IfErr l.ended (IsCause l.pass)
