use Rattle.std.proofs.Common.{◌≤◌, drop, length}
use Rattle.std.specs.Prelude.{All}
use Rattle.hmr_hub.specs.declared.pass.Pass.{Pass}
use Rattle.hmr_hub.specs.Calls.{SameKnower}
use Rattle.hmr_hub.specs.Passes.{HasTranscript, IsPassOf, seen_of}
use Rattle.hmr_hub.specs.Moves.{KnowsOwn}
use Rattle.hub_editor.specs.Editing.{Edited, SameEdits}
use Rattle.hub_editor.proofs.Ending.{HasLast}
use Rattle.hub_editor.proofs.editor.Editor.settle_rest.Given as goal

-- from the last edit on, each has its result where it is the last of its name
abbrev pub invariant-loop-left : goal.invariant-loop-left
invariant-loop-left g l = record {
  of : IsPassOf l.caller.hub.now l.pass;
  same : SameKnower l.fn.pass l.pass;
  knows : KnowsOwn l.pass;
  transcript : HasTranscript l.fn.pass → HasTranscript l.pass;
  edited : (p : Pass) → Edited p l.fn.pass l.fn.self.works.items → Edited p l.pass l.self.works.items;
  edits : SameEdits l.fn.self.works.items l.self.works.items;
  below : l.left ≤ length l.self.works.items;
  rest : (p : Pass) → Edited p l.fn.pass l.fn.self.works.items → All (HasLast (seen_of l.pass) l.fn.self.works.items) (drop l.left l.self.works.items);
}

abbrev pub decreases-loop-left : goal.decreases-loop-left
decreases-loop-left g l = l.left
