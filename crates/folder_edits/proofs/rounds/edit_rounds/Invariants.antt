use Rattle.std.proofs.Common.{◌≡◌, ◌≤◌, true, false}
use Rattle.std.specs.Option.{option_map}
use Rattle.folders.specs.Files.{MayOpen}
use Rattle.transform_pool.specs.Passes as pool
use Rattle.hmr_hub.specs.Calls.{SameKnower}
use Rattle.hmr_hub.specs.Passes.{HasTranscript, IsPassOf}
use Rattle.hmr_hub.specs.declared.pass.Pass.{Pass}
use Rattle.hub_editor.specs.Editing.{Edited, IsGoing}
use Rattle.folder_edits.specs.Rounds.{after_scans}
use Rattle.folder_edits.proofs.Makings.{Rounds}
use Rattle.folder_edits.proofs.rounds.edit_rounds.Given as goal

-- the edits of the rounds so far were made
abbrev pub invariant-loop : goal.invariant-loop
invariant-loop g l = record {
  of : IsPassOf l.context.caller.hub.now l.pass;
  same : SameKnower l.fn.pass l.pass;
  transcript : HasTranscript l.fn.pass → HasTranscript l.pass;
  edited : (p : Pass) → Edited p l.fn.pass l.fn.editing.editor.works.items → Edited p l.pass l.editing.editor.works.items;
  going : IsGoing l.editing.editor.works.items;
  rounds : Rounds (g.T.Tree.coming l.fn.tree) (g.T.Tree.coming l.tree) l.fn.listing l.listing l.counter l.fn.editing.editor.works.items l.editing.editor.works.items;
  came : g.T.Tree.coming l.tree ≡ option_map (after_scans l.counter) (g.T.Tree.coming l.fn.tree);
  of_queue : pool.IsPassOf l.editing.queue.now l.editing.jobs;
  puts : (pool.role_of l.editing.jobs).puts ≡ true;
  unclosed : (pool.role_of l.editing.jobs).closed ≡ false;
  may : MayOpen (g.T.Tree.asked l.tree) l.context.folder.now;
  later : g.T.Tree.faults l.fn.tree ≤ g.T.Tree.faults l.tree;
}
