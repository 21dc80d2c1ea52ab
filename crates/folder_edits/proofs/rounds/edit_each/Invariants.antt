use Rattle.std.proofs.Common.{◌≡◌, ◌≤◌, ◌++◌, true, false, length}
use Rattle.std.specs.Prelude.{All}
use Rattle.std.specs.Vec.Iter.{into_iter_items, into_iter_len}
use Rattle.hmr_types.specs.declared.limits.TheConstants.{MESSAGE_BYTES}
use Rattle.transform_pool.specs.Passes as pool
use Rattle.hmr_hub.specs.Calls.{SameKnower}
use Rattle.hmr_hub.specs.Passes.{HasTranscript, IsPassOf}
use Rattle.hmr_hub.specs.declared.pass.Pass.{Pass}
use Rattle.hub_editor.specs.Edits.{edits_in, length_of}
use Rattle.hub_editor.specs.Editing.{Edited, IsGoing}
use Rattle.folder_edits.proofs.Makings.{AllMade}
use Rattle.folder_edits.proofs.rounds.edit_each.Given as goal

-- the edits so far were made
abbrev pub invariant-loop-name : goal.invariant-loop-name
invariant-loop-name g l = record {
  of : IsPassOf l.context.caller.hub.now l.pass;
  same : SameKnower l.fn.pass l.pass;
  transcript : HasTranscript l.fn.pass → HasTranscript l.pass;
  edited : (p : Pass) → Edited p l.fn.pass l.fn.editing.editor.works.items → Edited p l.pass l.editing.editor.works.items;
  going : IsGoing l.editing.editor.works.items;
  made : AllMade (edits_in l.yielded) l.fn.editing.editor.works.items l.editing.editor.works.items;
  all : edits_in l.yielded ++ edits_in (into_iter_items l.name-iterator) ≡ edits_in l.fn.edits.items;
  left : into_iter_len l.name-iterator ≡ length (into_iter_items l.name-iterator);
  short : All (λ e. length_of e ≤ MESSAGE_BYTES) (edits_in (into_iter_items l.name-iterator));
  of_queue : pool.IsPassOf l.editing.queue.now l.editing.jobs;
  puts : (pool.role_of l.editing.jobs).puts ≡ true;
  unclosed : (pool.role_of l.editing.jobs).closed ≡ false;
}
