use Rattle.std.proofs.Common.{◌≡◌, ◌≤◌, ◌++◌}
use Rattle.std.specs.Prelude.{All}
use Rattle.std.specs.Vec.Iter.{into_iter_items}
use Rattle.hmr_types.specs.declared.limits.TheConstants.{MESSAGE_BYTES}
use Rattle.hmr_hub.specs.Calls.{SameKnower}
use Rattle.hmr_hub.specs.Passes.{HasTranscript, IsPassOf}
use Rattle.hub_editor.specs.Edits.{IsWorkable, edits_in, length_of, text_in}
use Rattle.hub_editor.specs.Openings.{Opening}
use Rattle.hub_editor.proofs.opening.tell_edits.Given as goal

-- the edits so far were told
abbrev pub invariant-loop-name : goal.invariant-loop-name
invariant-loop-name g l = record {
  of : IsPassOf l.hub l.pass;
  same : SameKnower l.fn.pass l.pass;
  transcript : HasTranscript l.fn.pass → HasTranscript l.pass;
  all : l.yielded ++ into_iter_items l.name-iterator ≡ l.fn.edits.items;
  opening : Opening (edits_in l.yielded) l.pass l.jobs.items;
  workable : All IsWorkable l.jobs.items;
  short : All (λ e. length_of (e.0, text_in e.1) ≤ MESSAGE_BYTES) (into_iter_items l.name-iterator);
}
