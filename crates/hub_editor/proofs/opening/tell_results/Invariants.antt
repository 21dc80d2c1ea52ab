use Rattle.std.proofs.Common.{◌≡◌, ◌++◌, length}
use Rattle.std.specs.Vec.Iter.{into_iter_items}
use Rattle.hmr_hub.specs.Calls.{SameKnower}
use Rattle.hmr_hub.specs.Passes.{HasTranscript, IsPassOf, seen_of}
use Rattle.hub_editor.specs.Openings.{told_entries}
use Rattle.hub_editor.proofs.opening.tell_results.Given as goal

-- the results so far were told
abbrev pub invariant-loop-done : goal.invariant-loop-done
invariant-loop-done g l = record {
  of : IsPassOf l.hub l.pass;
  same : SameKnower l.fn.pass l.pass;
  transcript : HasTranscript l.fn.pass → HasTranscript l.pass;
  all : l.yielded ++ into_iter_items l.done-iterator ≡ l.fn.done.items;
  count : l.at ≡ length l.yielded;
  seen : seen_of l.pass ≡ seen_of l.fn.pass ++ told_entries l.yielded l.versions;
}
