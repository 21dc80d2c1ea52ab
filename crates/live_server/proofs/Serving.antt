-- The steps of a live server, put together.
use Rattle.std.proofs.Common.{◌≡◌, ◌≤◌, ◌++◌, ℕ, List, [], ◌∷◌, length, map, sum, ap, sym, ◌∙◌, subst}
use Rattle.std.specs.Prelude.{flat_map}
use Rattle.std.proofs.lemmas.List.Elements.{All-weaker}
use Rattle.core_model.specs.Names.{Name}
use Rattle.turn_lock.specs.Histories.{calls}
use Rattle.hmr_hub.specs.declared.pass.Pass.{Pass}
use Rattle.hmr_hub.specs.Calls.{IsFirst, Looked, SameKnower}
use Rattle.hmr_hub.specs.Passes.{HasTranscript, number_of, roots_of, seen_of}
use Rattle.hmr_hub.specs.Moves.{KnowsOwn, own_of}
use Rattle.hmr_hub.proofs.Moves.{knows_moved, moved_looked, moved_no_more}
use Rattle.hub_editor.specs.Edits.{Made}
use Rattle.hub_editor.specs.Editing.{AreAnswered, Edited, entries_of}
use Rattle.hub_editor.specs.Results.{HasOwnResults, result_entry}
use Rattle.hub_editor.proofs.Steps.{answers_moved, own_moved}
use Rattle.serve_reports.proofs.Joins.{all_calls, all_look}
use Rattle.live_crew.specs.Doors.{doors_begun}
use Rattle.live_crew.specs.Held.{HasDoors}
use Rattle.live_server.specs.Serving.{HasJoined, Served}
use Rattle.live_crew.specs.Splits.{Divided}
use Rattle.live_crew.proofs.Held.{doors_within}

-- a look at the transcript, after the passes were joined
pub joined_look : (passes : List Pass) (p q r : Pass) → KnowsOwn p → HasJoined passes p q → SameKnower q r → Looked q r → HasTranscript r
    → HasJoined passes p r
joined_look passes p q r knows j same look transcript =
    let within = all_look passes q r same look j.within in
    record {
      transcript = transcript;
      own = moved_no_more p q r [] j.own (moved_looked q r same look (knows_moved p q [] j.own knows));
      within = within;
      each_calls = all_calls passes r within;
    }

-- all that a live server did, by the editor's passes: the first, that behind the splits, that after the edits,
-- and the last
pub served_end : (roots : List Name) (begun : List ℕ) (passes : List Pass) (made : List Made) (p d w q : Pass)
    → IsFirst roots p → Divided p d → SameKnower d w → Edited d w made → HasJoined passes w q → sum begun ≤ length passes
    → HasDoors (roots_of p) (doors_begun begun) passes → Served roots begun q
served_end roots begun passes made p d w q first divided same edited joined back held =
    let begins = divided.moved in
    let last = joined.own in
    let all = moved_no_more d w q _ edited.moved last in
    let zero : number_of d ≡ 0 = begins.number ∙ first.number in
    let nothing : own_of d ≡ [] = begins.own ∙ (ap (λ es. es ++ []) (ap (calls (number_of p ∷ [])) first.seen)) in
    record {
      transcript = joined.transcript;
      roots_are = all.roots ∙ (begins.roots ∙ first.roots_are);
      number = all.number ∙ zero;
      made = made;
      settled = edited.settled;
      mine =
          ap (λ n. calls (n ∷ []) (seen_of q)) (sym (all.number ∙ zero))
          ∙ (all.own ∙ ap (λ es. es ++ (flat_map entries_of made ++ map result_entry edited.settled)) nothing);
      each = edited.each;
      answered = subst (λ es. AreAnswered q es made) nothing (answers_moved w q [] (own_of d) made last edited.answered);
      results = All-weaker (HasOwnResults (seen_of w)) (HasOwnResults (seen_of q)) (λ x h. own_moved w q [] x last h) made edited.results;
      passes = passes;
      came_back = back;
      within = joined.within;
      each_calls = joined.each_calls;
      doors = held.doors;
      others = held.others;
      parted = held.parted;
      each_door = held.many;
      sessions = doors_within (roots_of p) (doors_begun begun) passes q held (all.roots ∙ begins.roots) joined.within;
    }
