-- What a live server leaves: one transcript, and its record.
use Rattle.std.specs.Prelude.{◌≡◌, ◌≤◌, ◌++◌, ℕ, Bool, false, List, [], ◌∷◌, All, flat_map, length, map, sum}
use Rattle.std.specs.Prelude.{Option, None, IfSome}
use Rattle.std.specs.Global.{Vec}
use Rattle.std.specs.List.Sorted.{IsPermutation}
use Rattle.core_model.specs.Names.{Name}
use Rattle.core_model.specs.Transcript.{events_of}
use Rattle.turn_lock.specs.Histories.{calls}
use Rattle.transform_pool.specs.Tasks.{Task}
use Rattle.hmr_hub.specs.declared.pass.Pass.{Pass}
use Rattle.hmr_hub.specs.Passes.{HasTranscript, number_of, roots_of, seen_of}
use Rattle.hmr_hub.specs.Moves.{Moved}
use Rattle.hub_editor.specs.Edits.{Made, jobs_at_end}
use Rattle.hub_editor.specs.Editing.{AreAnswered, entries_of}
use Rattle.hub_editor.specs.Results.{HasOwnResults, result_entry}
use Rattle.record_text.specs.Texts.{record_text}
use Rattle.record_laws.specs.Course.{verdict_of}
use Rattle.record_laws.specs.Sound.{rests_behind}
use Rattle.record_laws.specs.Written.{lines_told, record_told}
use Rattle.record_laws.specs.declared.verdict.Verdict.TheVariants.{Yes}
use Rattle.serve_reports.specs.Within.{HasCalls, IsWithin}
use Rattle.live_crew.specs.Held.{HasSessions, Held, pass_of}
use Rattle.live_crew.specs.Doors.{doors_begun}

-- the record of what a pass has seen, of which the check of records says yes, with as many steps as that has
-- entries
pub record IsRecordOf (p : Pass) (bytes : List ℕ) : Type 0 where
  pub text : bytes ≡ record_text (record_told (roots_of p) (events_of (seen_of p)))
  pub confirmed : verdict_of bytes
      ≡ Yes (length (seen_of p)) (rests_behind 0 (lines_told (roots_of p) [] (events_of (seen_of p))))

-- where there is a record, it was asked for and is that of what the pass has seen
pub record HasRecord (asked : Bool) (p : Pass) (record' : Option (Vec ℕ)) : Type 0 where
  pub is : IfSome record' (λ bytes. IsRecordOf p bytes.items)
  pub unasked : asked ≡ false → record' ≡ None

-- These passes were joined into a pass, which has then seen a transcript: what each of them has seen begins it,
-- and under the number of each it has the calls of that one, and no other.
pub record HasJoined (passes : List Pass) (old q : Pass) : Type 0 where
  pub transcript : HasTranscript q
  pub own : Moved old q []
  pub within : All (λ p. IsWithin p q) passes
  pub each_calls : All (λ p. HasCalls p q) passes

-- What a live server did, as the editor's pass has seen it at the end. There is one transcript, which is
-- legal. Under the editor's number it has just the editor's edits, each once and in order, and of some of their
-- jobs the result, each once; each edit was answered at its own place. As many passes at least as jobs were
-- begun came back and were joined, and of each of them the transcript has the calls. As many of these at least
-- as doors were begun are of doors, and the calls of each are just those of the sessions that its door held.
pub record Served (roots : List Name) (begun : List ℕ) (p : Pass) : Type 0 where
  pub transcript : HasTranscript p
  pub roots_are : roots_of p ≡ roots
  pub number : number_of p ≡ 0
  pub made : List Made
  pub settled : List Task
  pub mine : calls (0 ∷ []) (seen_of p) ≡ flat_map entries_of made ++ map result_entry settled
  pub each : IsPermutation (flat_map jobs_at_end made) settled
  pub answered : AreAnswered p [] made
  pub results : All (HasOwnResults (seen_of p)) made
  pub passes : List Pass
  pub came_back : sum begun ≤ length passes
  pub within : All (λ q. IsWithin q p) passes
  pub each_calls : All (λ q. HasCalls q p) passes
  pub doors : List Held
  pub others : List Pass
  pub parted : IsPermutation (map pass_of doors ++ others) passes
  pub each_door : doors_begun begun ≤ length doors
  pub sessions : All (HasSessions p) doors
