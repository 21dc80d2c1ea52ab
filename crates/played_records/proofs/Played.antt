-- The check says yes of the record of a script.
use Rattle.std.proofs.Common.{◌≡◌, ℕ, ◌≤◌, Bool, true, false, List, [], ◌∷◌, append-nil, length, Result, Ok, Err, arith, ap, sym, refl, ◌∙◌, subst}
use Rattle.std.specs.Prelude.{IfOk, nat_le}
use Prim.{⊥}
use Rattle.std.proofs.lemmas.Bool.{and_parts, le-leb, leb-true}
use Rattle.std.proofs.lemmas.List.Elements.{All-from_recursion}
use Rattle.hmr_types.specs.declared.limits.TheConstants.{SCRIPT_BYTES}
use Rattle.core_model.specs.Core.{Event}
use Rattle.core_model.specs.Formed.{IsName}
use Rattle.core_model.specs.Names.{Name}
use Rattle.core_model.specs.Roots.{AreRoots}
use Rattle.core_model.specs.Sources.{Text}
use Rattle.core_model.specs.Transcript.{most_bytes, most_entries}
use Rattle.world_model.specs.World.{Step}
use Rattle.world_laws.specs.Runs.{Run}
use Rattle.run_promises.specs.Events.{TellsItsEvent}
use Rattle.event_runs.specs.Courses.{new_course}
use Rattle.event_runs.specs.Logs.{core_events, fits}
use Rattle.event_runs.specs.Playing.{Played}
use Rattle.play_script.specs.declared.fault.ScriptFault.{ScriptFault}
use Rattle.play_script.specs.declared.script_line.ScriptLine.{ScriptLine}
use Rattle.play_script.specs.Script.{Contents, script_of}
use Rattle.text_commands.specs.Auditing.{record_bytes, verdict_line}
use Rattle.text_commands.specs.Outputs.{Output, audit_within, output_of_audit, whole}
use Rattle.script_runs.specs.Outputs.{output_of_record, record_of_run, record_of_script, record_within, recorded}
use Rattle.script_runs.specs.Playing.{page_played, perform, script_played, stage_on}
use Rattle.script_runs.specs.Recording.{events_of, events_text}
use Rattle.text_commands.proofs.Roots.{few_of}
use Rattle.record_laws.specs.Bounds.{past_bytes}
use Rattle.record_laws.specs.Course.{verdict_of}
use Rattle.record_laws.specs.Sound.{rests_behind}
use Rattle.record_laws.specs.Written.{lines_told}
use Rattle.record_laws.specs.declared.verdict.Verdict.TheVariants.{Yes}
use Rattle.record_laws.proofs.Recorded.{IsTrue}
use Rattle.record_agreement.specs.Recordable.{IsRecordable}
use Rattle.record_agreement.proofs.Agreed.{record_confirmed}
use Rattle.record_agreement.proofs.Lists.{Each, each_weaker}
use Rattle.played_records.specs.Confirmed.{SaysYes}
use Rattle.played_records.proofs.Courses.{lines_reach}
use Rattle.played_records.proofs.Lines.{ScriptNamed, script_named}
use Rattle.played_records.proofs.Worlds.{IsTold, all_told}

-- ---- a run that is recorded

-- what is known of a record that comes with status 0
record IsWhole (over : Bool) (roots : List Name) (events : List Event) (o : Output) : Type 0 where
  fitting : fits events ≡ true
  on : over ≡ false
  text : whole o ≡ events_text roots events

whole_if : (fitting over : Bool) (roots : List Name) (events : List Event) → fits events ≡ fitting → (recorded fitting over roots events).status ≡ 0 → IsWhole over roots events (recorded fitting over roots events)
whole_if true false roots events e h = record { fitting = e; on = refl; text = append-nil (events_text roots events) }
whole_if true true roots events e h = absurd (omega (arith, h))
whole_if false over roots events e h = absurd (omega (arith, h))

-- a page with a root is played
page_is : (shelves : List (List (Text × ℕ))) (roots : List Name) (lines : List ScriptLine) → 1 ≤ length roots → page_played shelves roots lines ≡ perform (stage_on shelves roots) lines false new_course
page_is shelves [] lines h = absurd (omega (arith, h))
page_is shelves (root ∷ more) lines h = refl

module _ (each : (run : Run) (s : Step) → TellsItsEvent run s) (shelves : List (List (Text × ℕ))) (script : Contents) (named : ScriptNamed script) (good : AreRoots script.roots) where
  abbrev run : Played
  run = script_played shelves script

  -- the events that the core is told in it
  abbrev events : List Event
  events = events_of (stage_on shelves script.roots) run

  told : past_bytes events ≤ most_bytes → run.over ≡ false → Each IsTold events
  told small on =
      let stage = stage_on shelves script.roots in
      let played = perform stage script.lines false new_course in
      let same = page_is shelves script.roots script.lines good.some in
      let here = lines_reach stage script.lines false new_course named.lines (tt, tt) (ap (λ (p : Played). p.over) (sym same) ∙ on) in
      let steps = ap (λ (p : Played). core_events stage p.course.steps) same in
      subst (Each IsTold) (sym steps)
      (all_told script.roots shelves named.roots each played.course.steps here.0 here.1 (subst (λ es. past_bytes es ≤ most_bytes) steps small))

  confirmed : (o : Output) → IsWhole run.over script.roots events o
      → verdict_of (whole o) ≡ Yes (length events) (rests_behind 0 (lines_told script.roots [] events))
  confirmed o h =
      let places = and_parts (nat_le (length events) most_entries) (nat_le (past_bytes events) most_bytes) h.fitting in
      let small = leb-true (past_bytes events) most_bytes places.1 in
      let all = told small h.on in
      ap verdict_of h.text
      ∙ record_confirmed script.roots events good (All-from_recursion IsName script.roots named.roots) (leb-true (length events) most_entries places.0) small
      (All-from_recursion IsTrue events (each_weaker IsTold IsTrue events (λ event t. t.true_result) all))
      (All-from_recursion IsRecordable events (each_weaker IsTold IsRecordable events (λ event t. t.recordable) all))

-- ---- the output of a script

within_is : (shelves : List (List (Text × ℕ))) (bytes : List ℕ) (b : Bool) → (record_within shelves bytes b).status ≡ 0 → record_within shelves bytes b ≡ record_of_script shelves (script_of bytes)
within_is shelves bytes true h = refl
within_is shelves bytes false h = absurd (omega (arith, h))

named_of : (bytes : List ℕ) (script : Contents) → script_of bytes ≡ Ok script → ScriptNamed script
named_of bytes script e = subst (λ r. IfOk r ScriptNamed) e (script_named bytes)

roots_of : (bytes : List ℕ) (script : Contents) → script_of bytes ≡ Ok script → 1 ≤ length script.roots → AreRoots script.roots
roots_of bytes script e some = let h = few_of bytes script e in record { some = some; few = h.few; distinct = h.distinct }

module _ (each : (run : Run) (s : Step) → TellsItsEvent run s) (shelves : List (List (Text × ℕ))) (bytes : List ℕ) where
  -- of the record of a script with a root the check says yes
  pub script_confirmed : (script : Contents) → script_of bytes ≡ Ok script → 1 ≤ length script.roots → (output_of_record shelves bytes).status ≡ 0
      → verdict_of (whole (output_of_record shelves bytes)) ≡ Yes (length (events_of (stage_on shelves script.roots) (script_played shelves script))) (rests_behind 0 (lines_told script.roots [] (events_of (stage_on shelves script.roots) (script_played shelves script))))
  script_confirmed script e some h =
      let stage = stage_on shelves script.roots in
      let p = script_played shelves script in
      let is : output_of_record shelves bytes ≡ record_of_run (stage_on shelves script.roots) (script_played shelves script) =
      within_is shelves bytes (nat_le (length bytes) SCRIPT_BYTES) h ∙ ap (record_of_script shelves) e in
      ap (λ o. verdict_of (whole o)) is
      ∙ confirmed each shelves script (named_of bytes script e) (roots_of bytes script e some) (record_of_run stage p)
      (whole_if (fits (events_of stage p)) p.over script.roots (events_of stage p) refl (ap (λ (o : Output). o.status) (sym is) ∙ h))

  -- ---- and so does audit

  audited : (text : List ℕ) (steps rests : ℕ) → verdict_of text ≡ Yes steps rests → length text ≤ record_bytes → SaysYes (output_of_audit text)
  audited text steps rests e h = record {
    steps = steps;
    rests = rests;
    is = ap (audit_within text) (le-leb (length text) record_bytes h) ∙ ap (λ v. record { status = 0; lines = verdict_line v; last = [] }) e;
  }

  root_or_nothing : (script : Contents) → script_of bytes ≡ Ok script → (output_of_record shelves bytes).status ≡ 0 → (whole (output_of_record shelves bytes) ≡ [] → ⊥) → (roots : List Name) → script.roots ≡ roots → 1 ≤ length roots
  root_or_nothing script e h some [] r =
      absurd (some (ap whole (within_is shelves bytes (nat_le (length bytes) SCRIPT_BYTES) h ∙ ap (record_of_script shelves) e) ∙ nothing_recorded))
    where
      nothing_recorded : whole (record_of_script shelves (Ok script)) ≡ []
      nothing_recorded = ap (λ roots. whole (record_of_run (stage_on shelves roots) (page_played shelves roots script.lines))) r
  root_or_nothing script e h some (root ∷ more) r = omega arith

  by_script : (r : Result Contents ScriptFault) → script_of bytes ≡ r → (output_of_record shelves bytes).status ≡ 0 → (whole (output_of_record shelves bytes) ≡ [] → ⊥) → length (whole (output_of_record shelves bytes)) ≤ record_bytes → SaysYes (output_of_audit (whole (output_of_record shelves bytes)))
  by_script (Ok script) e h some short =
      let root = root_or_nothing script e h some script.roots refl in
      audited (whole (output_of_record shelves bytes)) _ _ (script_confirmed script e root h) short
  by_script (Err fault) e h some short =
      absurd (omega (arith, ap (λ (o : Output). o.status) (within_is shelves bytes (nat_le (length bytes) SCRIPT_BYTES) h ∙ ap (record_of_script shelves) e), h))

  pub script_audited : (output_of_record shelves bytes).status ≡ 0 → (whole (output_of_record shelves bytes) ≡ [] → ⊥) → length (whole (output_of_record shelves bytes)) ≤ record_bytes → SaysYes (output_of_audit (whole (output_of_record shelves bytes)))
  script_audited h some short = by_script (script_of bytes) refl h some short
