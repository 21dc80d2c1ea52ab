-- The world's sources are what its edits and results make: requests leave them as they are.
use Rattle.std.proofs.Common.{◌≡◌, ℕ, List, [], ◌∷◌, refl, ap, sym, ◌∙◌}
use Rattle.std.specs.Prelude.{find, Option, Some, None}
use Rattle.std.proofs.Math.Path.{subst}
use Rattle.output_lines.specs.declared.out_line.OutLine.{OutLine}
use Rattle.update_msgs.specs.declared.message.ClientMsg.{ClientMsg}
use Rattle.update_msgs.specs.declared.message.ClientMsg.TheVariants as told
use Rattle.hmr_types.specs.declared.value.Value.{Value}
use Rattle.core_model.specs.Names.{Name, at}
use Rattle.core_model.specs.Sources.{Text, Change, edit, result, changed_by, sources_after}
use Rattle.core_model.specs.Requests.{Reply, ask, fetch, applied_as, aborted, invalidate}
use Rattle.core_model.specs.Core.{Core, connect, step, client_at}
use Rattle.core_model.specs.Exchange.{event_of, message_for}
use Rattle.core_model.specs.Roots.{are_bad, roots_or}
use Rattle.core_model.proofs.Replaying.{connected_sources, requested_sources, disconnected_sources}
use Rattle.core_laws.specs.Written.{written, IsServedWritten}
use Rattle.core_laws.proofs.Writing.{served_written}
use Rattle.client_model.specs.Language.{Language}
use Rattle.client_model.specs.Runtime.{Runtime}
use Rattle.client_model.specs.Requesting as requesting
use Rattle.world_model.specs.World.{Job, World, Step, edits, settles, opens, turn, closes, show, values, fates, fresh, fresh_of, fires}
use Rattle.world_model.specs.Editing.{is_job, settle_job}
use Rattle.world_model.specs.Turning.{turn_of, close_of, shown, fire_of, connected_as}
use Rattle.world_model.specs.Steps.{world_step, world_after}
use Rattle.world_laws.specs.Changes.{result_too, change_too, changes_in}
use Rattle.world_laws.proofs.Freshness.{opened_core}

message_leaves : (asked : ClientMsg) (roots : List Name) (i : ℕ) (core : Core) → (step roots core (event_of i asked)).0.sources ≡ core.sources
message_leaves (told.Hello format names) roots i core = connected_sources (are_bad names) (roots_or names roots) core
message_leaves told.Ask roots i core = requested_sources (client_at core.clients i) i core ask
message_leaves (told.Fetch n) roots i core = requested_sources (client_at core.clients i) i core (fetch n)
message_leaves (told.Applied table) roots i core = requested_sources (client_at core.clients i) i core (applied_as table)
message_leaves (told.Aborted cause n from x) roots i core = requested_sources (client_at core.clients i) i core aborted
message_leaves (told.Invalidate n v message) roots i core = requested_sources (client_at core.clients i) i core (invalidate n v)
message_leaves told.Bye roots i core = disconnected_sources (client_at core.clients i) i core

module _ (language : Language) (roots : List Name) (shelves : List (List (Text × ℕ))) where
  abbrev IsOf : List Change → World → Type 0
  IsOf changes w = w.core.sources ≡ sources_after changes

  settled : (changes : List Change) (n : Name) (v : ℕ) (w : World) (o : Option Job) → IsOf changes w → IsOf (result_too language n v o changes) (settle_job language roots n v w o).world
  settled changes n v w None h = h
  settled changes n v w (Some j) h = ap (λ s. changed_by s (result n j.text (language.transformed n j.text) v)) h

  turned : (changes : List Change) (i : ℕ) (w : World) (o : Option Runtime) → IsOf changes w → IsOf changes (turn_of language roots i w o).world
  turned changes i w None h = h
  turned changes i w (Some r) h = message_leaves (requesting.request language r) roots i w.core ∙ h

  closed : (changes : List Change) (i : ℕ) (w : World) (o : Option Runtime) → IsOf changes w → IsOf changes (close_of roots i w o).world
  closed changes i w None h = h
  closed changes i w (Some r) h = disconnected_sources (client_at w.core.clients i) i w.core ∙ h

  shows : (changes : List Change) (i : ℕ) (w : World) (lines : Runtime → List OutLine) (o : Option Runtime) → IsOf changes w → IsOf changes (shown i w lines o).world
  shows changes i w lines None h = h
  shows changes i w lines (Some r) h = h

  fired : (changes : List Change) (i : ℕ) (n : Name) (value : Value) (w : World) (o : Option Runtime) → IsOf changes w → IsOf changes (fire_of language i n value w o).world
  fired changes i n value w None h = h
  fired changes i n value w (Some r) h = h

  step_is : (changes : List Change) (w : World) (s : Step) → IsOf changes w → IsOf (change_too language w s changes) (world_step language roots shelves w s).world
  step_is changes w (edits n t) h = ap (λ s. changed_by s (edit n t)) h
  step_is changes w (settles n v) h = settled changes n v w (find (is_job n v) w.issued) h
  step_is changes w (opens format names) h =
      let after : Core × Reply = step roots w.core (connect names) in
      ap (λ (core : Core). core.sources) (opened_core language shelves format names w after (connected_as (message_for format after.1))) ∙ connected_sources (are_bad names) (roots_or names roots) w.core ∙ h
  step_is changes w (turn i) h = turned changes i w (client_at w.clients i) h
  step_is changes w (closes i) h = closed changes i w (client_at w.clients i) h
  step_is changes w (show i) h = shows changes i w _ (client_at w.clients i) h
  step_is changes w (values i) h = shows changes i w _ (client_at w.clients i) h
  step_is changes w (fates i) h = shows changes i w _ (client_at w.clients i) h
  step_is changes w fresh h = h
  step_is changes w (fresh_of i) h = shows changes i w _ (client_at w.clients i) h
  step_is changes w (fires i n value) h = fired changes i n value w (client_at w.clients i) h

  pub sources_are : (past : List Step) → (world_after language roots shelves past).core.sources ≡ sources_after (changes_in language roots shelves past)
  sources_are [] = refl
  sources_are (s ∷ past) = step_is (changes_in language roots shelves past) (world_after language roots shelves past) s (sources_are past)

  -- what is served has the text of its version
  pub served_written_in : (past : List Step) (n : Name) → IsServedWritten (written (changes_in language roots shelves past) n) (at (world_after language roots shelves past).core.sources.served n)
  served_written_in past n = subst (λ s. IsServedWritten (written (changes_in language roots shelves past) n) (at s.served n)) (sym (sources_are past)) (served_written (changes_in language roots shelves past) n)
