-- The result of a job of the world.
use Rattle.std.proofs.Common.{◌≡◌, ◌≤◌, ℕ, [], ◌∷◌, length, sym, ap, ◌∙◌}
use Rattle.std.specs.Prelude.{Ok, Some, None, filter, find, is_some, not, option_map}
use Rattle.std.specs.Global.{Vec}
use Rattle.std.proofs.Math.Path.{subst}
use Rattle.hmr_types.specs.declared.limits.TheConstants.{TEXT_BYTES}
use Rattle.output_lines.specs.declared.out_line.OutLine.{OutLine}
use Rattle.output_lines.specs.declared.out_line.OutLine.TheVariants as line
use Rattle.output_lines.specs.declared.words.SettleWord.TheVariants as words
use Rattle.core_model.specs.Core as model
use Rattle.core_model.specs.Core.{change, step}
use Rattle.core_model.specs.Names.{Name}
use Rattle.core_model.specs.Sources.{Text, result, result_answer}
use Rattle.module_language.specs.ModuleLanguage.{module_language}
use Rattle.version_map.specs.Standing.{settled_as}
use Rattle.world_model.specs.Editing.{is_job}
use Rattle.world_model.specs.World.{Job, settles}
use Rattle.world_laws.specs.Runs.{Run, world_of}
use Rattle.world_parts.specs.Cores.{IsCore}
use Rattle.world_parts.specs.Replies.{settled_word}
use Rattle.hmr_world.specs.Standing.{IsRunning, IsStepped, StandsFor}
use Rattle.hmr_world.specs.declared.world.World.{World}
use Rattle.hmr_world.proofs.Given.{settle_none, settle_one}
use Rattle.world_parts.proofs.Issued.{are_issued}
use Rattle.world_parts.proofs.JobRows.{all_stay}
use Rattle.world_parts.proofs.JobTexts.{found_issued, none_by, text_found}

-- the text of a job that is under way is no longer than a source may be
pub short_text : {F : Type 0} (world : World F) → IsRunning world → (n : Name) (v : ℕ) (t : Text) → Some t ≡ option_map (λ (j : Job). j.text) (find (is_job n v) world.jobs) → length t ≤ TEXT_BYTES
short_text world running n v t k =
    let run = running.run in
    let at = text_found (is_job n v) world.jobs t k in
    let issued = found_issued (world_of run).core.sources.counted (is_job n v) (world_of run).issued at.j (are_issued module_language run.roots run.shelves run.steps) (ap (find (is_job n v)) (sym running.stands.has.jobs) ∙ at.found) in
    subst (λ x. length x ≤ TEXT_BYTES) at.text issued.short

module _ {F : Type 0} (run : Run) (n : Name) (old new : World F) (stands : StandsFor run old) (roots : new.core.roots ≡ old.core.roots) (clients : new.clients.items ≡ old.clients.items) (shelves : new.shelves.items ≡ old.shelves.items)
    (v : ℕ) (lines : Vec OutLine) (left : new.jobs ≡ filter (λ x. not (is_job n v x)) old.jobs) where
  -- there is no such job
  pub settled_none : new.core ≡ old.core → None ≡ option_map (λ (j : Job). j.text) (find (is_job n v) old.jobs) → lines.items ≡ line.Settle n v words.NotIssued ∷ [] → IsStepped run (settles n v) new (Ok lines)
  settled_none core none e =
      let found = none_by (find (is_job n v) old.jobs) none in
      settle_none run n old new stands roots clients shelves v lines core found (left ∙ all_stay (is_job n v) old.jobs (ap is_some found)) e

  -- the result of transforming the job's text
  pub settled_text : (t : Text) → Some t ≡ option_map (λ (j : Job). j.text) (find (is_job n v) old.jobs)
      → ((c : model.Core) → IsCore c old.core → IsCore (step old.core.roots c (change (result n t (module_language.transformed n t) v))).0 new.core)
      → ((c : model.Core) → IsCore c old.core → lines.items ≡ line.Settle n v (settled_word (settled_as (result_answer c.sources n t (module_language.transformed n t) v))) ∷ []) → IsStepped run (settles n v) new (Ok lines)
  settled_text t k core e =
      let at = text_found (is_job n v) old.jobs t k in
      settle_one run n old new stands roots clients shelves v at.j lines at.found
      (subst (λ x. IsCore (step old.core.roots (world_of run).core (change (result n x (module_language.transformed n x) v))).0 new.core) (sym at.text) (core (world_of run).core stands.has.core))
      left
      (subst (λ x. lines.items ≡ line.Settle n v (settled_word (settled_as (result_answer (world_of run).core.sources n x (module_language.transformed n x) v))) ∷ []) (sym at.text) (e (world_of run).core stands.has.core))
