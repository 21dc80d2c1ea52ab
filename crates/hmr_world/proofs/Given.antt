-- The answer to an edit or a result, and the lines of the world.
use Rattle.std.proofs.Common.{◌≡◌, ℕ, [], ◌∷◌, refl, sym, ap, ◌∙◌}
use Rattle.std.specs.Prelude.{Ok, Some, None, find, filter, not}
use Rattle.std.specs.Global.{Vec}
use Rattle.std.proofs.Math.Path.{subst}
use Rattle.output_lines.specs.declared.out_line.OutLine.{OutLine}
use Rattle.output_lines.specs.declared.out_line.OutLine.TheVariants as line
use Rattle.output_lines.specs.declared.words.SettleWord.TheVariants as words
use Rattle.core_model.specs.Names.{Name}
use Rattle.core_model.specs.Sources.{Text, edit, result, edit_answer, result_answer}
use Rattle.core_model.specs.Core.{change, step}
use Rattle.module_language.specs.ModuleLanguage.{module_language}
use Rattle.version_map.specs.Standing.{settled_as}
use Rattle.world_model.specs.World.{Job, edits, settles}
use Rattle.world_model.specs.Editing.{edit_line, remove_line, with_job, is_job, settle_job}
use Rattle.world_laws.specs.Runs.{Run, world_of}
use Rattle.hmr_world.specs.Clients.{AreOpen}
use Rattle.world_parts.specs.Cores.{IsCore}
use Rattle.world_parts.specs.Replies.{settled_word}
use Rattle.world_parts.specs.Shelves.{AreShelves}
use Rattle.hmr_world.specs.Standing.{IsStepped, StandsFor}
use Rattle.run_promises.specs.RunSteps.{step_in}
use Rattle.hmr_world.specs.declared.world.World.{World}
use Rattle.world_parts.proofs.Cores.{settle_line_is}
use Rattle.hmr_world.proofs.Stepped.{stepped_by}

module _ {F : Type 0} (run : Run) (n : Name) (old new : World F) (stands : StandsFor run old) (roots : new.core.roots ≡ old.core.roots) (clients : new.clients.items ≡ old.clients.items) (shelves : new.shelves.items ≡ old.shelves.items) where
  -- an edit that gave a text
  pub give_step : (t : Text) (lines : Vec OutLine) → IsCore (step old.core.roots (world_of run).core (change (edit n (Some t)))).0 new.core
      → new.jobs ≡ with_job n (Some t) (edit_answer (world_of run).core.sources n (Some t)) old.jobs
      → lines.items ≡ edit_line n (edit_answer (world_of run).core.sources n (Some t)) ∷ [] → IsStepped run (edits n (Some t)) new (Ok lines)
  give_step t lines core jobs e = stepped_by run (edits n (Some t)) new (Ok lines) (step_in run (edits n (Some t))) refl (ap Some (sym e)) (record {
    roots_are = roots ∙ stands.has.roots_are;
    core = subst (λ rs. IsCore (step rs (world_of run).core (change (edit n (Some t)))).0 new.core) stands.has.roots_are core;
    clients = subst (AreOpen (world_of run).clients) (sym clients) stands.has.clients;
    jobs = jobs ∙ ap (with_job n (Some t) (edit_answer (world_of run).core.sources n (Some t))) stands.has.jobs;
    shelves_are = subst (AreShelves (world_of run).core.given run.shelves) (sym shelves) stands.has.shelves_are;
  })

  -- a removal
  pub removal_step : (lines : Vec OutLine) → IsCore (step old.core.roots (world_of run).core (change (edit n None))).0 new.core → new.jobs ≡ old.jobs
      → lines.items ≡ remove_line n (edit_answer (world_of run).core.sources n None) ∷ [] → IsStepped run (edits n None) new (Ok lines)
  removal_step lines core jobs e = stepped_by run (edits n None) new (Ok lines) (step_in run (edits n None)) refl (ap Some (sym e)) (record {
    roots_are = roots ∙ stands.has.roots_are;
    core = subst (λ rs. IsCore (step rs (world_of run).core (change (edit n None))).0 new.core) stands.has.roots_are core;
    clients = subst (AreOpen (world_of run).clients) (sym clients) stands.has.clients;
    jobs = jobs ∙ stands.has.jobs;
    shelves_are = subst (AreShelves (world_of run).core.given run.shelves) (sym shelves) stands.has.shelves_are;
  })

  -- the result of a job that isn't there
  pub settle_none : (v : ℕ) (lines : Vec OutLine) → new.core ≡ old.core → find (is_job n v) old.jobs ≡ None → new.jobs ≡ old.jobs → lines.items ≡ line.Settle n v words.NotIssued ∷ [] → IsStepped run (settles n v) new (Ok lines)
  settle_none v lines core none jobs e = stepped_by run (settles n v) new (Ok lines) (settle_job module_language run.roots n v (world_of run) None)
      (ap (settle_job module_language run.roots n v (world_of run)) (ap (find (is_job n v)) (sym stands.has.jobs) ∙ none)) (ap Some (sym e)) (record {
        roots_are = roots ∙ stands.has.roots_are;
        core = subst (IsCore (world_of run).core) (sym core) stands.has.core;
        clients = subst (AreOpen (world_of run).clients) (sym clients) stands.has.clients;
        jobs = jobs ∙ stands.has.jobs;
        shelves_are = subst (AreShelves (world_of run).core.given run.shelves) (sym shelves) stands.has.shelves_are;
      })

  -- the result of a job
  pub settle_one : (v : ℕ) (j : Job) (lines : Vec OutLine) → find (is_job n v) old.jobs ≡ Some j
      → IsCore (step old.core.roots (world_of run).core (change (result n j.text (module_language.transformed n j.text) v))).0 new.core
      → new.jobs ≡ filter (λ x. not (is_job n v x)) old.jobs
      → lines.items ≡ line.Settle n v (settled_word (settled_as (result_answer (world_of run).core.sources n j.text (module_language.transformed n j.text) v))) ∷ [] → IsStepped run (settles n v) new (Ok lines)
  settle_one v j lines found core jobs e = stepped_by run (settles n v) new (Ok lines) (settle_job module_language run.roots n v (world_of run) (Some j))
      (ap (settle_job module_language run.roots n v (world_of run)) (ap (find (is_job n v)) (sym stands.has.jobs) ∙ found))
      (ap (λ l. Some (l ∷ [])) (settle_line_is n v (result_answer (world_of run).core.sources n j.text (module_language.transformed n j.text) v)) ∙ ap Some (sym e)) (record {
        roots_are = roots ∙ stands.has.roots_are;
        core = subst (λ rs. IsCore (step rs (world_of run).core (change (result n j.text (module_language.transformed n j.text) v))).0 new.core) stands.has.roots_are core;
        clients = subst (AreOpen (world_of run).clients) (sym clients) stands.has.clients;
        jobs = jobs ∙ ap (filter (λ x. not (is_job n v x))) stands.has.jobs;
        shelves_are = subst (AreShelves (world_of run).core.given run.shelves) (sym shelves) stands.has.shelves_are;
      })
