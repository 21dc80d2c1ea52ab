-- An edit of the world, from what the core said to it.
use Rattle.std.proofs.Common.{◌≡◌, [], ◌∷◌, refl, sym, ap, ◌∙◌}
use Rattle.std.specs.Prelude.{Ok, Option, Some, None}
use Rattle.std.specs.Global.{Vec}
use Rattle.std.proofs.Math.Path.{subst}
use Rattle.output_lines.specs.declared.out_line.OutLine.{OutLine}
use Rattle.core_model.specs.Names.{Name}
use Rattle.core_model.specs.Sources.{Text, edit, EditAnswer, edit_answer}
use Rattle.core_model.specs.Core as model
use Rattle.core_model.specs.Core.{change, step}
use Rattle.module_language.specs.ModuleLanguage.{module_language}
use Rattle.events_and_replies.specs.declared.event.Reply.{Reply}
use Rattle.events_and_replies.specs.Said.{said}
use Rattle.world_model.specs.World.{edits}
use Rattle.world_model.specs.Editing.{edit_line, remove_line, with_job}
use Rattle.world_laws.specs.Runs.{Run, world_of}
use Rattle.world_parts.specs.Cores.{IsCore}
use Rattle.world_parts.specs.Jobs.{AreBelow}
use Rattle.world_parts.specs.Replies.{answer_in}
use Rattle.hmr_world.specs.Standing.{IsStepped, StandsFor}
use Rattle.hmr_world.specs.declared.world.World.{World}
use Rattle.world_parts.proofs.Cores.{answer_said}
use Rattle.hmr_world.proofs.Given.{give_step, removal_step}
use Rattle.world_parts.proofs.Issued.{are_below, are_issued}

module _ {F : Type 0} (run : Run) (n : Name) (old new : World F) (stands : StandsFor run old) (roots : new.core.roots ≡ old.core.roots) (clients : new.clients.items ≡ old.clients.items) (shelves : new.shelves.items ≡ old.shelves.items)
    (reply : Reply) (line : OutLine) (lines : Vec OutLine) (shown : lines.items ≡ line ∷ []) where
  -- the answer to an edit
  abbrev answer_to : Option Text → EditAnswer
  answer_to t = edit_answer (world_of run).core.sources n t

  -- the jobs that are under way have lower versions than one that is issued now
  below : (t : Text) → AreBelow (answer_to (Some t)) old.jobs
  below t = subst (AreBelow (answer_to (Some t))) (sym stands.has.jobs) (are_below (answer_to (Some t)) n t (world_of run).core.sources (world_of run).issued refl (are_issued module_language run.roots run.shelves run.steps))

  -- the core said what the edit brought
  answered : (t : Option Text) → ((c : model.Core) → IsCore c old.core → said (step old.core.roots c (change (edit n t))).1 ≡ reply) → answer_in reply ≡ Some (answer_to t)
  answered t says = ap answer_in (sym (says (world_of run).core stands.has.core)) ∙ answer_said (answer_to t)

  -- a text was given
  pub given : (t : Text) (event : model.Event) → event ≡ change (edit n (Some t)) → ((c : model.Core) → IsCore c old.core → IsCore (step old.core.roots c event).0 new.core)
      → ((c : model.Core) → IsCore c old.core → said (step old.core.roots c event).1 ≡ reply)
      → ((answer : EditAnswer) → answer_in reply ≡ Some answer → AreBelow answer old.jobs → new.jobs ≡ with_job n (Some t) answer old.jobs)
      → ((answer : EditAnswer) → answer_in reply ≡ Some answer → line ≡ edit_line n answer) → IsStepped run (edits n (Some t)) new (Ok lines)
  given t event is core says jobs shows =
      let told = subst (λ x. (c : model.Core) → IsCore c old.core → said (step old.core.roots c x).1 ≡ reply) is says in
      let kept = subst (λ x. (c : model.Core) → IsCore c old.core → IsCore (step old.core.roots c x).0 new.core) is core in
      let answer = answered (Some t) told in
      give_step run n old new stands roots clients shelves t lines (kept (world_of run).core stands.has.core) (jobs (answer_to (Some t)) answer (below t)) (shown ∙ ap (λ l. l ∷ []) (shows (answer_to (Some t)) answer))

  -- a source was taken away
  pub taken_away : (event : model.Event) → event ≡ change (edit n None) → ((c : model.Core) → IsCore c old.core → IsCore (step old.core.roots c event).0 new.core)
      → ((c : model.Core) → IsCore c old.core → said (step old.core.roots c event).1 ≡ reply) → new.jobs ≡ old.jobs
      → ((answer : EditAnswer) → answer_in reply ≡ Some answer → line ≡ remove_line n answer) → IsStepped run (edits n None) new (Ok lines)
  taken_away event is core says jobs shows =
      let told = subst (λ x. (c : model.Core) → IsCore c old.core → said (step old.core.roots c x).1 ≡ reply) is says in
      let kept = subst (λ x. (c : model.Core) → IsCore c old.core → IsCore (step old.core.roots c x).0 new.core) is core in
      removal_step run n old new stands roots clients shelves lines (kept (world_of run).core stands.has.core) jobs (shown ∙ ap (λ l. l ∷ []) (shows (answer_to None) (answered None told)))
