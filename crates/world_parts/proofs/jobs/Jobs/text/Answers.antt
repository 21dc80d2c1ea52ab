use Rattle.std.proofs.Common.{None, Some, ◌∙◌, ap}
use Rattle.std.specs.Prelude.{find, option_map}
use Rattle.world_model.specs.Editing.{is_job}
use Rattle.world_model.specs.World.{Job}
use Rattle.world_parts.proofs.JobRows.{text_by, text_named}
use Rattle.world_parts.proofs.jobs.Jobs.text.Goals as goal

pub returns-in-Some : goal.returns-in-Some
returns-in-Some c =
    let v = c.args.version in
    let n = c.args.name.now in
    let job = c.in-Some.job.now in
    c.text_if.ensures ∙ text_named v n job c.eq.result c.eq.ensures
    ∙ text_by v n c.self.inside.rows.entries (Some job) c.self.invariant c.in-Some.ensures.value
    ∙ ap (λ x. option_map (λ (j : Job). j.text) (find (is_job n v) x)) c.self.view_is

pub returns-in-None : goal.returns-in-None
returns-in-None c =
    let v = c.args.version in
    let n = c.args.name.now in
    text_by v n c.self.inside.rows.entries None c.self.invariant c.in-None.ensures.value
    ∙ ap (λ x. option_map (λ (j : Job). j.text) (find (is_job n v) x)) c.self.view_is
