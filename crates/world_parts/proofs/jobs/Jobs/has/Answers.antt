use Rattle.std.proofs.Common.{sym, ◌∙◌, ap, None, Some}
use Rattle.std.specs.Prelude.{find, is_some}
use Rattle.world_model.specs.Editing.{is_job}
use Rattle.world_parts.proofs.JobRows.{has_is, some_named}
use Rattle.world_parts.proofs.jobs.Jobs.has.Goals as goal

pub returns-in-Some : goal.returns-in-Some
returns-in-Some c =
    let v = c.args.version in
    let n = c.args.name.now in
    c.eq.ensures ∙ sym (some_named v n c.in-Some.job.now) ∙ sym (has_is v n c.self.inside.rows.entries (Some c.in-Some.job.now) c.self.invariant c.in-Some.ensures.value) ∙ ap (λ x. is_some (find (is_job n v) x)) c.self.view_is

pub returns-in-None : goal.returns-in-None
returns-in-None c =
    let v = c.args.version in
    let n = c.args.name.now in
    sym (has_is v n c.self.inside.rows.entries None c.self.invariant c.in-None.ensures.value) ∙ ap (λ x. is_some (find (is_job n v) x)) c.self.view_is
