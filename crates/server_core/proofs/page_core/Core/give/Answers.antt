use Rattle.std.proofs.Common.{Some}
use Rattle.std.specs.Prelude.{Ok, Err}
use Rattle.std.proofs.Math.Path.{subst}
use Rattle.core_model.specs.Core.{change}
use Rattle.core_model.specs.Sources.{edit, edit_answer, sources_after}
use Rattle.version_map.specs.Standing as sources
use Rattle.version_map.specs.declared.outcome.EditFault.TheVariants.{Refused, NoMemory}
use Rattle.server_core.specs.Inside.{kept_of}
use Rattle.server_core.specs.Kept.{IsStep}
use Rattle.server_core.proofs.Changing.{edited_step, refused_edit, text_given, unmade_edit}
use Rattle.server_core.proofs.page_core.Core.give.Goals as goal
use Rattle.server_core.proofs.page_core.Core.give.Goals.{in-Ok, in-Err-Refused, in-Err-NoMemory}

pub returns : goal.returns
returns c =
    let n = c.args.name in
    let t = Some c.args.text.items in
    let old = kept_of c.self.inside in
    let new = c.edit.new.self in
    subst (λ k. IsStep (change (edit n t)) k (record old { sources = new }) c.match-edit.result) c.self.view_is (elim c.match-edit.branch [
      | in-Ok w ↦ rw w.result-is (edited_step old n t new w.in-Ok.outcome
          (λ past h. rw w.in-Ok.is at c.edit.ensures.stands past h) (λ past h. rw w.in-Ok.is at c.edit.ensures.answer past h) (λ past h. text_given (sources_after past) n c.args.text.items))
      | in-Err-Refused w ↦ rw w.result-is (refused_edit old n t new w.in-Err-Refused.refusal
          (λ past h. rw w.in-Err-Refused.field-0-is at (rw w.in-Err-Refused.is at c.edit.ensures.stands past h)) (λ past h. rw w.in-Err-Refused.field-0-is at (rw w.in-Err-Refused.is at c.edit.ensures.answer past h)))
      | in-Err-NoMemory w ↦ rw w.result-is (unmade_edit old n t new _ (rw w.in-Err-NoMemory.is at c.edit.ensures.unchanged)
          (λ past h. rw w.in-Err-NoMemory.field-0-is at (rw w.in-Err-NoMemory.is at c.edit.ensures.answer past h)))
    ])
