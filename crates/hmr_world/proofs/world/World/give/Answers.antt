use Rattle.std.proofs.Common.{Some, refl, ◌∙◌, ap}
use Rattle.core_model.specs.Core.{change}
use Rattle.core_model.specs.Sources.{edit}
use Rattle.hmr_world.proofs.Edited.{given}
use Rattle.hmr_world.proofs.world.World.give.Goals as goal

pub returns-clause-step : goal.returns-clause-step
returns-clause-step g c = λ run h.
    let n = c.args.name in
    let t = c.args.text.items in
    let copy = c.in_ok-copy_name.field-0 in
    let bytes = c.in_ok-from_slice.field-0.items in
    given run n c.args.self.now (record c.args.self.now { core = c.tell.new.core; jobs = c.issue.new.jobs }) h c.tell.ensures.roots refl refl
    c.in_ok-reply.reply c.edit_line.result c.in_ok-one_line.field-0 c.in_ok-one_line.ensures t (change (edit copy (Some bytes)))
    (ap (λ m. change (edit m (Some bytes))) c.in_ok-copy_name.ensures ∙ ap (λ u. change (edit n (Some u))) (c.in_ok-from_slice.ensures.items ∙ c.deref.ensures.value))
    c.in_ok-reply.ensures.stands c.in_ok-reply.ensures.reply c.in_ok-issue.ensures c.edit_line.ensures
