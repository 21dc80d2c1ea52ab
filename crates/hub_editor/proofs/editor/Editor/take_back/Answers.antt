use Rattle.hub_editor.proofs.Steps.{edited_step, same_step}
use Rattle.hub_editor.proofs.editor.Editor.take_back.Goals as goal

pub returns-in-Some-clause-edited : goal.returns-in-Some-clause-edited
returns-in-Some-clause-edited g c = λ p x.
    edited_step c.args.self.now.works.items c.in-Some.at c.index_mut.result.now c.work_left.new.self c.in-Some.ensures.below c.index_mut.ensures.value
    p c.args.pass.now c.work_left.new.pass x c.work_left.ensures.steps

pub returns-in-Some-clause-edits : goal.returns-in-Some-clause-edits
returns-in-Some-clause-edits g c =
    same_step c.args.self.now.works.items c.in-Some.at c.index_mut.result.now c.work_left.new.self c.in-Some.ensures.below c.index_mut.ensures.value
    c.args.pass.now c.work_left.new.pass c.work_left.ensures.steps
