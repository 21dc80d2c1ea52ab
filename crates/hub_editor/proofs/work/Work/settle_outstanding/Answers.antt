use Rattle.std.proofs.Common.{refl, inl}
use Rattle.hub_editor.specs.declared.worked.Worked.TheVariants.{AtEnd}
use Rattle.hub_editor.proofs.Calls.{went_looked}
use Rattle.hub_editor.proofs.Ending.{look_resulted}
use Rattle.hub_editor.proofs.Steps.{steps_later}
use Rattle.hub_editor.proofs.work.Work.settle_outstanding.Goals as goal

pub returns-then-not-outstanding-clause-steps : goal.returns-then-not-outstanding-clause-steps
returns-then-not-outstanding-clause-steps g c =
    inl (refl, went_looked c.args.pass.now c.outstanding.new.pass c.outstanding.ensures.same c.outstanding.ensures.looked c.requires.knows c.requires.number c.outstanding.ensures.transcript)

pub returns-then-not-outstanding-clause-resulted : goal.returns-then-not-outstanding-clause-resulted
returns-then-not-outstanding-clause-resulted g c = λ own.
    look_resulted c.args.pass.now c.outstanding.new.pass c.args.self.now c.in_ok-name.name c.outstanding.result c.outstanding.ensures.same
    (went_looked c.args.pass.now c.outstanding.new.pass c.outstanding.ensures.same c.outstanding.ensures.looked c.requires.knows c.requires.number c.outstanding.ensures.transcript)
    c.outstanding.ensures.transcript c.in_ok-name.ensures c.outstanding.ensures.told c.if-not-outstanding.true

pub returns-clause-steps : goal.returns-clause-steps
returns-clause-steps g c =
    steps_later AtEnd c.args.self.now c.work_left.new.self c.args.pass.now c.outstanding.new.pass c.work_left.new.pass c.outstanding.ensures.same.alone
    (went_looked c.args.pass.now c.outstanding.new.pass c.outstanding.ensures.same c.outstanding.ensures.looked c.requires.knows c.requires.number c.outstanding.ensures.transcript)
    c.work_left.ensures.steps
