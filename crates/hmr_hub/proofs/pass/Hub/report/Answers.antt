use Rattle.std.proofs.Common.{◌∙◌, sym, subst}
use Rattle.hmr_hub.specs.declared.pass.Pass.{Pass}
use Rattle.hmr_hub.specs.Questions.{report}
use Rattle.hmr_hub.proofs.Calls.{LockCalled, legal, report_kind, report_told, same_knower}
use Rattle.hmr_hub.proofs.pass.Hub.report.Goals as goal

pub reported-requires : goal.reported-requires
reported-requires g c =
    let q : Pass = record { pass = c.call.new.pass } in
    report_kind c.args.pass.now q c.call.result c.call.ensures.called

pub returns-clause-same : goal.returns-clause-same
returns-clause-same g c =
    let q : Pass = record { pass = c.call.new.pass } in
    same_knower c.args.pass.now q (c.call.ensures.pass ∙ sym c.requires) c.call.ensures.number c.call.ensures.same

pub returns-clause-looked : goal.returns-clause-looked
returns-clause-looked g c =
    let q : Pass = record { pass = c.call.new.pass } in
    (report_told c.args.pass.now q c.reported.result (subst (λ told. LockCalled c.args.pass.now q (report) told) c.reported.ensures c.call.ensures.called)).0

pub returns-clause-told : goal.returns-clause-told
returns-clause-told g c =
    let q : Pass = record { pass = c.call.new.pass } in
    (report_told c.args.pass.now q c.reported.result (subst (λ told. LockCalled c.args.pass.now q (report) told) c.reported.ensures c.call.ensures.called)).1

pub returns-clause-transcript : goal.returns-clause-transcript
returns-clause-transcript g c =
    let q : Pass = record { pass = c.call.new.pass } in
    legal c.args.pass.now q (report) c.call.result c.call.ensures.called c.call.ensures.same
