use Rattle.std.proofs.Common.{◌∙◌, sym, subst}
use Rattle.events_and_replies.specs.Said.{event_of}
use Rattle.hmr_hub.specs.declared.pass.Pass.{Pass}
use Rattle.hmr_hub.specs.Questions.{tell}
use Rattle.hmr_hub.proofs.Calls.{LockCalled, called, legal, same_knower, told_kind}
use Rattle.hmr_hub.proofs.pass.Hub.call.Goals as goal

pub told-requires : goal.told-requires
told-requires g c =
    let q : Pass = record { pass = c.call.new.pass } in
    told_kind c.args.pass.now q (event_of c.args.event) c.call.result c.call.ensures.called

pub returns-clause-same : goal.returns-clause-same
returns-clause-same g c =
    let q : Pass = record { pass = c.call.new.pass } in
    same_knower c.args.pass.now q (c.call.ensures.pass ∙ sym c.requires.pass) c.call.ensures.number c.call.ensures.same

pub returns-clause-called : goal.returns-clause-called
returns-clause-called g c =
    let q : Pass = record { pass = c.call.new.pass } in
    called c.args.pass.now q (event_of c.args.event) c.told.result (subst (λ told. LockCalled c.args.pass.now q (tell (event_of c.args.event)) told) c.told.ensures c.call.ensures.called)

pub returns-clause-transcript : goal.returns-clause-transcript
returns-clause-transcript g c =
    let q : Pass = record { pass = c.call.new.pass } in
    legal c.args.pass.now q (tell (event_of c.args.event)) c.call.result c.call.ensures.called c.call.ensures.same
