use Rattle.std.proofs.Common.{◌∙◌, sym, subst}
use Rattle.hmr_hub.specs.declared.pass.Pass.{Pass}
use Rattle.hmr_hub.specs.Questions.{events}
use Rattle.hmr_hub.proofs.Calls.{LockCalled, events_kind, events_told, legal, same_knower}
use Rattle.hmr_hub.proofs.pass.Hub.events.Goals as goal

pub events_told-requires : goal.events_told-requires
events_told-requires g c =
    let q : Pass = record { pass = c.call.new.pass } in
    events_kind c.args.pass.now q c.call.result c.call.ensures.called

pub returns-clause-same : goal.returns-clause-same
returns-clause-same g c =
    let q : Pass = record { pass = c.call.new.pass } in
    same_knower c.args.pass.now q (c.call.ensures.pass ∙ sym c.requires) c.call.ensures.number c.call.ensures.same

pub returns-clause-looked : goal.returns-clause-looked
returns-clause-looked g c =
    let q : Pass = record { pass = c.call.new.pass } in
    (events_told c.args.pass.now q c.events_told.result (subst (λ told. LockCalled c.args.pass.now q events told) c.events_told.ensures c.call.ensures.called)).0

pub returns-clause-told : goal.returns-clause-told
returns-clause-told g c =
    let q : Pass = record { pass = c.call.new.pass } in
    (events_told c.args.pass.now q c.events_told.result (subst (λ told. LockCalled c.args.pass.now q events told) c.events_told.ensures c.call.ensures.called)).1

pub returns-clause-transcript : goal.returns-clause-transcript
returns-clause-transcript g c =
    let q : Pass = record { pass = c.call.new.pass } in
    legal c.args.pass.now q events c.call.result c.call.ensures.called c.call.ensures.same
