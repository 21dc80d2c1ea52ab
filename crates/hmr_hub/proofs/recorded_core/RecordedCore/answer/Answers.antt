use Rattle.std.proofs.Common.{◌≡◌, ◌∙◌, ap, false, refl, subst, sym}
use Rattle.events_and_replies.specs.Said.{event_of}
use Rattle.turn_lock.specs.Histories.{grown}
use Rattle.hmr_hub.specs.declared.hub_reply.HubReply.TheVariants as hub_reply
use Rattle.hmr_hub.specs.Kinds.{asked_of}
use Rattle.hmr_hub.specs.Outcomes.{Answers}
use Rattle.hmr_hub.specs.Questions.{events, history_of, outstanding, report, tell}
use Rattle.hmr_hub.proofs.Answering.{quiet_answer, told_answer}
use Rattle.hmr_hub.proofs.Histories.{history_more}
use Rattle.hmr_hub.proofs.recorded_core.RecordedCore.answer.Goals as goal

pub returns-in-Tell-clause-history : goal.returns-in-Tell-clause-history
returns-in-Tell-clause-history c =
    let told = c.tell-told.ensures in
    let event = event_of c.in-Tell.event in
    let grew = ap history_of told.entries ∙ (history_more c.args.self.now.entries c.args.by event c.tell-told.result
    ∙ ap (λ kept. grown (history_of c.args.self.now.entries) c.args.by (tell event) kept) (sym c.is_recorded-recorded.ensures)) in
    subst (λ kind. history_of c.tell-told.new.self.entries ≡ grown (history_of c.args.self.now.entries) c.args.by (asked_of kind) c.is_recorded-recorded.result) (sym c.in-Tell.is) grew

pub returns-in-Tell-clause-answer : goal.returns-in-Tell-clause-answer
returns-in-Tell-clause-answer c = λ opening same.
    let told = c.tell-told.ensures in
    subst (λ kind. Answers opening (history_of c.args.self.now.entries) c.args.by (asked_of kind) (hub_reply.Told c.tell-told.result) c.is_recorded-recorded.result) (sym c.in-Tell.is)
    (told_answer opening c.args.self.now c.args.by same c.tell-told.new.self (event_of c.in-Tell.event) c.tell-told.result c.is_recorded-recorded.result c.is_recorded-recorded.ensures told.roots told.entries told.outcome told.transcript)

pub returns-in-Outstanding-clause-answer : goal.returns-in-Outstanding-clause-answer
returns-in-Outstanding-clause-answer c = λ opening same.
    let told = c.is_outstanding.ensures in
    subst (λ kind. Answers opening (history_of c.args.self.now.entries) c.args.by (asked_of kind) (hub_reply.Outstanding c.is_outstanding.result) false) (sym c.in-Outstanding.is)
    (quiet_answer opening c.args.self.now c.args.by same (outstanding c.in-Outstanding.name) (hub_reply.Outstanding c.is_outstanding.result) (refl, told.told) told.transcript)

pub returns-in-Report-clause-answer : goal.returns-in-Report-clause-answer
returns-in-Report-clause-answer c = λ opening same.
    let told = c.report.ensures in
    subst (λ kind. Answers opening (history_of c.args.self.now.entries) c.args.by (asked_of kind) (hub_reply.Report c.report.result) false) (sym c.in-Report.is)
    (quiet_answer opening c.args.self.now c.args.by same report (hub_reply.Report c.report.result) (refl, told.told) told.transcript)

pub returns-in-Events-clause-answer : goal.returns-in-Events-clause-answer
returns-in-Events-clause-answer c = λ opening same.
    let told = c.events.ensures in
    subst (λ kind. Answers opening (history_of c.args.self.now.entries) c.args.by (asked_of kind) (hub_reply.Events c.events.result) false) (sym c.in-Events.is)
    (quiet_answer opening c.args.self.now c.args.by same events (hub_reply.Events c.events.result) (refl, told.told) told.transcript)
