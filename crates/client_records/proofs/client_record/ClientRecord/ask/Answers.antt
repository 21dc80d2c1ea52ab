use Rattle.std.proofs.Common.{sym, ◌∙◌}
use Rattle.std.proofs.Math.Path.{subst}
use Rattle.std.proofs.lemmas.Result.{on_err_weaker}
use Rattle.client_records.specs.Inside.{kept_of}
use Rattle.client_records.specs.Record.{IsRecord}
use Rattle.client_records.proofs.Asking.{idle_none, quiet_row, quiet_stands, tell_answers, tell_stands}
use Rattle.client_records.proofs.client_record.ClientRecord.ask.Goals as goal

pub returns-in-Some-clause-stands : goal.returns-in-Some-clause-stands
returns-in-Some-clause-stands c = λ d h. tell_stands c.args.number c.args.sources.now d (kept_of c.self.inside) (c.in-Some.name, c.in-Some.fault) c.next_notice.new.self
    (subst (IsRecord c.args.sources.now d) (sym c.self.view_is) h) (idle_none c.self.inside.plan (sym c.is_idle.ensures ∙ c.if-not-is_idle.false)) c.next_notice.ensures.rising (sym c.in-Some.is ∙ c.next_notice.ensures.notice) c.next_notice.ensures.left

pub returns-in-Some-clause-reply : goal.returns-in-Some-clause-reply
returns-in-Some-clause-reply c = λ d h. c.told.ensures.reply ∙ tell_answers c.args.number c.args.sources.now d (kept_of c.self.inside) (c.in-Some.name, c.in-Some.fault)
    (subst (IsRecord c.args.sources.now d) (sym c.self.view_is) h) (idle_none c.self.inside.plan (sym c.is_idle.ensures ∙ c.if-not-is_idle.false)) c.next_notice.ensures.rising (sym c.in-Some.is ∙ c.next_notice.ensures.notice)

pub returns-in-None-clause-stands : goal.returns-in-None-clause-stands
returns-in-None-clause-stands c = λ d h.
    let r = subst (IsRecord c.args.sources.now d) (sym c.self.view_is) h in
    let f = sym c.in-None.is ∙ c.next_notice.ensures.notice in
    c.ask_page.ensures.stands d (quiet_stands c.args.sources.now d (kept_of c.self.inside) c.next_notice.new.self r f c.next_notice.ensures.left)
    (quiet_row c.args.sources.now d (kept_of c.self.inside) c.next_notice.new.self r (idle_none c.self.inside.plan (sym c.is_idle.ensures ∙ c.if-not-is_idle.false)) c.next_notice.ensures.rising f c.next_notice.ensures.left)

pub returns-in-None-clause-reply : goal.returns-in-None-clause-reply
returns-in-None-clause-reply c = λ d h.
    let r = subst (IsRecord c.args.sources.now d) (sym c.self.view_is) h in
    let f = sym c.in-None.is ∙ c.next_notice.ensures.notice in
    c.ask_page.ensures.reply d (quiet_stands c.args.sources.now d (kept_of c.self.inside) c.next_notice.new.self r f c.next_notice.ensures.left)
    (quiet_row c.args.sources.now d (kept_of c.self.inside) c.next_notice.new.self r (idle_none c.self.inside.plan (sym c.is_idle.ensures ∙ c.if-not-is_idle.false)) c.next_notice.ensures.rising f c.next_notice.ensures.left)

pub returns-in-None-clause-written : goal.returns-in-None-clause-written
returns-in-None-clause-written c = λ d h. c.ask_page.ensures.written d (quiet_stands c.args.sources.now d (kept_of c.self.inside) c.next_notice.new.self (subst (IsRecord c.args.sources.now d) (sym c.self.view_is) h) (sym c.in-None.is ∙ c.next_notice.ensures.notice) c.next_notice.ensures.left)

pub returns-in-None-clause-unchanged : goal.returns-in-None-clause-unchanged
returns-in-None-clause-unchanged c = λ s d h.
    let r = subst (IsRecord s d) (sym c.self.view_is) h in
    let q = quiet_stands s d (kept_of c.self.inside) c.next_notice.new.self r (sym c.in-None.is ∙ c.next_notice.ensures.notice) c.next_notice.ensures.left in
    on_err_weaker c.ask_page.result (λ e. subst (IsRecord s d) (sym e) q) c.ask_page.ensures.unchanged
