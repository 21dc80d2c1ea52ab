use Rattle.std.proofs.Common.{◌≡◌, sym, ◌∙◌}
use Rattle.std.specs.Prelude.{OnOk, IfOk}
use Rattle.std.proofs.Math.Path.{subst}
use Rattle.core_model.specs.Asking.{asked}
use Rattle.core_model.specs.Requests.{ask_reply}
use Rattle.client_records.specs.Answers.{reply_of}
use Rattle.client_records.specs.Record.{IsRecord}
use Rattle.client_records.proofs.client_record.ClientRecord.ask_page.Goals as goal

pub returns-clause-stands : goal.returns-clause-stands
returns-clause-stands c = λ d h q. subst (λ a. OnOk c.act.result (IsRecord c.args.sources.now (asked a c.args.sources.now d) c.act.new.self)) (c.in_ok-row.ensures.row d h ∙ sym q) (c.act.ensures.stands d h)

pub returns-clause-reply : goal.returns-clause-reply
returns-clause-reply c = λ d h q. subst (λ a. IfOk c.act.result (λ answer. reply_of answer ≡ ask_reply c.args.number c.args.sources.now (asked a c.args.sources.now d) a)) (c.in_ok-row.ensures.row d h ∙ sym q)
    (c.act.ensures.reply d h (c.in_ok-row.ensures.names d h) c.in_ok-row.ensures.tellable)

pub returns-clause-written : goal.returns-clause-written
returns-clause-written c = λ d h. c.act.ensures.written c.args.sources.now (c.in_ok-row.ensures.names d h) c.in_ok-row.ensures.tellable
