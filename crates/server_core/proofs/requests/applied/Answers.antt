use Rattle.std.proofs.Common.{◌≡◌, ◌∙◌, ap, get_or, sym}
use Rattle.std.specs.Prelude.{slice_set, Ok}
use Rattle.std.proofs.Math.Path.{subst}
use Rattle.core_model.specs.Requests as requests
use Rattle.server_core.specs.Heard.{IsHeard}
use Rattle.server_core.proofs.Hearing.{unknown_heard, heard_one, heard_none}
use Rattle.server_core.proofs.requests.applied.Goals as goal

-- no client of this number is connected
pub returns-in_default : goal.returns-in_default
returns-in_default c = unknown_heard c.args.sources.now c.args.number (requests.applied_as c.args.table.now) c.args.clients.now c.in_default.ensures.none

pub returns : goal.returns
returns c =
    let s = c.args.sources.now in
    let i = c.args.number in
    let clients = c.args.clients.now in
    let at = c.index-clients-place.result in
    let new = c.applied.new.self in
    subst (λ reply. IsHeard s i (requests.applied_as c.args.table.now) clients (slice_set clients c.in-Some.place ((get_or clients c.in-Some.place at).0, new)) (Ok reply)) (sym c.told.ensures)
    (heard_one s i (requests.applied_as c.args.table.now) clients (get_or clients c.in-Some.place at).1 (c.in-Some.ensures.there at) new (slice_set clients c.in-Some.place ((get_or clients c.in-Some.place at).0, new)) c.in_ok-answer.answer
    (ap (λ n. slice_set clients c.in-Some.place (n, new)) (c.in-Some.ensures.number at) ∙ sym (c.in-Some.ensures.with new))
    (c.in_ok-answer.ensures.stands i) (c.in_ok-answer.ensures.reply i) (λ k r. c.in_ok-answer.ensures.written))

pub returns-in_err-answer : goal.returns-in_err-answer
returns-in_err-answer c =
    let s = c.args.sources.now in
    let i = c.args.number in
    let clients = c.args.clients.now in
    let at = c.index-clients-place.result in
    let new = c.applied.new.self in
    heard_none s i (requests.applied_as c.args.table.now) clients (get_or clients c.in-Some.place at).1 (c.in-Some.ensures.there at) new (slice_set clients c.in-Some.place ((get_or clients c.in-Some.place at).0, new)) c.from_residual.result c.from_residual.ensures.0
    (ap (λ n. slice_set clients c.in-Some.place (n, new)) (c.in-Some.ensures.number at) ∙ sym (c.in-Some.ensures.with new))
    (c.in_err-answer.ensures.unchanged s)
