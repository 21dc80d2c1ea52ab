use Rattle.std.proofs.Common.{◌≡◌, ◌∙◌, ap, get_or, sym}
use Rattle.std.specs.Prelude.{slice_set, Ok}
use Rattle.std.proofs.Math.Path.{subst}
use Rattle.core_model.specs.Requests as requests
use Rattle.server_core.specs.Heard.{IsHeard}
use Rattle.server_core.proofs.Hearing.{unknown_heard, heard_one}
use Rattle.server_core.proofs.requests.aborted.Goals as goal

-- no client of this number is connected
pub returns-in_default : goal.returns-in_default
returns-in_default c = unknown_heard c.args.sources.now c.args.number requests.aborted c.args.clients.now c.in_default.ensures.none

pub returns : goal.returns
returns c =
    let s = c.args.sources.now in
    let i = c.args.number in
    let clients = c.args.clients.now in
    let at = c.index-clients-place.result in
    let new = c.aborted.new.self in
    subst (λ reply. IsHeard s i requests.aborted clients (slice_set clients c.in-Some.place ((get_or clients c.in-Some.place at).0, new)) (Ok reply)) (sym c.told.ensures)
    (heard_one s i requests.aborted clients (get_or clients c.in-Some.place at).1 (c.in-Some.ensures.there at) new (slice_set clients c.in-Some.place ((get_or clients c.in-Some.place at).0, new)) c.aborted.result
    (ap (λ n. slice_set clients c.in-Some.place (n, new)) (c.in-Some.ensures.number at) ∙ sym (c.in-Some.ensures.with new))
    (c.aborted.ensures.stands i) (c.aborted.ensures.reply i) (λ k r. c.aborted.ensures.written))
