use Rattle.std.proofs.Common.{◌≡◌, ◌∙◌, ap, get_or, sym}
use Rattle.std.specs.Prelude.{slice_set, Ok}
use Rattle.std.proofs.Math.Path.{subst}
use Rattle.hmr_types.specs.declared.limits.TheConstants.{LARGEST_CLIENT}
use Rattle.server_core.specs.Clients.{IsGiven}
use Rattle.core_model.specs.Requests as requests
use Rattle.server_core.specs.Heard.{IsHeard}
use Rattle.server_core.proofs.Hearing.{given_number, unknown_heard, heard_one, heard_none}
use Rattle.server_core.proofs.requests.ask.Goals as goal

-- no client of this number is connected
pub returns-in_default : goal.returns-in_default
returns-in_default c = unknown_heard c.args.sources.now c.args.number requests.ask c.args.clients.now c.in_default.ensures.none

pub ask-requires : goal.ask-requires
ask-requires c =
    let given : IsGiven LARGEST_CLIENT c.args.number = given_number LARGEST_CLIENT c.args.number (get_or c.args.clients.now c.in-Some.place c.index-clients-place.result).1 c.args.clients.now c.requires (c.in-Some.ensures.there c.index-clients-place.result) in
    record { least = given.least; most = given.most }

pub returns : goal.returns
returns c =
    let s = c.args.sources.now in
    let i = c.args.number in
    let clients = c.args.clients.now in
    let at = c.index-clients-place.result in
    let new = c.ask.new.self in
    subst (λ reply. IsHeard s i requests.ask clients (slice_set clients c.in-Some.place ((get_or clients c.in-Some.place at).0, new)) (Ok reply)) (sym c.told.ensures)
    (heard_one s i requests.ask clients (get_or clients c.in-Some.place at).1 (c.in-Some.ensures.there at) new (slice_set clients c.in-Some.place ((get_or clients c.in-Some.place at).0, new)) c.in_ok-answer.answer
    (ap (λ n. slice_set clients c.in-Some.place (n, new)) (c.in-Some.ensures.number at) ∙ sym (c.in-Some.ensures.with new))
    c.in_ok-answer.ensures.stands c.in_ok-answer.ensures.reply c.in_ok-answer.ensures.written)

pub returns-in_err-answer : goal.returns-in_err-answer
returns-in_err-answer c =
    let s = c.args.sources.now in
    let i = c.args.number in
    let clients = c.args.clients.now in
    let at = c.index-clients-place.result in
    let new = c.ask.new.self in
    heard_none s i requests.ask clients (get_or clients c.in-Some.place at).1 (c.in-Some.ensures.there at) new (slice_set clients c.in-Some.place ((get_or clients c.in-Some.place at).0, new)) c.from_residual.result c.from_residual.ensures.0
    (ap (λ n. slice_set clients c.in-Some.place (n, new)) (c.in-Some.ensures.number at) ∙ sym (c.in-Some.ensures.with new))
    (c.in_err-answer.ensures.unchanged s)
