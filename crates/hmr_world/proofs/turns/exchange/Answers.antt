use Rattle.events_and_replies.specs.Said.{event_of}
use Rattle.hmr_world.proofs.Turning.{can_send, can_take, can_write, lines_take, runtime_takes}
use Rattle.hmr_world.proofs.Turning.{nothing_after, nothing_lines, says_as}
use Rattle.hmr_world.proofs.turns.exchange.Goals as goal

-- a message comes
pub sent_by_server-requires-clause-writable : goal.sent_by_server-requires-clause-writable
sent_by_server-requires-clause-writable g c =
    let says = says_as c.args.client c.args.core.now c.args.runtime.now c.in_ok-request.request
    c.in_ok-asked.asked (event_of c.event_of.result) c.in_ok-reply.reply c.in_ok-request.ensures.request
    c.in_ok-asked.ensures c.event_of.ensures c.in_ok-reply.ensures.reply c.message_in.result
    c.message_in.ensures c.in_ok-reply.ensures.written in
    can_send c.args.client c.args.core.now c.args.runtime.now c.message_in.result says
    c.in-Some.msg c.in-Some.is c.format.result c.format.ensures c.requires.fits

pub take_answer-requires-clause-writable : goal.take_answer-requires-clause-writable
take_answer-requires-clause-writable g c =
    let says = says_as c.args.client c.args.core.now c.args.runtime.now c.in_ok-request.request
    c.in_ok-asked.asked (event_of c.event_of.result) c.in_ok-reply.reply c.in_ok-request.ensures.request
    c.in_ok-asked.ensures c.event_of.ensures c.in_ok-reply.ensures.reply c.message_in.result
    c.message_in.ensures c.in_ok-reply.ensures.written in
    can_write c.args.client c.args.core.now c.args.runtime.now c.message_in.result says
    c.in-Some.msg c.in-Some.is c.format.result c.format.ensures
    c.in_ok-answer.answer c.in_ok-answer.ensures c.requires.fits

pub take_answer-requires-clause-fits : goal.take_answer-requires-clause-fits
take_answer-requires-clause-fits g c =
    let says = says_as c.args.client c.args.core.now c.args.runtime.now c.in_ok-request.request
    c.in_ok-asked.asked (event_of c.event_of.result) c.in_ok-reply.reply c.in_ok-request.ensures.request
    c.in_ok-asked.ensures c.event_of.ensures c.in_ok-reply.ensures.reply c.message_in.result
    c.message_in.ensures c.in_ok-reply.ensures.written in
    can_take c.args.client c.args.core.now c.args.runtime.now c.message_in.result says
    c.in-Some.msg c.in-Some.is c.format.result c.format.ensures
    c.in_ok-answer.answer c.in_ok-answer.ensures c.requires.fits

pub returns-clause-runtime : goal.returns-clause-runtime
returns-clause-runtime g c =
    let says = says_as c.args.client c.args.core.now c.args.runtime.now c.in_ok-request.request
    c.in_ok-asked.asked (event_of c.event_of.result) c.in_ok-reply.reply c.in_ok-request.ensures.request
    c.in_ok-asked.ensures c.event_of.ensures c.in_ok-reply.ensures.reply c.message_in.result
    c.message_in.ensures c.in_ok-reply.ensures.written in
    runtime_takes c.args.client c.args.core.now c.args.runtime.now c.message_in.result says
    c.in-Some.msg c.in-Some.is c.format.result c.format.ensures
    c.in_ok-answer.answer c.in_ok-answer.ensures
    c.take_answer.result c.take_answer.new.runtime c.take_answer.ensures.runtime

pub returns-clause-lines : goal.returns-clause-lines
returns-clause-lines g c =
    let says = says_as c.args.client c.args.core.now c.args.runtime.now c.in_ok-request.request
    c.in_ok-asked.asked (event_of c.event_of.result) c.in_ok-reply.reply c.in_ok-request.ensures.request
    c.in_ok-asked.ensures c.event_of.ensures c.in_ok-reply.ensures.reply c.message_in.result
    c.message_in.ensures c.in_ok-reply.ensures.written in
    lines_take c.args.client c.args.core.now c.args.runtime.now c.message_in.result says
    c.in-Some.msg c.in-Some.is c.format.result c.format.ensures
    c.in_ok-answer.answer c.in_ok-answer.ensures
    c.take_answer.result c.take_answer.ensures.lines

-- none comes
pub returns-in_default-clause-runtime : goal.returns-in_default-clause-runtime
returns-in_default-clause-runtime g c =
    let says = says_as c.args.client c.args.core.now c.args.runtime.now c.in_ok-request.request
    c.in_ok-asked.asked (event_of c.event_of.result) c.in_ok-reply.reply c.in_ok-request.ensures.request
    c.in_ok-asked.ensures c.event_of.ensures c.in_ok-reply.ensures.reply c.message_in.result
    c.message_in.ensures c.in_ok-reply.ensures.written in
    nothing_after c.args.client c.args.core.now c.args.runtime.now c.message_in.result says
    c.in_default.is

pub returns-in_default-clause-lines : goal.returns-in_default-clause-lines
returns-in_default-clause-lines g c =
    let says = says_as c.args.client c.args.core.now c.args.runtime.now c.in_ok-request.request
    c.in_ok-asked.asked (event_of c.event_of.result) c.in_ok-reply.reply c.in_ok-request.ensures.request
    c.in_ok-asked.ensures c.event_of.ensures c.in_ok-reply.ensures.reply c.message_in.result
    c.message_in.ensures c.in_ok-reply.ensures.written in
    nothing_lines c.args.client c.args.core.now c.args.runtime.now c.message_in.result says
    c.in_default.is c.new.result c.new.ensures.items
