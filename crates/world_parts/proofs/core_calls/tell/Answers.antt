use Rattle.events_and_replies.specs.Said.{event_of}
use Rattle.world_parts.proofs.Cores.{told_stands, told_reply, told_written}
use Rattle.world_parts.proofs.core_calls.tell.Goals as goal

pub returns-clause-stands : goal.returns-clause-stands
returns-clause-stands c = told_stands c.args.core.now c.step.new.self (event_of c.args.event) c.step.result c.step.ensures.roots c.step.ensures.stands

pub returns-clause-reply : goal.returns-clause-reply
returns-clause-reply c = told_reply c.args.core.now (event_of c.args.event) c.step.result c.step.ensures.reply

pub returns-clause-written : goal.returns-clause-written
returns-clause-written c = told_written c.args.core.now c.step.result c.step.ensures.written
