use Rattle.std.proofs.Common.{subst}
use Rattle.events_and_replies.specs.Said.{event_of}
use Rattle.hmr_hub.specs.Calls.{Called}
use Rattle.hub_tests.proofs.Counting.{one_more}
use Rattle.hub_tests.proofs.meeting.tell.Goals as goal

pub returns-in-Ok-clause-made : goal.returns-in-Ok-clause-made
returns-in-Ok-clause-made g c = λ _.
    one_more (event_of c.args.event) c.in-Ok.reply c.args.pass.now c.call.new.pass
    (subst (λ result. Called (event_of c.args.event) result c.args.pass.now c.call.new.pass) c.in-Ok.is c.call.ensures.called) c.call.ensures.same
