-- What a message asks, as far as it matters once the answer is there.
use Rattle.update_msgs.specs.declared.message.ClientMsg.{ClientMsg}
use Rattle.update_msgs.specs.declared.message.ClientMsg.TheVariants as msg
use Rattle.live_lines.specs.declared.asked.Asked.{Asked}
use Rattle.live_lines.specs.declared.asked.Asked.TheVariants as asked

abbrev pub asked_of : ClientMsg → Asked
asked_of (msg.Hello format roots) = asked.Hello
asked_of msg.Ask = asked.Other
asked_of (msg.Fetch path) = asked.Other
asked_of (msg.Applied table) = asked.Applied
asked_of (msg.Aborted cause path from name) = asked.Aborted cause path from name
asked_of (msg.Invalidate path version message) = asked.Other
asked_of msg.Bye = asked.Bye
