use Rattle.std.proofs.Common.{sym}
use Rattle.server_core.proofs.clients.record_of.Goals as goal

pub returns : goal.returns
returns c = sym (c.in-Some.ensures.there c.index-clients-place.result)

pub returns-in_default : goal.returns-in_default
returns-in_default c = sym c.in_default.ensures.none
