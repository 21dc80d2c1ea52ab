use Rattle.std.proofs.Common.{None}
use Rattle.page_state.proofs.Numbers.{changed}
use Rattle.page_state.proofs.live.LiveNumbers.remove.Goals as goal

-- nothing is kept for the name
pub returns : goal.returns
returns c = rw (← c.self.view_is) (changed c.args.name.now None c.self.inside.numbers c.remove.new.self c.remove.ensures.updates)
