use Rattle.std.proofs.Common.{Some}
use Rattle.page_state.proofs.Numbers.{changed}
use Rattle.page_state.proofs.live.LiveNumbers.put.Goals as goal

-- this number is kept for the name
pub returns-clause-ok : goal.returns-clause-ok
returns-clause-ok c = rw (← c.self.view_is) (changed c.args.name (Some c.args.number) c.self.inside.numbers c.insert.new.self c.in_ok-insert.ensures.updates)
