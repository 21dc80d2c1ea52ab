use Rattle.runtime_events.proofs.Fired.{busy_none, busy_some}
use Rattle.runtime_events.proofs.events.is_busy.Goals as goal

pub returns-in-Some : goal.returns-in-Some
returns-in-Some g c = λ r k. busy_some r c.args.runtime.now _ k c.in-Some.is

pub returns-in-None : goal.returns-in-None
returns-in-None g c = λ r k. busy_none r c.args.runtime.now k c.in-None.is
