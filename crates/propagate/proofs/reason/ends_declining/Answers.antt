use Rattle.std.proofs.Common.{◌∙◌}
use Rattle.propagate.proofs.Onward.{last_some, last_none}
use Rattle.propagate.proofs.reason.ends_declining.Goals as goal

pub returns-in-Some : goal.returns-in-Some
returns-in-Some c = c.declines.ensures ∙ last_some c.args.view.now c.args.path.now c.in-Some.last.now c.in-Some.ensures.value

pub returns-in-None : goal.returns-in-None
returns-in-None c = last_none c.args.view.now c.args.path.now c.in-None.ensures.value
