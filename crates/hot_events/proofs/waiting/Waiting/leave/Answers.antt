use Rattle.std.proofs.Common.{◌∙◌}
use Rattle.hot_events.proofs.Standing.{stands_leaves}
use Rattle.hot_events.proofs.waiting.Waiting.leave.Goals as goal

pub returns : goal.returns
returns c past h = c.take_out.ensures.items ∙ stands_leaves past c.args.client c.self.inside.lists.items (c.self.view_is ∙ h)
