use Rattle.plan_starts.proofs.Started.{update_lines}
use Rattle.plan_starts.proofs.beginning.update_lines.Goals as goal

pub returns : goal.returns
returns c = update_lines c.args.client c.args.batch c.args.triggered c.args.replaced _ _ _ _ _ c.in_ok-lines.ensures c.in_ok-in_order.ensures c.in_ok-push.ensures.items c.in_ok-tell_accepts.ensures
