use Rattle.client_queue.proofs.Placing.{left_rises}
use Rattle.client_queue.proofs.sorted.first.Goals as goal

pub returns-clause-rising : goal.returns-clause-rising
returns-clause-rising c = left_rises c.args.rows.now.items c.remove.new.self.items c.remove.ensures.items
