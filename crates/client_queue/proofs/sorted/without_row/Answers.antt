use Rattle.std.proofs.Common.{rules}
use Rattle.std.proofs.lemmas.Fn.{filter_same}
use Rattle.client_queue.proofs.Placing.{kept_rises}
use Rattle.client_queue.proofs.sorted.without_row.Goals as goal

pub returns-clause-items : goal.returns-clause-items
returns-clause-items c = filter_same _ _ _ (λ x b f' k. search rules) _ _ c.retain.ensures.filtered

pub returns-clause-rising : goal.returns-clause-rising
returns-clause-rising c = kept_rises c.args.name.now c.args.rows.now.items c.retain.new.self.items (returns-clause-items c)
