use Rattle.std.proofs.Common.{◌∙◌, ap}
use Rattle.core_model.specs.Names.{in_order}
use Rattle.client_plan.proofs.InOrder.{sorted_in_order}
use Rattle.client_plan.proofs.telling.in_order.Goals as goal

pub returns : goal.returns
returns c = c.from_vec.ensures ∙ sorted_in_order c.into_vec-names.result.items c.sort.new.self.items c.in_ok-sort.ensures.sorted c.in_ok-sort.ensures.stable ∙ ap in_order c.into_vec-names.ensures
