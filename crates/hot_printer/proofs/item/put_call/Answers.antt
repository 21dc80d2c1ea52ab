use Rattle.hot_printer.proofs.Puts.{three_puts}
use Rattle.hot_printer.proofs.item.put_call.Goals as goal

pub returns : goal.returns
returns c = three_puts _ _ _ _ _ _ _ _ c.in_ok-put.ensures c.in_ok-put-2.ensures c.put-3.ensures
