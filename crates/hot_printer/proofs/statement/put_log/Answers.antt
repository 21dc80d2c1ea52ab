use Rattle.hot_printer.proofs.Puts.{four_puts}
use Rattle.hot_printer.proofs.statement.put_log.Goals as goal

pub returns : goal.returns
returns c = four_puts _ _ _ _ _ _ _ _ _ _ c.in_ok-put_indent.ensures c.in_ok-put.ensures c.in_ok-put_exprs.ensures c.put-2.ensures
