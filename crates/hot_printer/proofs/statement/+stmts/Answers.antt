use Rattle.std.proofs.Common.{rules, ◌<◌, length}
use Rattle.hot_printer.proofs.Blocks.{else_puts}
use Rattle.hot_printer.proofs.statement.+stmts.Goals as goal

pub put_else-returns : goal.put_else-returns
put_else-returns t c =
    let some : 0 < length c.args.body.now = search rules in
    else_puts _ c.args.depth c.args.body.now _ _ _ _ _ some c.in_ok-put.ensures c.in_ok-put_block.ensures c.put-3.ensures
