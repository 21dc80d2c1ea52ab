use Rattle.hot_printer.proofs.Blocks.{indent_more}
use Rattle.hot_printer.proofs.statement.put_indent.Goals as goal

pub loop-block-preserved : goal.loop-block-preserved
loop-block-preserved c = indent_more c.loop-block._block _ _ _ c.loop-block.invariant c.in_ok-put.ensures
