use Rattle.std.proofs.Common.{rules, arith}
use Rattle.std.proofs.lemmas.Grind.{common_steps}
use Rattle.handler_table.proofs.Shelves.{extends_more, numbers_more}
use Rattle.handler_table.proofs.shelf.Shelf.fill.Goals as goal

pub loop-number-preserved : goal.loop-number-preserved
loop-number-preserved g c = record {
  stays = extends_more _ _ _ _ c.loop-number.invariant.stays c.in_default.ensures.ok;
  numbers = numbers_more _ _ _ _ _ _ _ (search rules) c.in_default.ensures.ok (search rules) (search rules) c.loop-number.invariant.numbers;
  hosts = grind (arith, common_steps);
}
