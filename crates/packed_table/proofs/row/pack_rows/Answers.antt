use Rattle.std.proofs.Common.{ℕ, List, subst}
use Rattle.std.specs.Prelude.{All}
use Rattle.std.proofs.lemmas.List.{take_all}
use Rattle.std.proofs.lemmas.List.Elements.{All-more}
use Rattle.packed_table.specs.Packing.{CanPack}
use Rattle.packed_table.proofs.Packing.{packed_on}
use Rattle.packed_table.proofs.row.pack_rows.Goals as goal

pub loop-row-preserved : goal.loop-row-preserved
loop-row-preserved c = record {
  all = packed_on c.args.rows.now c.loop-row.row-index c.row-item.result c.loop-row.bytes.items c.put_row.new.bytes.items c.loop-row-test.true c.row-item.is c.in_ok-put_row.ensures.bytes c.loop-row.invariant.all;
  packed =
      All-more CanPack c.args.rows.now c.loop-row.row-index c.row-item.result c.loop-row-test.true c.loop-row.invariant.packed
      (subst (λ row. CanPack row) c.row-item.is c.in_ok-put_row.ensures.row);
}

pub returns-clause-rows : goal.returns-clause-rows
returns-clause-rows c = subst (λ (rows : List (List ℕ × ℕ)). All CanPack rows) (take_all c.loop-row.row-index c.args.rows.now c.loop-row-test.false) c.loop-row.invariant.packed
