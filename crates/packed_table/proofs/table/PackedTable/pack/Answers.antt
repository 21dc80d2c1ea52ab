use Rattle.std.proofs.Common.{refl, ap, ◌∙◌, length}
use Rattle.hmr_types.specs.Table.{is_table}
use Rattle.packed_table.proofs.Packing.{is_packed, table_kept}
use Rattle.packed_table.proofs.table.PackedTable.pack.Goals as goal

pub invariant_of-result : goal.invariant_of-result
invariant_of-result c =
    is_packed c.as_slice-rows.result.now (length c.as_slice-rows.result.now) c.in_ok-bytes.bytes.items refl c.in_ok-bytes.ensures.bytes c.in_ok-bytes.ensures.rows
    (ap is_table c.as_slice-rows.ensures.value ∙ c.as_slice-rows.ensures.test)

pub returns : goal.returns
returns c =
    table_kept c.as_slice-rows.result.now (length c.as_slice-rows.result.now) c.in_ok-bytes.bytes.items refl c.in_ok-bytes.ensures.bytes c.in_ok-bytes.ensures.rows
    ∙ c.as_slice-rows.ensures.value
