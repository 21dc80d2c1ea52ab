use Rattle.std.proofs.Common.{◌≡◌, ◌++◌, drop, take}
use Rattle.std.specs.Prelude.{All}
use Rattle.std.specs.List.{flat_map}
use Rattle.packed_table.specs.Packing.{CanPack, row_bytes}
use Rattle.packed_table.proofs.row.pack_rows.Given as goal

-- the bytes so far and those of the rows left are all, and the rows so far can be packed
abbrev pub invariant-loop-row : goal.invariant-loop-row
invariant-loop-row l = record {
  all : l.bytes.items ++ flat_map row_bytes (drop l.row-index l.rows) ≡ flat_map row_bytes l.rows;
  packed : All CanPack (take l.row-index l.rows);
}
