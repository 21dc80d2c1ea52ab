use Rattle.std.proofs.Common.{◌≡◌, ◌-◌, ◌++◌}
use Rattle.packed_table.specs.Packing.{AreRows, rows_in}
use Rattle.packed_table.proofs.row.unpack_rows.Given as goal

-- the rows so far and those left are all, and those left are whole
abbrev pub invariant-loop : goal.invariant-loop
invariant-loop l = record {
  all : l.rows.items ++ rows_in (l.count - l.counter) l.rest ≡ rows_in l.count l.bytes;
  whole : AreRows (l.count - l.counter) l.rest;
}
