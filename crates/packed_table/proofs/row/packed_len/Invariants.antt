use Rattle.std.proofs.Common.{◌≡◌, ◌+◌, ◌-◌, ◌^◌, take, length, min}
use Rattle.std.specs.List.{sum_by}
use Rattle.packed_table.proofs.row.packed_len.Given as goal

-- the bytes of the rows so far
abbrev pub invariant-loop-row : goal.invariant-loop-row
invariant-loop-row l = l.len ≡ min (sum_by (λ row. 9 + length row.0) (take l.row-index l.rows)) (2 ^ 64 - 1)
