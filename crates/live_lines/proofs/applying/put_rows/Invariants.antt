use Rattle.std.proofs.Common.{◌≡◌}
use Rattle.live_lines.specs.Applying.{put_rows}
use Rattle.live_lines.proofs.applying.put_rows.Given as goal

-- with the rows that are left there are all
abbrev pub invariant-loop-row : goal.invariant-loop-row
invariant-loop-row l = put_rows l.modules.entries l.row-iterator.rest.items ≡ put_rows l.fn.modules.entries l.fn.rows.items
