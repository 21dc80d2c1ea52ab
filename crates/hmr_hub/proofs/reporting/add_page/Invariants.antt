use Rattle.std.proofs.Common.{◌≡◌, ◌++◌, map, take}
use Rattle.hmr_hub.specs.Reports.{page_line}
use Rattle.hmr_hub.proofs.reporting.add_page.Given as goal

-- the lines so far are those of the rows so far
abbrev pub invariant-loop-row : goal.invariant-loop-row
invariant-loop-row l = l.lines.items ≡ l.fn.lines.items ++ map page_line (take l.row-index l.rows)
