use Rattle.std.proofs.Common.{◌≡◌, ◌++◌, map}
use Rattle.hmr_hub.specs.declared.report_line.ReportLine.TheVariants.{Line}
use Rattle.serve_reports.proofs.log.put_lines.Given as goal

-- the lines so far, and those that are left, are all
abbrev pub invariant-loop-line : goal.invariant-loop-line
invariant-loop-line l =
    l.lines.items ++ map Line l.line-iterator.rest.items ≡ l.fn.lines.items ++ map Line l.fn.told.items
