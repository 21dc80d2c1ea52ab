use Rattle.std.proofs.Common.{◌≡◌, ◌++◌, map}
use Rattle.std.specs.List.{flat_map}
use Rattle.hmr_hub.specs.declared.report_line.ReportLine.TheVariants.{Line}
use Rattle.serve_reports.specs.Logs.{log_lines}
use Rattle.serve_reports.proofs.winding.with_each.Given as goal

-- the lines so far, and those of the logs that are left, are all
abbrev pub invariant-loop-log : goal.invariant-loop-log
invariant-loop-log l =
    l.report.items ++ map Line (flat_map log_lines l.log-iterator.rest.items)
    ≡ l.fn.report.items ++ map Line (flat_map log_lines l.fn.logs.items)
