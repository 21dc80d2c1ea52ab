use Rattle.std.proofs.Common.{◌≡◌, ◌++◌, map}
use Rattle.hmr_hub.specs.declared.report_line.ReportLine.TheVariants.{Line}
use Rattle.hmr_hub.proofs.reporting.add_lines.Given as goal

-- the lines so far are those that came so far
abbrev pub invariant-loop-line : goal.invariant-loop-line
invariant-loop-line l = l.lines.items ≡ l.fn.lines.items ++ map Line l.yielded
