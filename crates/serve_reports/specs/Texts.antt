-- The bytes of the lines of a report.
use Rattle.std.specs.Prelude.{ℕ, List, ◌++◌, codes, decimal}
use Rattle.std.specs.List.{flat_map}
use Rattle.play_text.specs.Lines.{line_text}
use Rattle.hmr_hub.specs.declared.report_line.ReportLine.{ReportLine}
use Rattle.hmr_hub.specs.declared.report_line.ReportLine.TheVariants.{Steps, Line, Client}

-- a line of a report with its LF
abbrev pub report_line : ReportLine → List ℕ
report_line (Steps count) = codes "steps " ++ decimal count ++ codes "\n"
report_line (Line line) = line_text line
report_line (Client client) = codes "client " ++ decimal client ++ codes "\n"

-- the text of a report
abbrev pub report_text : List ReportLine → List ℕ
report_text lines = flat_map report_line lines
