use Rattle.std.proofs.Common.{◌≡◌, take}
use Rattle.serve_reports.specs.Texts.{report_text}
use Rattle.folder_edits.proofs.ending.text_of.Given as goal

-- the lines so far were put
abbrev pub invariant-loop-line : goal.invariant-loop-line
invariant-loop-line l = l.text.items ≡ report_text (take l.line-index l.report)
