use Rattle.std.proofs.Common.{◌≡◌, ◌++◌, drop}
use Rattle.made_scripts.specs.Summary.{table_text}
use Rattle.made_scripts.proofs.run_summary.table_text.Given as goal

-- what is written, and the table of the lines that are left, are the whole
abbrev pub invariant-loop-line : goal.invariant-loop-line
invariant-loop-line l = l.text.items ++ table_text (drop l.line-index l.lines) ≡ table_text l.lines
