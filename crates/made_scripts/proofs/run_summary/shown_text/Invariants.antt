use Rattle.std.proofs.Common.{◌≡◌, ◌++◌, drop}
use Rattle.made_scripts.specs.Summary.{shown_text}
use Rattle.made_scripts.proofs.run_summary.shown_text.Given as goal

-- what is written, and what is shown of the lines that are left, are the whole
abbrev pub invariant-loop-line : goal.invariant-loop-line
invariant-loop-line l = l.text.items ++ shown_text (drop l.line-index l.lines) ≡ shown_text l.lines
