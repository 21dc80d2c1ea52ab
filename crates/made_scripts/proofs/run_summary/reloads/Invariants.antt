use Rattle.std.proofs.Common.{◌≡◌, ◌≤◌, count_by, take}
use Rattle.made_scripts.specs.Summary.{is_reload}
use Rattle.made_scripts.proofs.run_summary.reloads.Given as goal

-- those among the lines so far
abbrev pub invariant-loop-line : goal.invariant-loop-line
invariant-loop-line l = (l.reloads ≡ count_by is_reload (take l.line-index l.lines)) × (l.reloads ≤ l.line-index)
