use Rattle.std.proofs.Common.{◌≡◌, ◌≤◌, count_by, take}
use Rattle.made_scripts.specs.Summary.{is_update}
use Rattle.made_scripts.proofs.run_summary.updates.Given as goal

-- those among the lines so far
abbrev pub invariant-loop-line : goal.invariant-loop-line
invariant-loop-line l = (l.updates ≡ count_by is_update (take l.line-index l.lines)) × (l.updates ≤ l.line-index)
