use Rattle.std.proofs.Common.{◌≡◌, ◌++◌, take, drop}
use Rattle.live_lines.specs.FaultLines.{first_line}
use Rattle.live_lines.proofs.fault_line.first_line.Given as goal

-- the first line begins with what was looked at
abbrev pub invariant-loop-place : goal.invariant-loop-place
invariant-loop-place l = first_line l.text ≡ take l.place l.text ++ first_line (drop l.place l.text)
