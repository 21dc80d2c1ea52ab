use Rattle.std.proofs.Common.{◌≡◌, drop}
use Rattle.live_lines.specs.FaultLines.{after_lines}
use Rattle.live_lines.proofs.fault_line.after_lines.Given as goal

-- what stands behind the line feeds that are left, of what is left, is what was asked for
abbrev pub invariant-loop-place : goal.invariant-loop-place
invariant-loop-place l = after_lines l.left (drop l.place l.text) ≡ after_lines l.count l.text
