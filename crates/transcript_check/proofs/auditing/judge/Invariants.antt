use Rattle.std.proofs.Common.{◌≤◌, ◌+◌, [], length}
use Rattle.play_script.specs.Script.{lines_from}
use Rattle.record_laws.specs.Course.{verdict_of}
use Rattle.transcript_check.specs.Following.{IsOnWay}
use Rattle.transcript_check.proofs.auditing.judge.Given as goal

-- what is left leads to what is said of all; each line that was passed has a byte
abbrev pub invariant-loop-first : goal.invariant-loop-first
invariant-loop-first l = record {
  on : IsOnWay l.course (l.passed + 1) (lines_from [] l.left) (verdict_of l.bytes);
  few : l.passed + length l.left ≤ length l.bytes;
}

abbrev pub decreases-loop-first : goal.decreases-loop-first
decreases-loop-first l = length l.left
