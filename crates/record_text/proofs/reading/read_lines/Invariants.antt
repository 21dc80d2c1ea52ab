use Rattle.std.proofs.Common.{◌≡◌, ◌≤◌, ◌+◌, [], length}
use Rattle.play_script.specs.Script.{lines_from}
use Rattle.record_text.specs.Reading.{all_read, beginning}
use Rattle.record_text.proofs.reading.read_lines.Given as goal

-- what is left goes on to what stands after the whole text; each line that was passed has a byte
abbrev pub invariant-loop-first : goal.invariant-loop-first
invariant-loop-first l = record {
  same : all_read l.draft (l.passed + 1) (lines_from [] l.left) ≡ all_read beginning 1 (lines_from [] l.text);
  few : l.passed + length l.left ≤ length l.text;
}

abbrev pub decreases-loop-first : goal.decreases-loop-first
decreases-loop-first l = length l.left
