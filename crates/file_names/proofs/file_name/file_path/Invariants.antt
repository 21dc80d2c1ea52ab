use Rattle.std.proofs.Common.{◌≡◌, ◌++◌, length}
use Rattle.file_names.specs.FileNames.{decoded}
use Rattle.file_names.proofs.file_name.file_path.Given as goal

abbrev pub invariant-loop-byte : goal.invariant-loop-byte
invariant-loop-byte l = l.path.items ++ decoded l.rest ≡ decoded l.fn.name

abbrev pub decreases-loop-byte : goal.decreases-loop-byte
decreases-loop-byte l = length l.rest
