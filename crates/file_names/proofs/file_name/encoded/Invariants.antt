use Rattle.std.proofs.Common.{◌≡◌, ◌++◌, drop}
use Rattle.file_names.specs.FileNames.{encoded}
use Rattle.file_names.proofs.file_name.encoded.Given as goal

abbrev pub invariant-loop-i : goal.invariant-loop-i
invariant-loop-i l = l.text.items ++ encoded (drop l.i l.path) ≡ encoded l.path
