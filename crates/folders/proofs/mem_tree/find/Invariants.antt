use Rattle.std.proofs.Common.{◌≡◌, drop, map}
use Rattle.folders.specs.Files.{text_at}
use Rattle.folders.specs.Memory.{told_file}
use Rattle.folders.proofs.mem_tree.find.Given as goal

abbrev pub invariant-loop-file : goal.invariant-loop-file
invariant-loop-file l = text_at (map told_file l.files) l.path ≡ text_at (map told_file (drop l.file-index l.files)) l.path
