use Rattle.std.proofs.Common.{take, map}
use Rattle.folders.specs.Entries.{IsListed}
use Rattle.folders.specs.Memory.{dir_path_of, file_path_of, told_file}
use Rattle.folders.proofs.mem_tree.entries_of.Given as goal

abbrev pub invariant-loop-file : goal.invariant-loop-file
invariant-loop-file l = IsListed dir_path_of file_path_of (map told_file (take l.file-index l.files)) l.folder l.entries.items
