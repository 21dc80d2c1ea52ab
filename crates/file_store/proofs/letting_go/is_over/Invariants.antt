use Rattle.std.proofs.Common.{◌≡◌}
use Rattle.file_store.specs.LettingGo.{is_over}
use Rattle.file_store.proofs.letting_go.is_over.Given as goal

-- what is left of the bytes is too little for the files that are left where all are too many
abbrev pub invariant-loop-version : goal.invariant-loop-version
invariant-loop-version g l = is_over l.left l._version-iterator ≡ is_over l.most l.files.entries
