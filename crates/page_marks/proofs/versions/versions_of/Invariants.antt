use Rattle.std.proofs.Common.{◌≡◌, take}
use Rattle.core_model.specs.View.{table_of}
use Rattle.page_marks.proofs.versions.versions_of.Given as goal

abbrev pub invariant-loop-place : goal.invariant-loop-place
invariant-loop-place l = l.rows.items ≡ table_of (take l.place l.view)
