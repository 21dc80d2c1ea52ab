use Rattle.std.proofs.Common.{◌≡◌, ◌++◌, take, drop, length}
use Rattle.page_instances.specs.Marks.{is_held_of, is_of, marks_dropped}
use Rattle.page_instances.proofs.marks.drop_marks.Given as goal

-- those so far are dropped, and the others are as they were
abbrev pub invariant-loop-place : goal.invariant-loop-place
invariant-loop-place l = record {
  long : length l.marks.items ≡ length l.fn.marks.items;
  dropped : take l.place l.marks.items ++ marks_dropped (is_held_of (is_of l.those)) (drop l.place l.marks.items) ≡ marks_dropped (is_held_of (is_of l.those)) l.fn.marks.items;
}
