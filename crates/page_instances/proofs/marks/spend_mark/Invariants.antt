use Rattle.std.proofs.Common.{◌≡◌, ◌++◌, take, drop}
use Rattle.output_lines.specs.declared.words.HandlerEnd.TheVariants.{Spent}
use Rattle.page_instances.specs.Marks.{is_held_of, is_kind, first_ended}
use Rattle.page_instances.proofs.marks.spend_mark.Given as goal

-- the first isn't among those that were looked at
abbrev pub invariant-loop-place : goal.invariant-loop-place
invariant-loop-place l = record {
  same : l.marks.items ≡ l.fn.marks.items;
  first : take l.place l.marks.items ++ first_ended (is_held_of (is_kind l.kind)) Spent (drop l.place l.marks.items) ≡ first_ended (is_held_of (is_kind l.kind)) Spent l.marks.items;
}
