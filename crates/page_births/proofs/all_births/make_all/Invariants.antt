use Rattle.std.proofs.Common.{◌≡◌, ◌+◌, length}
use Rattle.std.specs.Vec.Iter.{into_iter_items, into_iter_len}
use Rattle.page_births.specs.EachBirth.{BirthsBegin}
use Rattle.page_state.specs.Standing.{KeepWords}
use Rattle.page_births.proofs.all_births.make_all.Given as goal

-- those so far are made
abbrev pub invariant-loop-birth : goal.invariant-loop-birth
invariant-loop-birth g l = record {
  left : into_iter_len l.rest ≡ length (into_iter_items l.rest);
  count : length l.page.instances.items + length (into_iter_items l.rest) ≡ length l.fn.page.instances.items + length l.fn.births.items;
  words : KeepWords (goal.F-post g) l.page;
  begins : BirthsBegin l.fn.births.items (into_iter_items l.rest) l.fn.page l.page l.fn.lines.items l.lines.items;
}

abbrev pub decreases-loop-birth : goal.decreases-loop-birth
decreases-loop-birth g l = into_iter_len l.rest
