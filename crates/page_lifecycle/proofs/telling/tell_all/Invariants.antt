use Rattle.std.proofs.Common.{◌≡◌, drop, length}
use Rattle.client_model.specs.Runtime.{for_each}
use Rattle.page_state.specs.Standing.{KeepWords}
use Rattle.page_runs.specs.Telling.{Begins}
use Rattle.page_ends.specs.Tellings.{told}
use Rattle.page_lifecycle.proofs.telling.tell_all.Given as goal

-- those so far were told
abbrev pub invariant-loop-row : goal.invariant-loop-row
invariant-loop-row g l = record {
  long : length l.page.instances.items ≡ length l.fn.page.instances.items;
  words : KeepWords (goal.F-post g) l.page;
  begins : Begins (for_each told l.rows) (for_each told (drop l.row-index l.rows)) l.fn.page l.page l.fn.lines.items l.lines.items;
}
