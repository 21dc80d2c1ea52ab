use Rattle.std.proofs.Common.{◌≡◌, length}
use Rattle.page_state.specs.Standing.{KeepWords}
use Rattle.page_runs.specs.Telling.{Begins, deps_at, run_listing}
use Rattle.page_runs.proofs.callbacks.run_listing.Given as goal

-- what was passed, and what is left
abbrev pub invariant-loop-turn : goal.invariant-loop-turn
invariant-loop-turn g l = record {
  long : length l.page.instances.items ≡ length l.fn.page.instances.items;
  words : KeepWords (goal.F-post g) l.page;
  deps : deps_at l.page l.place ≡ deps_at l.fn.page l.place;
  begins : Begins (run_listing l.name l.given 0 l.place) (run_listing l.name l.given l.turn l.place) l.fn.page l.page l.fn.lines.items l.lines.items;
}
