use Rattle.std.proofs.Common.{◌≡◌, List, drop, length}
use Rattle.output_lines.specs.declared.out_line.OutLine.{OutLine}
use Rattle.client_model.specs.Instance.{is_held}
use Rattle.client_model.specs.Running.{drop_each}
use Rattle.page_ends.specs.Each.{EachBegins}
use Rattle.page_state.specs.Standing.{KeepWords}
use Rattle.page_ends.proofs.drops.drop_all.Given as goal

-- those so far hold nothing
abbrev pub invariant-loop-place : goal.invariant-loop-place
invariant-loop-place g l = record {
  long : length l.page.instances.items ≡ length l.fn.page.instances.items;
  words : KeepWords (goal.F-post g) l.fn.page → KeepWords (goal.F-post g) l.page;
  begins : (lines : List OutLine) → EachBegins (λ i r. drop_each is_held i.number r) l.places (drop l.place-index l.places) l.fn.page l.page lines lines;
}
