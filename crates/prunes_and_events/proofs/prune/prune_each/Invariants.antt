use Rattle.std.proofs.Common.{◌≡◌, drop, length}
use Rattle.client_model.specs.Applying.{prune_instance}
use Rattle.module_language.specs.ModuleLanguage.{module_language}
use Rattle.page_ends.specs.Each.{EachBegins}
use Rattle.page_state.specs.Standing.{KeepWords}
use Rattle.prunes_and_events.proofs.prune.prune_each.Given as goal

-- those so far are pruned
abbrev pub invariant-loop-place : goal.invariant-loop-place
invariant-loop-place g l = record {
  long : length l.page.instances.items ≡ length l.fn.page.instances.items;
  words : KeepWords (goal.F-post g) l.page;
  begins : EachBegins (prune_instance module_language) l.places (drop l.place-index l.places) l.fn.page l.page l.fn.lines.items l.lines.items;
}
