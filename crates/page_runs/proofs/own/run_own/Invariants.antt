use Rattle.std.proofs.Common.{◌≡◌, ℕ, Bool, true, false, List, suc, Some, length}
use Rattle.std.specs.Prelude.{if◌then◌else◌}
use Rattle.output_lines.specs.declared.out_line.OutLine.{OutLine}
use Rattle.client_model.specs.Applying.{run_own}
use Rattle.module_language.specs.ModuleLanguage.{module_language}
use Rattle.page_state.specs.declared.page.Page.{Page}
use Rattle.page_state.specs.Settling.{own_left}
use Rattle.page_state.specs.Standing.{Follows, KeepWords}
use Rattle.page_runs.proofs.own.run_own.Given as goal

-- what is left to run, and what was run before
abbrev pub So_far : {F : Type 0} → Bool → ℕ → List ℕ → Page F → Page F → List OutLine → List OutLine → Type 0
So_far true place name before now told tells = (z : Page _) (more : List OutLine) → Follows (run_own module_language (Some (suc place)) name) now z tells more → Follows (run_own module_language (Some (suc place)) name) before z told more
So_far false place name before now told tells = Follows (run_own module_language (Some (suc place)) name) before now told tells

abbrev pub invariant-loop-more : goal.invariant-loop-more
invariant-loop-more g l = record {
  long : length l.page.instances.items ≡ length l.fn.page.instances.items;
  words : KeepWords (goal.F-post g) l.page;
  so_far : So_far l.more l.place l.name l.fn.page l.page l.fn.lines.items l.lines.items;
}

abbrev pub decreases-loop-more : goal.decreases-loop-more
decreases-loop-more g l = if l.more then suc (own_left l.page l.place) else 0
