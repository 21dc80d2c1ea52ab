use Rattle.std.proofs.Common.{◌≡◌, ◌∙◌, ℕ, Bool, true, false, List, suc, Some, refl}
use Rattle.std.proofs.Math.Path.{subst}
use Rattle.output_lines.specs.declared.out_line.OutLine.{OutLine}
use Rattle.client_model.specs.Applying.{run_own}
use Rattle.module_language.specs.ModuleLanguage.{module_language}
use Rattle.page_state.specs.declared.page.Page.{Page}
use Rattle.page_state.specs.Standing.{Follows}
use Rattle.page_runs.proofs.own.run_own.Invariants.{So_far}
use Rattle.page_runs.proofs.own.run_own.Goals as goal

-- one turn more
next : {F : Type 0} (b : Bool) (place : ℕ) (name : List ℕ) (before now after : Page F) (told tells more : List OutLine) → So_far true place name before now told tells
    → (b ≡ false → Follows (run_own module_language (Some (suc place)) name) now after tells more)
    → (b ≡ true → (z : Page F) (last : List OutLine) → Follows (run_own module_language (Some (suc place)) name) after z more last → Follows (run_own module_language (Some (suc place)) name) now z tells last)
    → So_far b place name before after told more
next true place name before now after told tells more so_far none one = λ z last follows. so_far z last (one refl z last follows)
next false place name before now after told tells more so_far none one = so_far after more (none refl)

pub loop-more-preserved : goal.loop-more-preserved
loop-more-preserved g c = record {
  long = c.in_ok-more.ensures.count ∙ c.loop-more.invariant.long;
  words = c.in_ok-more.ensures.words;
  so_far = next c.in_ok-more.more c.args.place c.args.name.now c.args.page.now c.loop-more.page c.run_next_own.new.page c.args.lines.now.items c.loop-more.lines.items c.run_next_own.new.lines.items
      (subst (λ b. So_far b c.args.place c.args.name.now c.args.page.now c.loop-more.page c.args.lines.now.items c.loop-more.lines.items) c.loop-more-test.true c.loop-more.invariant.so_far)
      c.in_ok-more.ensures.none c.in_ok-more.ensures.one;
}
