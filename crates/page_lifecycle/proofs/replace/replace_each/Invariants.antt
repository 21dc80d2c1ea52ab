use Rattle.std.proofs.Common.{◌≡◌, ℕ, Some, drop, length}
use Rattle.core_model.specs.Names.{Name}
use Rattle.client_model.specs.Applying.{replace_instance}
use Rattle.module_language.specs.ModuleLanguage.{module_language}
use Rattle.page_plan.specs.Numbers.{new_number}
use Rattle.page_ends.specs.Each.{EachBegins}
use Rattle.page_state.specs.Standing.{KeepWords, name_at}
use Rattle.page_lifecycle.proofs.replace.replace_each.Given as goal

-- those so far are replaced
abbrev pub invariant-loop-place : goal.invariant-loop-place
invariant-loop-place g l = record {
  long : length l.page.instances.items ≡ length l.fn.page.instances.items;
  words : KeepWords (goal.F-post g) l.page;
  names : (k : ℕ) (n : Name) → name_at l.fn.page k ≡ Some n → name_at l.page k ≡ Some n;
  begins : EachBegins (replace_instance module_language (new_number l.numbers)) l.places (drop l.place-index l.places) l.fn.page l.page l.fn.lines.items l.lines.items;
}
