-- Texts of the module language that use data in handlers alone don't hang on their bags.
use Rattle.std.proofs.Common.{◌≡◌, refl, ap, sym, ◌∙◌}
use Rattle.std.specs.Prelude.{true, [], Result, Ok, Err}
use Rattle.module_tree.specs.Syntax.{ModuleTree}
use Rattle.hmr_types.specs.declared.analysis.TextFault.{TextFault}
use Rattle.module_semantics.specs.ModuleText.{parsing}
use Rattle.core_model.specs.Names.{Name}
use Rattle.core_model.specs.Sources.{Text}
use Rattle.core_model.specs.FreshLoad.{Served}
use Rattle.client_model.specs.Language.{Slots, Bag, Evaluated}
use Rattle.module_language.specs.Bagless.{is_bagless_module}
use Rattle.module_language.specs.ModuleLanguage.{module_language, module_in, evaluation_of}
use Rattle.module_language.proofs.Bagless.{bagless_evaluations}
use Rattle.client_model.specs.Runtime.{Runtime}
use Rattle.core_model.specs.Sources.{Serving}
use Rattle.journal_laws.specs.FreshValues.{IsWithoutBag, AreWithoutBag, AreLiveWithoutBag}
use Rattle.journal_laws.specs.Texts.{UseDataInHandlersAlone, UseLiveDataInHandlersAlone}

-- but for the bag that is left, it is the evaluation with the empty bag
same_evaluation : (n : Name) (t : Text) (r : Result ModuleTree TextFault) → parsing t ≡ r → ((m : ModuleTree) → parsing t ≡ Ok m → is_bagless_module m ≡ true) → (slots : Slots) (bag : Bag) → module_language.evaluated n t slots bag ≡ record (module_language.evaluated n t slots []) { bag = bag }
same_evaluation n t (Ok m) e h slots bag = bagless_evaluations n t m slots bag e (h m e)
same_evaluation n t (Err fault) e h slots bag = ap (λ r. evaluation_of n (module_in r) slots bag) e ∙ ap (λ r. record (evaluation_of n (module_in r) slots []) { bag = bag }) (sym e)

is_without_bag : (n : Name) (s : Serving) → ((m : ModuleTree) → parsing s.text ≡ Ok m → is_bagless_module m ≡ true) → IsWithoutBag module_language n s
is_without_bag n s h = record {
  vars = λ slots bag. ap (λ (x : Evaluated). x.vars) (same_evaluation n s.text (parsing s.text) refl h slots bag);
  fault = λ slots bag. ap (λ (x : Evaluated). x.fault) (same_evaluation n s.text (parsing s.text) refl h slots bag);
}

pub are_without_bag : (served : Served) → UseDataInHandlersAlone served → AreWithoutBag module_language served
are_without_bag served h n s e = is_without_bag n s (λ m p. h n s m e p)

pub are_live_without_bag : (served : Served) (r : Runtime) → UseLiveDataInHandlersAlone served r → AreLiveWithoutBag module_language served r
are_live_without_bag served r h n s live e = is_without_bag n s (λ m p. h n s m live e p)
