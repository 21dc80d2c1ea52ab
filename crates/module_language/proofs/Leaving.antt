-- What evaluations and runs leave: bags stay bags, and variables are the declared names.
use Rattle.std.proofs.Common.{◌≡◌, ℕ, true, List, Ok, Option, ap, ◌∙◌}
use Rattle.std.specs.Prelude.{map}
use Rattle.module_tree.specs.Syntax.{HandlerTree, ModuleTree}
use Rattle.module_semantics.specs.Entries.{is_bag, names_of}
use Rattle.module_semantics.specs.Modules.{declared_names, module_run}
use Rattle.module_semantics.specs.ModuleText.{parsing}
use Rattle.module_semantics.proofs.Growing.{body_bag, host_bag, module_bag, module_vars}
use Rattle.core_model.specs.Names.{Name}
use Rattle.core_model.specs.Sources.{Text}
use Rattle.client_model.specs.Language.{Bag, Slots}
use Rattle.module_language.specs.ModuleLanguage.{argument_of, module_in, module_language}

pub evaluated_bag : (n : Name) (t : Text) (imports : Slots) (before : Bag) → is_bag before ≡ true → is_bag (module_language.evaluated n t imports before).bag ≡ true
evaluated_bag n t imports before h = module_bag (module_in (parsing t)) imports before h

pub ran_bag : (code : HandlerTree) (scope : Slots) (arguments : List (Option Slots)) (before : Bag) → is_bag before ≡ true → is_bag (module_language.ran code scope arguments before).bag ≡ true
ran_bag code scope arguments before h = body_bag code scope (map argument_of arguments) before h

pub hosted_bag : (label : Text) (number : ℕ) (before : Bag) → is_bag before ≡ true → is_bag (module_language.hosted label number before).bag ≡ true
hosted_bag label number before h = host_bag label number before h

pub evaluated_vars : (n : Name) (t : Text) (m : ModuleTree) (imports : Slots) (before : Bag) → parsing t ≡ Ok m → names_of (module_language.evaluated n t imports before).vars ≡ declared_names m
evaluated_vars n t m imports before h = ap (λ r. names_of (module_run (module_in r) imports before).vars) h ∙ module_vars m imports before
