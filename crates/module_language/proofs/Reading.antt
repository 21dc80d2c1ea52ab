-- What the module language tells of a text, by what the text reads as.
use Rattle.std.proofs.Common.{◌≡◌, ap}
use Rattle.std.specs.Prelude.{Result}
use Rattle.module_tree.specs.Syntax.{ModuleTree}
use Rattle.hmr_types.specs.declared.analysis.TextFault.{TextFault}
use Rattle.module_semantics.specs.Analysis.{outcome_of}
use Rattle.module_semantics.specs.ModuleText.{parsing}
use Rattle.core_model.specs.Names.{Name}
use Rattle.core_model.specs.Sources.{Text}
use Rattle.client_model.specs.Language.{Bag, Slots}
use Rattle.module_language.specs.ModuleLanguage.{bound_in, evaluation_of, module_in, module_language}

-- where a text reads so, it is transformed so
pub transformed_as : (n : Name) (t : Text) (r : Result ModuleTree TextFault) → parsing t ≡ r → module_language.transformed n t ≡ outcome_of n r
transformed_as n t r h = ap (outcome_of n) h

-- where a text reads so, it binds this
pub bindings_as : (n : Name) (t : Text) (r : Result ModuleTree TextFault) → parsing t ≡ r → module_language.bindings n t ≡ bound_in n (module_in r)
bindings_as n t r h = ap (λ r. bound_in n (module_in r)) h

-- where a text reads so, it is evaluated so
pub evaluated_as : (n : Name) (t : Text) (imports : Slots) (before : Bag) (r : Result ModuleTree TextFault) → parsing t ≡ r → module_language.evaluated n t imports before ≡ evaluation_of n (module_in r) imports before
evaluated_as n t imports before r h = ap (λ r. evaluation_of n (module_in r) imports before) h
