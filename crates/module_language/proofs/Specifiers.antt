-- In a text with a good outcome each specifier means a module.
use Rattle.std.proofs.Common.{◌≡◌, List, [], ◌∷◌, ◌++◌, Result, Ok, Err, Option, Some, None, refl, ap, sym, ◌∙◌, map}
use Rattle.std.specs.Prelude.{flat_map}
use Rattle.hmr_types.specs.Specifier.{resolve}
use Rattle.module_tree.specs.Syntax.{ModuleTree}
use Rattle.hmr_types.specs.declared.analysis.Analysis.{Analysis}
use Rattle.hmr_types.specs.declared.analysis.Outcome.TheVariants.{Good}
use Rattle.hmr_types.specs.declared.specifier.SpecFault.{SpecFault}
use Rattle.module_semantics.specs.Analysis.{accepted_by, analysis_of, first_refusal, if_all_mean, if_few, imported_by, meant, name_and, outcome_of, refusal_or, scan_outcome, specifiers_of}
use Rattle.module_semantics.specs.ModuleText.{parsing}
use Rattle.core_model.specs.Names.{Name}
use Rattle.core_model.specs.Sources.{Text}
use Rattle.module_language.specs.Meaning.{AllMean, ItemsMean}
use Rattle.module_language.specs.ModuleLanguage.{module_language}

-- Specifiers none of which is refused.

mean_step : (base : Name) (ss : List Name) (r : Result Name SpecFault) → (first_refusal base ss ≡ None → AllMean base ss) → refusal_or r (first_refusal base ss) ≡ None → map Ok (name_and r (meant base ss)) ≡ r ∷ map (resolve base) ss
mean_step base ss (Ok n) rest h = ap (λ rs. Ok n ∷ rs) (rest h)
mean_step base ss (Err fault) rest h = absurd (cc)

all_mean : (base : Name) (ss : List Name) → first_refusal base ss ≡ None → AllMean base ss
all_mean base [] h = refl
all_mean base (s ∷ ss) h = mean_step base ss (resolve base s) (all_mean base ss) h

apart_step : (base : Name) (ss ts : List Name) (r : Result Name SpecFault) → (first_refusal base (ss ++ ts) ≡ None → (first_refusal base ss ≡ None) × (first_refusal base ts ≡ None)) → refusal_or r (first_refusal base (ss ++ ts)) ≡ None → (refusal_or r (first_refusal base ss) ≡ None) × (first_refusal base ts ≡ None)
apart_step base ss ts (Ok n) rest h = rest h
apart_step base ss ts (Err fault) rest h = absurd (cc)

-- of two lists, none of the one and none of the other
apart : (base : Name) (ss ts : List Name) → first_refusal base (ss ++ ts) ≡ None → (first_refusal base ss ≡ None) × (first_refusal base ts ≡ None)
apart base [] ts h = (refl, h)
apart base (s ∷ ss) ts h = apart_step base ss ts (resolve base s) (apart base ss ts) h

items_mean : (base : Name) (m : ModuleTree) → first_refusal base (flat_map specifiers_of m) ≡ None → ItemsMean base m
items_mean base [] h = tt
items_mean base (i ∷ m) h =
    let here = apart base (specifiers_of i) (flat_map specifiers_of m) h in
    let each = apart base (imported_by i) (accepted_by i) here.0 in
    ((all_mean base (imported_by i) each.0, all_mean base (accepted_by i) each.1), items_mean base m here.1)

-- A good outcome.

none_refused : (base : Name) (m : ModuleTree) (a : Analysis) (o : Option SpecFault) → scan_outcome (if_all_mean o (if_few (analysis_of base m))) ≡ Good a → o ≡ None
none_refused base m a None h = refl
none_refused base m a (Some fault) h = absurd (cc)

pub good_items_mean : (n : Name) (t : Text) (m : ModuleTree) (a : Analysis) → parsing t ≡ Ok m → module_language.transformed n t ≡ Good a → ItemsMean n m
good_items_mean n t m a reads good = items_mean n m (none_refused n m a (first_refusal n (flat_map specifiers_of m)) (ap (outcome_of n) (sym reads) ∙ good))
