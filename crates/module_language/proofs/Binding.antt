-- Each binding of a module's text is from one of the module's imports.
use Rattle.std.proofs.Common.{◌≡◌, Bool, true, false, if◌then◌else◌, List, [], ◌∷◌, ◌++◌, Result, Ok, Err, Option, Some, None, refl, ap, sym, ◌∙◌, subst}
use Rattle.std.specs.Prelude.{◌||◌, bytes_eq, filter, flat_map, map, nat_lt, not, length}
use Rattle.std.specs.List.{list_all}
use Rattle.std.proofs.lemmas.Cmp.{nat_list_eq_equiv}
use Rattle.std.proofs.lemmas.List.Folds.{list_all-append}
use Rattle.hmr_types.specs.Specifier.{resolve}
use Rattle.module_tree.specs.Syntax.{ModuleTree}
use Rattle.hmr_types.specs.declared.analysis.Analysis.{Analysis}
use Rattle.hmr_types.specs.declared.analysis.Outcome.{Outcome}
use Rattle.hmr_types.specs.declared.analysis.Outcome.TheVariants.{Good, Bad}
use Rattle.hmr_types.specs.declared.analysis.TextFault.{TextFault}
use Rattle.hmr_types.specs.declared.specifier.SpecFault.{SpecFault}
use Rattle.module_tree.specs.declared.tree.ImportName.{ImportName}
use Rattle.module_semantics.specs.declared.scanning.ScanFault.TheVariants as scan
use Rattle.module_semantics.specs.Analysis.{analysis_of, first_refusal, firsts, if_all_mean, if_few, imported_by, imports_of, meant, name_and, outcome_of, scan_outcome, specifiers_of}
use Rattle.module_semantics.specs.ModuleText.{parsing}
use Rattle.core_model.specs.Names.{Name, has, same_name}
use Rattle.core_model.proofs.Naming.{and_both, both_true, filtered_in, or_left, or_right, true_same}
use Rattle.client_model.specs.Language.{BindsImports, Binding}
use Rattle.module_language.specs.ModuleLanguage.{binding_to, bound_by, bound_in, module_in, module_language, names_in}

-- Names that come once each have every name.

first_step : (n m : Name) (ns : List Name) → (has ns m ≡ true → has (firsts ns) m ≡ true) → (b : Bool) → same_name n m ≡ b → (b || has ns m) ≡ true → has (firsts (n ∷ ns)) m ≡ true
first_step n m ns more true is h = or_left (same_name n m) (has (filter (λ k. not (bytes_eq k n)) (firsts ns)) m) is
first_step n m ns more false is h = or_right (same_name n m) (has (filter (λ k. not (bytes_eq k n)) (firsts ns)) m) (filtered_in (λ k. not (bytes_eq k n)) (firsts ns) m (ap not (nat_list_eq_equiv.symm m n ∙ is)) (more h))

first_has : (ns : List Name) (m : Name) → has ns m ≡ true → has (firsts ns) m ≡ true
first_has [] m h = h
first_has (n ∷ ns) m h = first_step n m ns (first_has ns m) (same_name n m) refl h

all_by : (test : Name → Bool) (ns : List Name) → ((m : Name) → has ns m ≡ true → test m ≡ true) → list_all test ns ≡ true
all_by test [] f = refl
all_by test (n ∷ ns) f = and_both (test n) (list_all test ns) (f n (or_left (same_name n n) (has ns n) (true_same n n refl))) (all_by test ns (λ m h. f m (or_right (same_name n m) (has ns m) h)))

all_firsts : (ns : List Name) → list_all (has (firsts ns)) ns ≡ true
all_firsts ns = all_by (has (firsts ns)) ns (first_has ns)

-- What specifiers mean, one list after another.

name_and_append : (r : Result Name SpecFault) (ns ms : List Name) → name_and r (ns ++ ms) ≡ name_and r ns ++ ms
name_and_append (Ok n) ns ms = refl
name_and_append (Err fault) ns ms = refl

meant_append : (base : Name) (ss ts : List Name) → meant base (ss ++ ts) ≡ meant base ss ++ meant base ts
meant_append base [] ts = refl
meant_append base (s ∷ ss) ts = ap (name_and (resolve base s)) (meant_append base ss ts) ∙ name_and_append (resolve base s) (meant base ss) (meant base ts)

-- the binding is from one of these names
abbrev is_from : List Name → Binding → Bool
is_from names b = has names b.dependency

both_lists : (names : List Name) (bs cs : List Binding) → list_all (is_from names) bs ≡ true → list_all (is_from names) cs ≡ true → list_all (is_from names) (bs ++ cs) ≡ true
both_lists names bs cs h k = list_all-append (is_from names) bs cs ∙ and_both (list_all (is_from names) bs) (list_all (is_from names) cs) h k

from_one : (names : List Name) (dependency : Name) (imported : List ImportName) → has names dependency ≡ true → list_all (is_from names) (map (binding_to dependency) imported) ≡ true
from_one names dependency [] h = refl
from_one names dependency (n ∷ imported) h = and_both (has names dependency) (list_all (is_from names) (map (binding_to dependency) imported)) h (from_one names dependency imported h)

from_each : (names dependencies : List Name) (imported : List ImportName) → list_all (has names) dependencies ≡ true → list_all (is_from names) (flat_map (λ dependency. map (binding_to dependency) imported) dependencies) ≡ true
from_each names [] imported h = refl
from_each names (dependency ∷ more) imported h =
    let each = both_true (has names dependency) (list_all (has names) more) h in
    both_lists names (map (binding_to dependency) imported) (flat_map (λ d. map (binding_to d) imported) more) (from_one names dependency imported each.0) (from_each names more imported each.1)

from_items : (names : List Name) (base : Name) (m : ModuleTree) → list_all (has names) (meant base (flat_map imported_by m)) ≡ true → list_all (is_from names) (bound_in base m) ≡ true
from_items names base [] h = refl
from_items names base (i ∷ m) h =
    let here : List Name = meant base (imported_by i) in
    let later : List Name = meant base (flat_map imported_by m) in
    let apart : list_all (has names) (here ++ later) ≡ true = ap (list_all (has names)) (sym (meant_append base (imported_by i) (flat_map imported_by m))) ∙ h in
    let each = both_true (list_all (has names) here) (list_all (has names) later) (sym (list_all-append (has names) here later) ∙ apart) in
    both_lists names (bound_by base i) (bound_in base m) (from_each names here (names_in i) each.0) (from_items names base m each.1)

from_imports : (base : Name) (m : ModuleTree) → list_all (is_from (imports_of base m)) (bound_in base m) ≡ true
from_imports base m = from_items (imports_of base m) base m (all_firsts (meant base (flat_map imported_by m)))

-- A good analysis is the module's.

abbrev analysis_or : Analysis → Outcome → Analysis
analysis_or other (Good a) = a
analysis_or other (Bad fault) = other

few_is : (base : Name) (m : ModuleTree) (a : Analysis) (b : Bool) → scan_outcome (if b then Err scan.TooManyImports else Ok (analysis_of base m)) ≡ Good a → analysis_of base m ≡ a
few_is base m a true h = absurd (cc)
few_is base m a false h = ap (analysis_or a) h

analysis_is : (base : Name) (m : ModuleTree) (a : Analysis) (o : Option SpecFault) → scan_outcome (if_all_mean o (if_few (analysis_of base m))) ≡ Good a → analysis_of base m ≡ a
analysis_is base m a None h = few_is base m a (nat_lt 256 (length (imports_of base m))) h
analysis_is base m a (Some fault) h = absurd (cc)

in_reading : (base : Name) (r : Result ModuleTree TextFault) (a : Analysis) → outcome_of base r ≡ Good a → list_all (is_from a.imports) (bound_in base (module_in r)) ≡ true
in_reading base (Ok m) a h = subst (λ k. list_all (is_from k.imports) (bound_in base m) ≡ true) (analysis_is base m a (first_refusal base (flat_map specifiers_of m)) h) (from_imports base m)
in_reading base (Err fault) a h = refl

pub module_texts_bind : BindsImports module_language
module_texts_bind n t a h = in_reading n (parsing t) a h
