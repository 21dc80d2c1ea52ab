-- What transforming the text of a module gives is well formed: what it imports and accepts are names, and the
-- place of a fault lies within the text.
use Rattle.std.proofs.Common.{◌≡◌, ℕ, ◌+◌, ◌<◌, ◌≤◌, List, [], ◌∷◌, length, Bool, true, false, cond, refl, arith, Option, Some, None, Result, Ok, Err}
use Rattle.std.specs.Prelude.{◌==◌, ◌||◌, nat_eq, nat_le, nat_lt, not, flat_map, IfOk, bytes_eq, codes}
use Rattle.std.specs.List.{starts_with}
use Rattle.std.proofs.lemmas.Bool.{leb-true}
use Rattle.std.proofs.lemmas.List.Elements.{All-from_recursion}
use Rattle.hmr_types.specs.declared.analysis.Analysis.{Analysis}
use Rattle.hmr_types.specs.declared.analysis.TextFault.{TextFault}
use Rattle.hmr_types.specs.declared.limits.TheConstants.{IMPORTS, LARGEST_NUMBER}
use Rattle.hmr_types.specs.declared.specifier.SpecFault.{SpecFault}
use Rattle.hmr_types.specs.declared.specifier.SpecFault.TheVariants.{Bare}
use Rattle.hmr_types.specs.ModName.{parts, slash}
use Rattle.hmr_types.specs.Results.{◌>>=◌}
use Rattle.hmr_types.specs.Specifier.{Walked, led_to, name_of, resolve, segments, spelled, step, walk, without_last}
use Rattle.hmr_types.proofs.Segments.{are_segments, are_segments-take, segments-is_name, spelled-is_name, step-are_segments}
use Rattle.module_tree.specs.Syntax.{ModuleTree}
use Rattle.module_semantics.specs.declared.scanning.ScanFault.{ScanFault}
use Rattle.module_semantics.specs.declared.scanning.ScanFault.TheVariants as scan
use Rattle.module_semantics.specs.Analysis.{accepted_by, accepted_of, analysed, analysis_of, first_refusal, firsts, if_all_mean, if_few, imported_by, imports_of, meant, name_and, outcome_of, scan_outcome, specifiers_of, transformed}
use Rattle.module_semantics.specs.Entries.{has_name}
use Rattle.module_semantics.specs.ModuleText.{parsing}
use Rattle.core_model.specs.Formed.{IsFormedAnalysis, IsFormedOutcome, IsName}
use Rattle.record_agreement.proofs.Lists.{Each, each_filter}
use Rattle.record_agreement.proofs.Places.{Placed, placed}

-- ---- what a specifier means is a name

walk_by : (r : Walked) (more : List (List ℕ)) → ((next : List (List ℕ)) → r ≡ Ok next → IfOk (walk next more) (λ ss. are_segments ss ≡ true)) → IfOk (r >>= λ next. walk next more) (λ ss. are_segments ss ≡ true)
walk_by (Ok next) more h = h next refl
walk_by (Err fault) more h = tt

walked_is : (from ps : List (List ℕ)) → are_segments from ≡ true → IfOk (walk from ps) (λ ss. are_segments ss ≡ true)
walked_is from [] h = h
walked_is from (part ∷ more) h = walk_by (step from part) more (λ next e. walked_is next more (step-are_segments from part next h e))

some_bytes : (s : List ℕ) (more : List (List ℕ)) → 0 < length (spelled (s ∷ more))
some_bytes s more = omega arith

spelled_if : (b : Bool) (s : List ℕ) (more : List (List ℕ)) → nat_le (length (spelled (s ∷ more))) 255 ≡ b → are_segments (s ∷ more) ≡ true → IfOk (name_of (s ∷ more)) IsName
spelled_if true s more e h = rw e (spelled-is_name (s ∷ more) h (some_bytes s more) (leb-true (length (spelled (s ∷ more))) 255 e))
spelled_if false s more e h = rw e tt

spelled_named : (ss : List (List ℕ)) → are_segments ss ≡ true → IfOk (name_of ss) IsName
spelled_named [] h = tt
spelled_named (s ∷ more) h = spelled_if (nat_le (length (spelled (s ∷ more))) 255) s more refl h

led_by : (r : Walked) → IfOk r (λ ss. are_segments ss ≡ true) → IfOk (r >>= name_of) IsName
led_by (Ok ss) h = spelled_named ss h
led_by (Err fault) h = tt

led_named : (from : List (List ℕ)) (text : List ℕ) → are_segments from ≡ true → IfOk (led_to from text) IsName
led_named from text h = led_by (walk from (parts text)) (walked_is from (parts text) h)

resolved_by : (rooted climbing : Bool) (from : List (List ℕ)) (bs text : List ℕ) → are_segments from ≡ true
    → IfOk (cond rooted (led_to [] bs) (cond climbing (led_to from text) (Err Bare))) IsName
resolved_by true climbing from bs text h = led_named [] bs refl
resolved_by false true from bs text h = led_named from text h
resolved_by false false from bs text h = tt

resolved_named : (base spec : List ℕ) → IsName base → IfOk (resolve base spec) IsName
resolved_named base [] h = tt
resolved_named base (b ∷ bs) h =
    resolved_by (b == slash) (starts_with nat_eq (b ∷ bs) (codes "./") || starts_with nat_eq (b ∷ bs) (codes "../"))
    (without_last (segments base)) bs (b ∷ bs) (are_segments-take _ (segments base) (segments-is_name base h))

-- ---- the analysis of a module

named_and : (r : Result (List ℕ) SpecFault) (names : List (List ℕ)) → IfOk r IsName → Each IsName names → Each IsName (name_and r names)
named_and (Ok name) names g h = (g, h)
named_and (Err fault) names g h = h

meant_named : (base : List ℕ) (specs : List (List ℕ)) → IsName base → Each IsName (meant base specs)
meant_named base [] h = tt
meant_named base (s ∷ ss) h = named_and (resolve base s) (meant base ss) (resolved_named base s h) (meant_named base ss h)

firsts_named : (names : List (List ℕ)) → Each IsName names → Each IsName (firsts names)
firsts_named [] h = tt
firsts_named (n ∷ ns) h = (h.0, each_filter IsName (λ m. not (bytes_eq m n)) (firsts ns) (firsts_named ns h.1))

imports_named : (base : List ℕ) (m : ModuleTree) → IsName base → Each IsName (imports_of base m)
imports_named base m h = firsts_named (meant base (flat_map imported_by m)) (meant_named base (flat_map imported_by m) h)

accepted_named : (base : List ℕ) (m : ModuleTree) → IsName base → Each IsName (accepted_of base m)
accepted_named base m h =
    each_filter IsName (λ n. has_name n (imports_of base m)) (firsts (meant base (flat_map accepted_by m)))
    (firsts_named (meant base (flat_map accepted_by m)) (meant_named base (flat_map accepted_by m) h))

abbrev Formed : Result Analysis ScanFault → Type 0
Formed r = IfOk r IsFormedAnalysis

few_formed : (b : Bool) (a : Analysis) → IsFormedAnalysis a → Formed (cond b (Err scan.TooManyImports) (Ok a))
few_formed true a h = tt
few_formed false a h = h

mean_formed : (o : Option SpecFault) (r : Result Analysis ScanFault) → Formed r → Formed (if_all_mean o r)
mean_formed None r h = h
mean_formed (Some fault) r h = tt

analysed_formed : (base : List ℕ) (m : ModuleTree) → IsName base → Formed (analysed base m)
analysed_formed base m h =
    let a = analysis_of base m in
    mean_formed (first_refusal base (flat_map specifiers_of m)) (if_few a)
    (few_formed (nat_lt IMPORTS (length a.imports)) a (record {
      imports = All-from_recursion IsName (imports_of base m) (imports_named base m h);
      accepted = All-from_recursion IsName (accepted_of base m) (accepted_named base m h);
    }))

-- ---- the outcome of a text

scanned_formed : (r : Result Analysis ScanFault) → Formed r → IsFormedOutcome (scan_outcome r)
scanned_formed (Ok a) h = h
scanned_formed (Err fault) h = record { row = omega arith; place = omega arith }

read_formed : (n : ℕ) (base : List ℕ) (r : Result ModuleTree TextFault) → IsName base → n + 1 ≤ LARGEST_NUMBER → Placed n (outcome_of base r) → IsFormedOutcome (outcome_of base r)
read_formed n base (Ok m) h l p = scanned_formed (analysed base m) (analysed_formed base m h)
read_formed n base (Err fault) h l p = record { row = omega (arith, p.row, l); place = omega (arith, p.place, l) }

-- the outcome of a text of a module of this name is well formed
pub outcome_formed : (name text : List ℕ) → IsName name → length text + 1 ≤ LARGEST_NUMBER → IsFormedOutcome (transformed parsing name text)
outcome_formed name text h l = read_formed (length text) name (parsing text) h l (placed name text)
