-- Want of memory is no answer of the definitions.
use Rattle.std.proofs.Common.{◌≢◌, ℕ, Bool, true, false, if◌then◌else◌, List, [], ◌∷◌, ◌++◌, length, Result, Ok, Err, Option, Some, None}
use Rattle.std.specs.Prelude.{nat_le, nat_lt, flat_map}
use Rattle.hmr_types.specs.ModName.{parts, is_text, here, above, is_segment}
use Rattle.hmr_types.specs.Results.{◌>>=◌}
use Rattle.hmr_types.specs.Specifier.{resolve, led_to, walk, step, climb, name_of, spelled, without_last, segments}
use Rattle.module_tree.specs.Syntax.{ModuleTree}
use Rattle.hmr_types.specs.declared.analysis.Analysis.{Analysis}
use Rattle.hmr_types.specs.declared.specifier.SpecFault.{SpecFault}
use Rattle.hmr_types.specs.declared.specifier.SpecFault.TheVariants.{Bare, TooLong, BadSegment, NoMemory}
use Rattle.module_semantics.specs.declared.scanning.ScanFault.{ScanFault}
use Rattle.module_semantics.specs.declared.scanning.ScanFault.TheVariants as scan
use Rattle.module_semantics.specs.Analysis.{analysed, analysis_of, if_all_mean, if_few, first_refusal, refusal_or, specifiers_of}

-- an answer that isn't out of memory
abbrev IsMeant : {A : Type 0} → Result A SpecFault → Type 0
IsMeant r = r ≢ Err NoMemory

meant_then : {A B : Type 0} (r : Result A SpecFault) (f : A → Result B SpecFault) → IsMeant r → ((x : A) → IsMeant (f x)) → IsMeant (r >>= f)
meant_then (Ok x) f h each = each x
meant_then (Err fault) f h each = λ is. h (cc)

choice_meant : {A : Type 0} (b : Bool) (r q : Result A SpecFault) → IsMeant r → IsMeant q → IsMeant (if b then r else q)
choice_meant true r q h i = h
choice_meant false r q h i = i

climb_meant : (from : List (List ℕ)) → IsMeant (climb from)
climb_meant [] = λ is. cc
climb_meant (s ∷ more) = λ is. cc

step_meant : (from : List (List ℕ)) (part : List ℕ) → IsMeant (step from part)
step_meant from part =
    choice_meant (is_text here part) (Ok from) (if is_text above part then climb from else if is_segment part then Ok (from ++ part ∷ []) else Err BadSegment) (λ is. cc)
    (choice_meant (is_text above part) (climb from) (if is_segment part then Ok (from ++ part ∷ []) else Err BadSegment) (climb_meant from)
    (choice_meant (is_segment part) (Ok (from ++ part ∷ [])) (Err BadSegment) (λ is. cc) (λ is. cc)))

walk_meant : (from parts : List (List ℕ)) → IsMeant (walk from parts)
walk_meant from [] = λ is. cc
walk_meant from (part ∷ more) = meant_then (step from part) (λ next. walk next more) (step_meant from part) (λ next. walk_meant next more)

name_meant : (s : List (List ℕ)) → IsMeant (name_of s)
name_meant [] = λ is. cc
name_meant (s ∷ more) = choice_meant (nat_le (length (spelled (s ∷ more))) 255) (Ok (spelled (s ∷ more))) (Err TooLong) (λ is. cc) (λ is. cc)

led_meant : (from : List (List ℕ)) (text : List ℕ) → IsMeant (led_to from text)
led_meant from text = meant_then (walk from (parts text)) name_of (walk_meant from (parts text)) name_meant

pub resolve_meant : (base spec : List ℕ) → resolve base spec ≢ Err NoMemory
resolve_meant base [] = λ is. cc
resolve_meant base (b ∷ bs) = choice_meant _ (led_to [] bs) _ (led_meant [] bs) (choice_meant _ (led_to (without_last (segments base)) (b ∷ bs)) (Err Bare) (led_meant (without_last (segments base)) (b ∷ bs)) (λ is. cc))

or_meant : (r : Result (List ℕ) SpecFault) (later : Option SpecFault) → r ≢ Err NoMemory → later ≢ Some NoMemory → refusal_or r later ≢ Some NoMemory
or_meant (Ok name) later h i = i
or_meant (Err fault) later h i = λ is. h (cc)

refusal_meant : (base : List ℕ) (ss : List (List ℕ)) → first_refusal base ss ≢ Some NoMemory
refusal_meant base [] = λ is. cc
refusal_meant base (s ∷ ss) = or_meant (resolve base s) (first_refusal base ss) (resolve_meant base s) (refusal_meant base ss)

few_meant : (a : Analysis) (fault : ScanFault) → fault ≢ scan.TooManyImports → if_few a ≢ Err fault
few_meant a fault other = by (nat_lt 256 (length a.imports)) where
  by : (b : Bool) → ◌≢◌ {A = Result Analysis ScanFault} (if b then Err scan.TooManyImports else Ok a) (Err fault)
  by true = λ is. other (cc)
  by false = λ is. cc

mean_spec : (a : Analysis) (o : Option SpecFault) → o ≢ Some NoMemory → if_all_mean o (if_few a) ≢ Err (scan.Spec NoMemory)
mean_spec a None h = few_meant a (scan.Spec NoMemory) (λ is. cc)
mean_spec a (Some fault) h = λ is. h (cc)

mean_scan : (a : Analysis) (o : Option SpecFault) → if_all_mean o (if_few a) ≢ Err scan.NoMemory
mean_scan a None = few_meant a scan.NoMemory (λ is. cc)
mean_scan a (Some fault) = λ is. cc

pub analysed_spec : (base : List ℕ) (m : ModuleTree) → analysed base m ≢ Err (scan.Spec NoMemory)
analysed_spec base m = mean_spec (analysis_of base m) (first_refusal base (flat_map specifiers_of m)) (refusal_meant base (flat_map specifiers_of m))

pub analysed_scan : (base : List ℕ) (m : ModuleTree) → analysed base m ≢ Err scan.NoMemory
analysed_scan base m = mean_scan (analysis_of base m) (first_refusal base (flat_map specifiers_of m))
