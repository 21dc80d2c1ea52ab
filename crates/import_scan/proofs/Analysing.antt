-- What the specifiers mean decides the analysis.
use Rattle.std.proofs.Common.{◌≡◌, ◌≤◌, ◌<◌, ℕ, List, length, take, refl, ap, sym, ◌∙◌, arith, Option, Some, None, Ok, Err}
use Rattle.std.specs.Prelude.{flat_map, if◌then◌else◌}
use Rattle.std.proofs.lemmas.Bool.{le-ltb, lt-ltb}
use Rattle.std.proofs.lemmas.List.{length-take, take_all}
use Rattle.hmr_types.specs.Specifier as specifier
use Rattle.module_tree.specs.Syntax.{ModuleTree}
use Rattle.hmr_types.specs.declared.analysis.Analysis.{Analysis}
use Rattle.hmr_types.specs.declared.specifier.SpecFault.{SpecFault}
use Rattle.hmr_types.specs.declared.specifier.SpecFault.TheVariants as specs
use Rattle.module_semantics.specs.Analysis.{accepted_by, analysed, analysis_of, first_refusal, if_all_mean, if_few, imports_of, meant, specifiers_of}
use Rattle.module_semantics.specs.declared.scanning.ScanFault.TheVariants as scan
use Rattle.import_scan.specs.Analysing.{analysis_with, scan_fault}
use Rattle.import_scan.specs.Fault.{Refuses}
use Rattle.import_scan.specs.Scanning.{Meant, meant_in, unless}

-- what was read of a module whose specifiers all mean modules
abbrev whole : List ℕ → ModuleTree → Meant
whole base m = record { imported = take 257 (imports_of base m); accepted = meant base (flat_map accepted_by m) }

none_refused : (o : Option SpecFault) (all read : Meant) → unless o all ≡ Ok read → (o ≡ None) × (all ≡ read)
none_refused None all read h = (refl, cc)
none_refused (Some fault) all read h = absurd (cc)

one_refused : (o : Option SpecFault) (all : Meant) (fault : SpecFault) → unless o all ≡ Err fault → o ≡ Some fault
one_refused None all fault h = absurd (cc)
one_refused (Some f) all fault h = let same : f ≡ fault = cc in ap Some same

first_fault : (base : List ℕ) (m : ModuleTree) (fault : SpecFault) → meant_in base m ≡ Err fault → analysed base m ≡ Err (scan.Spec fault)
first_fault base m fault h =
    ap (λ o. if_all_mean o (if_few (analysis_of base m))) (one_refused (first_refusal base (flat_map specifiers_of m)) (whole base m) fault h)

-- a specifier that is refused is the fault
pub refused : (base : List ℕ) (m : ModuleTree) (fault : SpecFault) → specifier.Refuses fault (meant_in base m) → Refuses (scan_fault fault) (analysed base m)
refused base m specs.Bare h = first_fault base m specs.Bare h
refused base m specs.Climbs h = first_fault base m specs.Climbs h
refused base m specs.Empty h = first_fault base m specs.Empty h
refused base m specs.TooLong h = first_fault base m specs.TooLong h
refused base m specs.BadSegment h = first_fault base m specs.BadSegment h
refused base m specs.NoMemory h = tt

all_mean : (base : List ℕ) (m : ModuleTree) (read : Meant) → meant_in base m ≡ Ok read → (analysed base m ≡ if_few (analysis_of base m)) × (whole base m ≡ read)
all_mean base m read h =
    let one = none_refused (first_refusal base (flat_map specifiers_of m)) (whole base m) read h in
    (ap (λ o. if_all_mean o (if_few (analysis_of base m))) one.0, one.1)

many_step : (a : Analysis) → 256 < length a.imports → if_few a ≡ Err scan.TooManyImports
many_step a many = ap (λ b. if b then Err scan.TooManyImports else Ok a) (lt-ltb 256 (length a.imports) many)

-- more than 256 are too many
pub too_many : (base : List ℕ) (m : ModuleTree) (read : Meant) → meant_in base m ≡ Ok read → 256 < length read.imported → analysed base m ≡ Err scan.TooManyImports
too_many base m read h many =
    let all = all_mean base m read h in
    let size : length (take 257 (imports_of base m)) ≡ length read.imported = ap (λ r. length r.imported) all.1 in
    all.0 ∙ many_step (analysis_of base m) (omega (arith, size, length-take 257 (imports_of base m), many))

few_step : (a : Analysis) → length a.imports ≤ 256 → if_few a ≡ Ok a
few_step a few = ap (λ b. if b then Err scan.TooManyImports else Ok a) (le-ltb 256 (length a.imports) few)

-- up to 256 are not
pub few : (base : List ℕ) (m : ModuleTree) (read : Meant) → meant_in base m ≡ Ok read → length read.imported ≤ 256 → analysed base m ≡ Ok (analysis_with read m)
few base m read h small =
    let all = all_mean base m read h in
    let size : length (take 257 (imports_of base m)) ≡ length read.imported = ap (λ r. length r.imported) all.1 in
    let fits : length (imports_of base m) ≤ 256 = omega (arith, size, length-take 257 (imports_of base m), small) in
    let same : take 257 (imports_of base m) ≡ imports_of base m = take_all 257 (imports_of base m) (omega arith) in
    all.0 ∙ few_step (analysis_of base m) fits
    ∙ ap (λ l. Ok (analysis_with (record { imported = l; accepted = meant base (flat_map accepted_by m) }) m)) (sym same)
    ∙ ap (λ r. Ok (analysis_with r m)) all.1
