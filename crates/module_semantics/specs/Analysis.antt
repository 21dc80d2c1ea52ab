-- What static analysis tells of a module, and what a text is transformed into.
use Rattle.std.specs.Prelude.{◌≡◌, ◌≤◌, [], ◌∷◌, ◌++◌}
use Rattle.std.specs.Prelude.{ℕ, Bool, true, false, not, nat_lt, if◌then◌else◌, List}
use Rattle.std.specs.Prelude.{length, filter, flat_map, Option, Some, None, Result, Ok, Err, bytes_eq}
use Rattle.std.specs.List.{list_any, list_all}
use Rattle.module_tree.specs.Syntax as tree
use Rattle.module_tree.specs.Syntax.{ItemTree, ModuleTree}
use Rattle.hmr_types.specs.Specifier.{resolve}
use Rattle.hmr_types.specs.declared.specifier.SpecFault.{SpecFault}
use Rattle.hmr_types.specs.declared.specifier.SpecFault.TheVariants as specs
use Rattle.hmr_types.specs.declared.analysis.Analysis.{Analysis}
use Rattle.hmr_types.specs.declared.analysis.FaultWord.{FaultWord}
use Rattle.hmr_types.specs.declared.analysis.FaultWord.TheVariants as words
use Rattle.hmr_types.specs.declared.analysis.TextFault.{TextFault}
use Rattle.hmr_types.specs.declared.analysis.Outcome.{Outcome}
use Rattle.hmr_types.specs.declared.analysis.Outcome.TheVariants.{Good, Bad}
use Rattle.hmr_types.specs.declared.limits.TheConstants.{IMPORTS}
use Rattle.module_semantics.specs.declared.scanning.ScanFault.{ScanFault}
use Rattle.module_semantics.specs.declared.scanning.ScanFault.TheVariants as scan
use Rattle.module_semantics.specs.Entries.{has_name, are_different}

-- the specifier that an item imports by
abbrev pub imported_by : ItemTree → List (List ℕ)
imported_by (tree.import spec names) = spec ∷ []
imported_by (tree.declare exported mutable n e) = []
imported_by (tree.act a) = []
imported_by (tree.own what) = []
imported_by (tree.deps list specs code) = []
imported_by (tree.dispose what) = []
imported_by (tree.prune what) = []
imported_by tree.decline = []

-- the specifiers that an item accepts
abbrev pub accepted_by : ItemTree → List (List ℕ)
accepted_by (tree.import spec names) = []
accepted_by (tree.declare exported mutable n e) = []
accepted_by (tree.act a) = []
accepted_by (tree.own what) = []
accepted_by (tree.deps list specs code) = specs
accepted_by (tree.dispose what) = []
accepted_by (tree.prune what) = []
accepted_by tree.decline = []

-- the name that an item exports
abbrev pub exported_by : ItemTree → List (List ℕ)
exported_by (tree.import spec names) = []
exported_by (tree.declare exported mutable n e) = if exported then n ∷ [] else []
exported_by (tree.act a) = []
exported_by (tree.own what) = []
exported_by (tree.deps list specs code) = []
exported_by (tree.dispose what) = []
exported_by (tree.prune what) = []
exported_by tree.decline = []

-- an accept of the module itself
abbrev pub is_own : ItemTree → Bool
is_own (tree.import spec names) = false
is_own (tree.declare exported mutable n e) = false
is_own (tree.act a) = false
is_own (tree.own what) = true
is_own (tree.deps list specs code) = false
is_own (tree.dispose what) = false
is_own (tree.prune what) = false
is_own tree.decline = false

-- a decline
abbrev pub is_decline : ItemTree → Bool
is_decline (tree.import spec names) = false
is_decline (tree.declare exported mutable n e) = false
is_decline (tree.act a) = false
is_decline (tree.own what) = false
is_decline (tree.deps list specs code) = false
is_decline (tree.dispose what) = false
is_decline (tree.prune what) = false
is_decline tree.decline = true

-- the specifiers of an item, an import or an accept
abbrev pub specifiers_of : ItemTree → List (List ℕ)
specifiers_of i = imported_by i ++ accepted_by i

-- a refusal, or what comes later
abbrev pub refusal_or : Result (List ℕ) SpecFault → Option SpecFault → Option SpecFault
refusal_or (Ok name) later = later
refusal_or (Err fault) later = Some fault

-- why the first specifier that means no module means none
abbrev pub first_refusal : List ℕ → List (List ℕ) → Option SpecFault
first_refusal base [] = None
first_refusal base (s ∷ ss) = refusal_or (resolve base s) (first_refusal base ss)

-- a name before the later ones, where there is one
abbrev pub name_and : Result (List ℕ) SpecFault → List (List ℕ) → List (List ℕ)
name_and (Ok name) names = name ∷ names
name_and (Err fault) names = names

-- the names of the modules that specifiers mean, in order
abbrev pub meant : List ℕ → List (List ℕ) → List (List ℕ)
meant base [] = []
meant base (s ∷ ss) = name_and (resolve base s) (meant base ss)

-- each name once, where it comes first
abbrev pub firsts : List (List ℕ) → List (List ℕ)
firsts [] = []
firsts (n ∷ ns) = n ∷ filter (λ m. not (bytes_eq m n)) (firsts ns)

-- the names of the imported modules
abbrev pub imports_of : List ℕ → ModuleTree → List (List ℕ)
imports_of base m = firsts (meant base (flat_map imported_by m))

-- the imported modules that are accepted by name
abbrev pub accepted_of : List ℕ → ModuleTree → List (List ℕ)
accepted_of base m =
    filter (λ n. has_name n (imports_of base m)) (firsts (meant base (flat_map accepted_by m)))

-- what analysis tells where nothing is wrong
abbrev pub analysis_of : List ℕ → ModuleTree → Analysis
analysis_of base m = record {
  imports = imports_of base m;
  exports = flat_map exported_by m;
  self_accepts = list_any is_own m;
  accepted = accepted_of base m;
  declined = list_any is_decline m;
}

-- at most 256 different imports
abbrev pub if_few : Analysis → Result Analysis ScanFault
if_few a = if nat_lt IMPORTS (length a.imports) then Err scan.TooManyImports else Ok a

-- the fault of a specifier goes first
abbrev pub if_all_mean : Option SpecFault → Result Analysis ScanFault → Result Analysis ScanFault
if_all_mean None result = result
if_all_mean (Some fault) result = Err (scan.Spec fault)

-- the analysis of a module of this name, or its first fault
abbrev pub analysed : List ℕ → ModuleTree → Result Analysis ScanFault
analysed base m = if_all_mean (first_refusal base (flat_map specifiers_of m)) (if_few (analysis_of base m))

-- the word of a refusal; out of memory, which no definition answers, has none of its own
abbrev pub specifier_word : SpecFault → FaultWord
specifier_word specs.Bare = words.SpecifierBare
specifier_word specs.Climbs = words.SpecifierClimbs
specifier_word specs.Empty = words.SpecifierEmpty
specifier_word specs.TooLong = words.SpecifierTooLong
specifier_word specs.BadSegment = words.SpecifierBadSegment
specifier_word specs.NoMemory = words.SpecifierEmpty

-- the word of a fault of specifiers and imports
abbrev pub scan_word : ScanFault → FaultWord
scan_word (scan.Spec fault) = specifier_word fault
scan_word scan.TooManyImports = words.TooManyImports
scan_word scan.NoMemory = words.TooManyImports

-- a fault of specifiers and imports has no place
abbrev pub scan_outcome : Result Analysis ScanFault → Outcome
scan_outcome (Ok a) = Good a
scan_outcome (Err fault) = Bad (record { line = 0; col = 0; word = scan_word fault })

-- the outcome of what a text reads as
abbrev pub outcome_of : List ℕ → Result ModuleTree TextFault → Outcome
outcome_of base (Ok m) = scan_outcome (analysed base m)
outcome_of base (Err fault) = Bad fault

-- the result of transforming a text of a module of this name, where texts are read so
abbrev pub transformed : (List ℕ → Result ModuleTree TextFault) → List ℕ → List ℕ → Outcome
transformed reading base text = outcome_of base (reading text)

-- what holds of each analysis: its imports are different and at most 256, and its accepted names are
-- different and imported
pub record IsWellMade (a : Analysis) : Type 0 where
  pub imports : are_different a.imports ≡ true
  pub few : length a.imports ≤ 256
  pub accepted : are_different a.accepted ≡ true
  pub among : list_all (λ n. has_name n a.imports) a.accepted ≡ true
