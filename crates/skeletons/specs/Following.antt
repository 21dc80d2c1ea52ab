-- What the scan of a text tells of its module in the core's own words: which modules of the folder it imports, which of
-- them it accepts, and whether it accepts itself or declines.
use Rattle.std.specs.Prelude.{ℕ, ◌+◌, ◌-◌, List, [], ◌∷◌, ◌++◌, length, take, drop, filter, Bool, true, false, not, ◌&&◌, ◌==◌, nat_le}
use Rattle.std.specs.Prelude.{if◌then◌else◌, Option, Some, None}
use Rattle.std.specs.List.{list_any}
use Rattle.std.specs.Option.{option_to_list}
use Rattle.hmr_types.specs.declared.analysis.Analysis.{Analysis}
use Rattle.hmr_types.specs.declared.limits.TheConstants.{IMPORTS}
use Rattle.module_semantics.specs.Analysis.{firsts}
use Rattle.module_semantics.specs.Entries.{has_name}
use Rattle.import_scan.specs.Scanning.{add_import}
use Rattle.es_scan.specs.declared.outline.Accepted.{Accepted}
use Rattle.es_scan.specs.declared.outline.Accepted.TheVariants as accepted
use Rattle.es_scan.specs.declared.outline.ModuleSpecifier.{ModuleSpecifier}
use Rattle.es_scan.specs.declared.outline.Outline.{Outline}
use Rattle.es_scan.specs.declared.outline.Purpose.{Purpose}
use Rattle.es_scan.specs.declared.outline.Purpose.TheVariants as purposes
use Rattle.es_scan.specs.declared.outline.Span.{Span}
use Rattle.file_names.specs.Specifiers.{resolved}
use Rattle.skeletons.specs.declared.following.Relation.{Relation}
use Rattle.skeletons.specs.declared.following.Relation.TheVariants as relations

-- whether a specifier of a purpose stands in a relation
abbrev pub stands_in : Relation → Purpose → Bool
stands_in relations.Imported purposes.Import = true
stands_in relations.Imported purposes.Export = true
stands_in relations.Imported purposes.ExportAll = true
stands_in relations.Imported purposes.ImportCall = false
stands_in relations.Imported purposes.Accept = false
stands_in relations.Called purposes.Import = false
stands_in relations.Called purposes.Export = false
stands_in relations.Called purposes.ExportAll = false
stands_in relations.Called purposes.ImportCall = true
stands_in relations.Called purposes.Accept = false
stands_in relations.Accepted purposes.Import = false
stands_in relations.Accepted purposes.Export = false
stands_in relations.Accepted purposes.ExportAll = false
stands_in relations.Accepted purposes.ImportCall = false
stands_in relations.Accepted purposes.Accept = true

-- what stands between the quotes of a literal
abbrev pub inside : List ℕ → Span → List ℕ
inside text s =
    if nat_le (s.start + 1) (s.end - 1) && nat_le (s.end - 1) (length text)
    then take (s.end - 1 - (s.start + 1)) (drop (s.start + 1) text) else []

-- the module of the folder that a specifier leads to, where it stands in the relation
abbrev pub target : Relation → List ℕ → List ℕ → ModuleSpecifier → Option (List ℕ)
target r name text s = if stands_in r s.purpose then resolved name (inside text s.literal) else None

-- the modules of the folder to which the specifiers in the relation lead, in their order
abbrev pub targets : Relation → List ℕ → List ℕ → List ModuleSpecifier → List (List ℕ)
targets r name text [] = []
targets r name text (s ∷ ss) = option_to_list (target r name text s) ++ targets r name text ss

-- one more module behind those that came, where there is one, it is new and they aren't too many
abbrev pub add_found : List (List ℕ) → Option (List ℕ) → List (List ℕ)
add_found came None = came
add_found came (Some n) = add_import came n

-- the same, one after another
abbrev pub gathered : List (List ℕ) → List (List ℕ) → List (List ℕ)
gathered came [] = came
gathered came (n ∷ ns) = gathered (add_import came n) ns

-- the imported modules: those of import and export declarations, and then those of calls `import("..")`
abbrev pub imported : List ℕ → List ℕ → List ModuleSpecifier → List (List ℕ)
imported name text ss = targets relations.Imported name text ss ++ targets relations.Called name text ss

-- each of them once; of too many no more than show it
abbrev pub imports_shown : List ℕ → List ℕ → List ModuleSpecifier → List (List ℕ)
imports_shown name text ss = take (IMPORTS + 1) (firsts (imported name text ss))

-- a call of `accept` that accepts the module itself
abbrev pub is_itself : Accepted → Bool
is_itself accepted.Itself = true
is_itself accepted.Modules = false
is_itself accepted.Unclear = false

-- what is told where these modules are imported and these are named by calls of `accept`
abbrev pub told_of : List (List ℕ) → List (List ℕ) → Bool → Bool → Analysis
told_of imports accepts own declined = record {
  imports = imports;
  exports = [];
  self_accepts = own;
  accepted = filter (λ n. has_name n accepts) imports;
  declined = declined;
}

-- what is told where these modules are imported, of the text of a module
abbrev pub told_with : List (List ℕ) → List ℕ → List ℕ → Outline → Analysis
told_with imports name text o =
    told_of imports (targets relations.Accepted name text o.specifiers.items)
    (list_any (λ a. is_itself a.accepted) o.accepts.items) (not (length o.declines.items == 0))

-- what the scan of a text tells of its module: it imports each module once, and names nothing of it
abbrev pub told : List ℕ → List ℕ → Outline → Analysis
told name text o = told_with (firsts (imported name text o.specifiers.items)) name text o

-- the same of no more imports than show that they are too many
abbrev pub shown : List ℕ → List ℕ → Outline → Analysis
shown name text o = told_with (imports_shown name text o.specifiers.items) name text o
