-- The steps of an analysis.
use Rattle.std.specs.Prelude.{filter, flat_map, Option, Some, None}
use Rattle.std.specs.List.{list_any}
use Rattle.module_tree.specs.Syntax.{ModuleTree}
use Rattle.hmr_types.specs.declared.analysis.Analysis.{Analysis}
use Rattle.hmr_types.specs.declared.analysis.FaultWord.{FaultWord}
use Rattle.hmr_types.specs.declared.analysis.FaultWord.TheVariants as words
use Rattle.hmr_types.specs.declared.specifier.SpecFault.{SpecFault}
use Rattle.hmr_types.specs.declared.specifier.SpecFault.TheVariants as specs
use Rattle.module_semantics.specs.Analysis.{exported_by, firsts, is_decline, is_own}
use Rattle.module_semantics.specs.Entries.{has_name}
use Rattle.module_semantics.specs.declared.scanning.ScanFault.{ScanFault}
use Rattle.module_semantics.specs.declared.scanning.ScanFault.TheVariants as scan
use Rattle.import_scan.specs.Scanning.{Meant}

-- what analysis tells of items whose specifiers mean this
abbrev pub analysis_with : Meant → ModuleTree → Analysis
analysis_with meant items = record {
  imports = meant.imported;
  exports = flat_map exported_by items;
  self_accepts = list_any is_own items;
  accepted = filter (λ n. has_name n meant.imported) (firsts meant.accepted);
  declined = list_any is_decline items;
}

-- the refusal of a specifier as one of the analysis: out of memory stays out of memory
abbrev pub scan_fault : SpecFault → ScanFault
scan_fault specs.Bare = scan.Spec specs.Bare
scan_fault specs.Climbs = scan.Spec specs.Climbs
scan_fault specs.Empty = scan.Spec specs.Empty
scan_fault specs.TooLong = scan.Spec specs.TooLong
scan_fault specs.BadSegment = scan.Spec specs.BadSegment
scan_fault specs.NoMemory = scan.NoMemory

-- the word of a refusal, none where memory ran out
abbrev pub told_word : ScanFault → Option FaultWord
told_word (scan.Spec specs.Bare) = Some words.SpecifierBare
told_word (scan.Spec specs.Climbs) = Some words.SpecifierClimbs
told_word (scan.Spec specs.Empty) = Some words.SpecifierEmpty
told_word (scan.Spec specs.TooLong) = Some words.SpecifierTooLong
told_word (scan.Spec specs.BadSegment) = Some words.SpecifierBadSegment
told_word (scan.Spec specs.NoMemory) = None
told_word scan.TooManyImports = Some words.TooManyImports
told_word scan.NoMemory = None
