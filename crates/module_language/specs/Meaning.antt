-- Modules whose specifiers all mean modules.
use Rattle.std.specs.Prelude.{◌≡◌, List, [], ◌∷◌, map, Ok, ⊤}
use Rattle.hmr_types.specs.Specifier.{resolve}
use Rattle.module_tree.specs.Syntax.{ModuleTree}
use Rattle.module_semantics.specs.Analysis.{accepted_by, imported_by, meant}
use Rattle.core_model.specs.Names.{Name}

-- the modules that are meant are what the specifiers mean, place by place
abbrev pub AllMean : Name → List Name → Type 0
AllMean base specifiers = map Ok (meant base specifiers) ≡ map (resolve base) specifiers

-- so it is of what each item imports, and of what it accepts
abbrev pub ItemsMean : Name → ModuleTree → Type 0
ItemsMean base [] = ⊤
ItemsMean base (i ∷ m) = (AllMean base (imported_by i) × AllMean base (accepted_by i)) × ItemsMean base m
