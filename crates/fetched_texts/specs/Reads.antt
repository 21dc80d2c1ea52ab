-- What a text that was read gives.
use Rattle.std.specs.Prelude.{◌≡◌, Option, Some, None, Result, ⊤}
use Prim.{⊥}
use Rattle.hmr_types.specs.declared.analysis.Outcome.{Outcome}
use Rattle.hmr_types.specs.declared.analysis.Outcome.TheVariants.{Good, Bad}
use Rattle.hmr_types.specs.declared.analysis.TextFault.{TextFault}
use Rattle.module_tree.specs.Syntax.{ModuleTree}
use Rattle.module_tree.specs.Tree.{module_of}
use Rattle.module_semantics.specs.Analysis.{outcome_of}
use Rattle.core_model.specs.Names.{Name}
use Rattle.module_language.specs.ModuleLanguage.{module_in}
use Rattle.client_plan.specs.declared.fetching.Parsed.{Parsed}

-- that the text can't be read
abbrev pub IsBad : Outcome → Type 0
IsBad (Good a) = ⊥
IsBad (Bad fault) = ⊤

-- the tree with its analysis, or neither
abbrev pub IsTree : ModuleTree → Outcome → Option Parsed → Type 0
IsTree m outcome None = IsBad outcome
IsTree m outcome (Some read) = (m ≡ module_of read.tree) × (outcome ≡ Good read.analysis)

-- what the text of a module of this name reads as
abbrev pub IsRead : Name → Result ModuleTree TextFault → Option Parsed → Type 0
IsRead n parsed read = IsTree (module_in parsed) (outcome_of n parsed) read
