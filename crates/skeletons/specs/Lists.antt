-- The skeleton of a module of which a list of imports is told.
use Rattle.std.specs.Prelude.{ℕ, ◌+◌, List, take, false}
use Rattle.hmr_types.specs.declared.analysis.Analysis.{Analysis}
use Rattle.hmr_types.specs.declared.analysis.Outcome.{Outcome}
use Rattle.hmr_types.specs.declared.limits.TheConstants.{IMPORTS}
use Rattle.module_semantics.specs.Analysis.{firsts, if_few, scan_outcome}
use Rattle.module_semantics.specs.Canon.{canon}
use Rattle.skeletons.specs.Following.{told_of}
use Rattle.skeletons.specs.Skeletons.{skeleton}

-- what is told where a module imports these, and accepts those of them that are among the others
abbrev pub list_told : List (List ℕ) → List (List ℕ) → Analysis
list_told imports accepts = told_of (firsts imports) accepts false false

-- the same of no more imports than show that they are too many
abbrev pub list_shown : List (List ℕ) → List (List ℕ) → Analysis
list_shown imports accepts = told_of (take (IMPORTS + 1) (firsts imports)) accepts false false

-- the skeleton
abbrev pub list_text : ℕ → List (List ℕ) → List (List ℕ) → List ℕ
list_text stamp imports accepts = canon (skeleton stamp (list_shown imports accepts))

-- what the core is to learn of it
abbrev pub list_outcome : List (List ℕ) → List (List ℕ) → Outcome
list_outcome imports accepts = scan_outcome (if_few (list_told imports accepts))
