-- The skeleton of a text, and what the core learns of it.
use Rattle.std.specs.Prelude.{ℕ, List, Result, Ok, Err}
use Rattle.hmr_types.specs.declared.analysis.Outcome.{Outcome}
use Rattle.hmr_types.specs.declared.analysis.Outcome.TheVariants.{Bad}
use Rattle.module_semantics.specs.Analysis.{if_few, scan_outcome}
use Rattle.module_semantics.specs.Canon.{canon}
use Rattle.es_scan.specs.declared.fault.Fault.{Fault}
use Rattle.es_scan.specs.declared.outline.Outline.{Outline}
use Rattle.skeletons.specs.Following.{shown, told}
use Rattle.skeletons.specs.Refusing.{refusal, text_with}
use Rattle.skeletons.specs.Skeletons.{skeleton}

-- the skeleton of the text of a module, by its scan
abbrev pub skeleton_text : ℕ → List ℕ → List ℕ → Result Outline Fault → List ℕ
skeleton_text stamp name text (Ok o) = canon (skeleton stamp (shown name text o))
skeleton_text stamp name text (Err f) = text_with stamp (refusal text f)

-- what the core is to learn of the module: what the scan tells, unless it imports too many modules, or the scan's fault
abbrev pub outcome : List ℕ → List ℕ → Result Outline Fault → Outcome
outcome name text (Ok o) = scan_outcome (if_few (told name text o))
outcome name text (Err f) = Bad (refusal text f)
