-- Where faults of the grammar stand.
use Rattle.std.proofs.Common.{ℕ, ◌≤◌, List, ◌∷◌, length, Result, Ok, Err, IfErr, arith, ap}
use Rattle.std.proofs.lemmas.List.{length-append}
use Rattle.hmr_types.specs.declared.limits.TheConstants.{DEPTH}
use Rattle.module_semantics.specs.Token.{LineToken}
use Rattle.module_semantics.specs.Raw.{RawItem}
use Rattle.module_semantics.specs.Reading.{reading}
use Rattle.module_semantics.specs.ModuleTokens.{FirstUnexpected, TooDeepAt}
use Rattle.module_semantics.proofs.Modules.{stands_first, sinks_there}
use Rattle.hot_grammar.specs.declared.grammar_fault.GrammarFault.{GrammarFault}
use Rattle.hot_grammar.specs.declared.grammar_fault.GrammarFault.TheVariants as faults
use Rattle.hot_grammar.specs.Reads.{Gives, Stops, left_of}

unexpected_within : (ts : List LineToken) (n : ℕ) → FirstUnexpected ts n → n ≤ length ts
unexpected_within ts n f = omega (arith, ap length f.split, f.left, length-append f.before f.after)

too_deep_within : (ts : List LineToken) (n : ℕ) → TooDeepAt DEPTH ts n → n ≤ length ts
too_deep_within ts n f = omega (arith, ap length f.split, f.left, length-append f.before (f.at ∷ f.after))

fault_within : (e : GrammarFault) (ts : List LineToken) → Stops e (reading DEPTH ts) → left_of e ≤ length ts
fault_within faults.NoMemory ts h = omega arith
fault_within (faults.Unexpected n) ts h = unexpected_within ts n (stands_first DEPTH ts n h)
fault_within (faults.TooDeep n) ts h = too_deep_within ts n (sinks_there DEPTH ts n h)

-- no more tokens are left at a fault than there are
pub stands_within : {X : Type 0} (view : X → List RawItem) (r : Result X GrammarFault) (ts : List LineToken) → Gives view r (reading DEPTH ts) → IfErr r (λ f. left_of f ≤ length ts)
stands_within view (Ok x) ts h = tt
stands_within view (Err e) ts h = fault_within e ts h
