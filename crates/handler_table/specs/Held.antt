-- Closures of the embedding program, and what is asked of them.
use Rattle.std.specs.Prelude.{◌≡◌, ℕ, List, Result, Ok}
use Rattle.std.specs.declared.alloc.AllocError.{AllocError}
use Rattle.module_semantics.specs.Bodies.{host_ran}
use Rattle.module_semantics.specs.Entries.{Kept}
use Rattle.retained_data.specs.Runs.{ran_seen}
use Rattle.retained_data.specs.declared.ran.Ran as body

-- a closure with its label and its number
pub record Closure (F : Type 0) : Type 0 where
  pub label : List ℕ
  pub number : ℕ
  pub call : F

-- what a call of f on a bag may answer
abbrev pub Answers : Type 0 → Type 1
Answers F = F → Kept → Result body.Ran AllocError → Type 0

-- each answer of a call of the closure is the run that is stated for its label and its number
abbrev pub IsHost : {F : Type 0} → Answers F → Closure F → Type 0
IsHost answers h = (bag : Kept) (ran : body.Ran) → answers h.call bag (Ok ran)
    → ran_seen ran ≡ host_ran h.label h.number bag
