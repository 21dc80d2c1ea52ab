-- What an answer says that may also tell of a fault, or of memory that ran out.
use Rattle.std.specs.Prelude.{◌≡◌, Some, None, Result, Ok, Err}
use Rattle.hmr_types.specs.declared.value.EvalFault.{EvalFault}
use Rattle.module_semantics.specs.Bodies.{State, Progress}
use Rattle.const_eval.specs.declared.stop.Stop.{Stop}
use Rattle.const_eval.specs.declared.stop.Stop.TheVariants.{Fault, NoMemory}

-- the value or the fault is this one, unless memory ran out
abbrev pub Gives : {A : Type 0} → Result A Stop → Result A EvalFault → Type 0
Gives (Ok x) meant = meant ≡ Ok x
Gives (Err (Fault fault)) meant = meant ≡ Err fault
Gives (Err NoMemory) meant = Unit {0}

-- what was made and the fault that ended it are these, unless memory ran out
abbrev pub Leaves : {A : Type 0} → Result A Stop → State → Progress → Type 0
Leaves (Ok x) s meant = meant ≡ (s, None)
Leaves (Err (Fault fault)) s meant = meant ≡ (s, Some fault)
Leaves (Err NoMemory) s meant = Unit {0}
