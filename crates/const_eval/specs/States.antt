-- What the state and the context of the code stand for.
use Rattle.std.specs.Prelude.{ℕ, List, map}
use Rattle.hmr_types.specs.declared.value.Slot.{Slot}
use Rattle.module_semantics.specs.Bodies.{State, Context, registration_of}
use Rattle.const_eval.specs.Places.{variables}
use Rattle.const_eval.specs.declared.state.State as state
use Rattle.const_eval.specs.declared.state.Context as context

-- what was made so far, where the variables held this at first
abbrev pub state_from : List (List ℕ × Slot) → state.State → State
state_from first s = record {
  vars = variables first s.given;
  bag = s.bag;
  lines = s.lines.items;
  changes = s.changes.items;
  invalidations = s.invalidations.items;
  registered = map registration_of s.registered.items;
}

-- what was made so far
abbrev pub state_of : context.Context → state.State → State
state_of c s = state_from c.vars.now s

-- what stays as it is
abbrev pub context_of : context.Context → Context
context_of c = record { imports = c.imports.now; mods = c.mods.now }
