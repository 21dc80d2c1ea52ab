-- Handlers, what is asked of them, and what their run leaves.
use Rattle.std.specs.Prelude.{ℕ, List}
use Rattle.module_tree.specs.Tree.{handler_of}
use Rattle.hmr_types.specs.declared.value.Slot.{Slot}
use Rattle.module_semantics.specs.Bodies.{Ran, body_run, host_ran}
use Rattle.module_semantics.specs.Entries.{Kept}
use Rattle.module_semantics.specs.declared.evaluation.ModParam.{ModParam}
use Rattle.handler_table.specs.Held.{Answers, IsHost}
use Rattle.handler_table.specs.declared.handler.Handler.{Handler}
use Rattle.handler_table.specs.declared.handler.Handler.TheVariants.{Code, Host}

-- code asks nothing, a closure that its answers are the run that is stated
abbrev pub KeepsItsWord : {F : Type 0} → Answers F → Handler F → Type 0
KeepsItsWord answers (Code code) = Unit {0}
KeepsItsWord answers (Host h) = IsHost answers h

-- what the run of a handler leaves, where names hold this, with these modules and this bag
abbrev pub spent : {F : Type 0} → Handler F → List (List ℕ × Slot) → List ModParam → Kept → Ran
spent (Code code) vars mods bag = body_run (handler_of code) vars mods bag
spent (Host h) vars mods bag = host_ran h.label h.number bag
