use Rattle.std.proofs.Common.{◌≡◌, take}
use Rattle.core_model.specs.Names.{has, collect}
use Rattle.core_model.specs.Page.{new_entry}
use Rattle.page_plan.proofs.view.collect.Given as goal

abbrev pub invariant-loop-name : goal.invariant-loop-name
invariant-loop-name l = l.made ≡ collect (λ n. new_entry (has l.met n) l.plan l.view n) (take l.name-index l.names)
