use Rattle.std.proofs.Common.{◌≡◌, drop}
use Rattle.std.specs.Prelude.{filter, is_some, not}
use Rattle.core_model.specs.Names.{first_of}
use Rattle.core_model.specs.Page.{entry_at}
use Rattle.page_plan.proofs.view.unfetched.Given as goal

abbrev pub invariant-loop-name : goal.invariant-loop-name
invariant-loop-name l = first_of (filter (λ n. not (is_some (entry_at l.plan l.view n))) (drop l.name-index l.names)) ≡ first_of (filter (λ n. not (is_some (entry_at l.plan l.view n))) l.names)
