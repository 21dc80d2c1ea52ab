use Rattle.std.proofs.Common.{◌≡◌, drop}
use Rattle.std.specs.List.{list_all}
use Rattle.std.specs.Prelude.{is_some}
use Rattle.core_model.specs.Names.{at}
use Rattle.client_plan.proofs.renewing.are_there.Given as goal

-- those before are there
abbrev pub invariant-loop-name : goal.invariant-loop-name
invariant-loop-name l = list_all (λ n. is_some (at l.view n)) (drop l.name-index l.names) ≡ list_all (λ n. is_some (at l.view n)) l.names
