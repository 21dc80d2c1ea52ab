use Rattle.std.proofs.Common.{◌≡◌, ◌++◌, drop}
use Rattle.std.specs.Prelude.{filter, not}
use Rattle.client_model.specs.Linking.{is_kept}
use Rattle.page_plan.proofs.numbers.new_names.Given as goal

-- what is found, and the new ones among what is left, are all
abbrev pub invariant-loop-name : goal.invariant-loop-name
invariant-loop-name l = l.names.items ++ filter (λ n. not (is_kept l.plan l.view n)) (drop l.name-index l.order) ≡ filter (λ n. not (is_kept l.plan l.view n)) l.order
