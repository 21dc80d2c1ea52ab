use Rattle.std.proofs.Common.{◌≡◌, ◌+◌, suc, take}
use Rattle.core_model.specs.Names.{Name, at}
use Rattle.page_plan.proofs.Numbering.{by_place}
use Rattle.page_plan.proofs.numbers.Numbers.of.Given as goal

abbrev pub invariant-loop-name : goal.invariant-loop-name
invariant-loop-name l = (l.number ≡ l.made + l.name-index) × ((n : Name) → at l.numbers.entries n ≡ by_place (λ k. suc l.made + k) (take l.name-index l.names) n)
