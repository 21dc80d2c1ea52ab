use Rattle.std.proofs.Common.{◌≡◌, ◌++◌, drop}
use Rattle.client_plan.specs.Telling.{accept_lines}
use Rattle.client_plan.proofs.telling.tell_accepts.Given as goal

abbrev pub invariant-loop-pair : goal.invariant-loop-pair
invariant-loop-pair l = l.lines.items ++ accept_lines l.client (drop l.pair-index l.pairs) ≡ l.fn.lines.items ++ accept_lines l.client l.pairs
