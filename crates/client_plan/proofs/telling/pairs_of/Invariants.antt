use Rattle.std.proofs.Common.{◌≡◌, ◌++◌, drop, map}
use Rattle.client_model.specs.Answering.{pair_of}
use Rattle.client_plan.proofs.telling.pairs_of.Given as goal

abbrev pub invariant-loop-update : goal.invariant-loop-update
invariant-loop-update l = l.pairs.items ++ map pair_of (drop l.update-index l.updates) ≡ map pair_of l.updates
