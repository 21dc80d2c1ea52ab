use Rattle.std.proofs.Common.{◌≡◌, ◌++◌, drop}
use Rattle.core_model.specs.Spread.{is_pair, pairs_with}
use Rattle.propagate.proofs.pairs.tell_each.Given as goal

abbrev pub invariant-loop-via : goal.invariant-loop-via
invariant-loop-via l = l.pairs.items ++ pairs_with (is_pair l.view l.replaced l.forced) (drop l.via-index l.names) l.name ≡ l.fn.pairs.items ++ pairs_with (is_pair l.view l.replaced l.forced) l.names l.name
