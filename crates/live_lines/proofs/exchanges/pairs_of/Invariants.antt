use Rattle.std.proofs.Common.{◌≡◌, map, take}
use Rattle.live_lines.specs.Answering.{pair_of}
use Rattle.live_lines.proofs.exchanges.pairs_of.Given as goal

-- the pairs so far are those of the callbacks so far
abbrev pub invariant-loop-update : goal.invariant-loop-update
invariant-loop-update l = l.pairs.items ≡ map pair_of (take l.update-index l.updates)
