use Rattle.std.proofs.Common.{◌≡◌, [], drop}
use Rattle.live_lines.specs.PageLines.{with_boundaries}
use Rattle.live_lines.proofs.boundaries.boundaries_of.Given as goal

-- what is left, behind those that came, gives all
abbrev pub invariant-loop-pair : goal.invariant-loop-pair
invariant-loop-pair l = with_boundaries l.came.items (drop l.pair-index l.accepted) ≡ with_boundaries [] l.accepted
