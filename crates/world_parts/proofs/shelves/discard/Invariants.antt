use Rattle.world_parts.proofs.shelves.discard.Given as goal

-- each turn takes one out
abbrev pub decreases-loop-shelf : goal.decreases-loop-shelf
decreases-loop-shelf g l = goal.left-loop-shelf g l
