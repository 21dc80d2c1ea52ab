use Rattle.handler_table.proofs.shelf.Shelf.end.Given as goal

-- each turn takes one out
abbrev pub decreases-loop-held : goal.decreases-loop-held
decreases-loop-held g l = goal.left-loop-held g l
