use Rattle.std.proofs.Common.{◌≡◌}
use Rattle.outside_tests.proofs.listing.lines_of.Given as goal

abbrev pub invariant-loop-entry : goal.invariant-loop-entry
invariant-loop-entry g l =
    (goal.iterator-loop-entry g).can_next l.entry-iterator ×
    (goal.iterator-loop-entry g).is_finite l.entry-iterator ×
    (g.T.Tree.asked l.tree ≡ g.T.Tree.asked l.fn.tree)

abbrev pub invariant-loop : goal.invariant-loop
invariant-loop g l = g.T.Tree.asked l.tree ≡ g.T.Tree.asked l.fn.tree
