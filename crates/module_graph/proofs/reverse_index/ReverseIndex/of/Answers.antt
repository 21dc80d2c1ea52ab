use Rattle.std.proofs.Common.{sym}
use Rattle.std.proofs.Math.Path.{subst}
use Rattle.module_graph.proofs.Sorting.{IsRising, none_rises}
use Rattle.module_graph.proofs.reverse_index.ReverseIndex.of.Goals as goal

pub returns-in-None-clause-rising : goal.returns-in-None-clause-rising
returns-in-None-clause-rising c = subst IsRising (sym c.new.ensures.items) none_rises
