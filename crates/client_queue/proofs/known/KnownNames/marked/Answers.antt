use Rattle.std.proofs.Common.{ap, sym, ◌∙◌}
use Rattle.std.proofs.Math.Path.{subst}
use Rattle.core_model.specs.Names.{sorted}
use Rattle.module_graph.proofs.Sorting.{IsRising, sorted_rising}
use Rattle.client_queue.proofs.Marking.{front_has}
use Rattle.client_queue.proofs.known.KnownNames.marked.Goals as goal

pub returns-clause-names : goal.returns-clause-names
returns-clause-names c = rw (← c.self.view_is) (front_has c.self.inside.row c.self.invariant.0 c.self.inside.marked_count c.self.invariant.1 c.in_ok-sorted.sorted.items (c.in_ok-sorted.ensures ∙ ap sorted (c.in_ok-names.ensures ∙ c.front.ensures)))

pub returns-clause-rising : goal.returns-clause-rising
returns-clause-rising c = subst IsRising (sym c.in_ok-sorted.ensures) (sorted_rising c.in_ok-names.names.items)
