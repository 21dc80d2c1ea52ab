use Rattle.std.proofs.Common.{ap, ◌∙◌}
use Rattle.std.proofs.lemmas.List.Filters.{dedup_is}
use Rattle.core_model.specs.Names.{sorted}
use Rattle.module_graph.proofs.Sorting.{deduped}
use Rattle.fresh_loads.proofs.unlinked.unexported.Goals as goal

pub returns : goal.returns
returns c = dedup_is _ _ _ c.dedup.ensures.filtered ∙ deduped _ _ c.in_ok-sort.ensures.permutation c.in_ok-sort.ensures.sorted ∙ ap sorted c.in_ok-left.ensures
