use Rattle.std.proofs.Common.{◌∙◌}
use Rattle.std.proofs.lemmas.List.Filters.{dedup_is}
use Rattle.module_graph.proofs.Sorting.{deduped}
use Rattle.module_graph.proofs.names.rising.Goals as goal

pub returns : goal.returns
returns c = dedup_is _ _ _ c.dedup.ensures.filtered ∙ deduped _ _ c.in_ok-sort.ensures.permutation c.in_ok-sort.ensures.sorted
