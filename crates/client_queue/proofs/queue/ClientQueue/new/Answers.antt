use Rattle.std.proofs.Common.{List, sym}
use Rattle.std.proofs.Math.Path.{subst}
use Rattle.hmr_types.specs.declared.analysis.TextFault.{TextFault}
use Rattle.core_model.specs.Names.{Name, names_of}
use Rattle.module_graph.proofs.Sorting.{IsRising, none_rises}
use Rattle.client_queue.proofs.queue.ClientQueue.new.Goals as goal

pub invariant_of-result : goal.invariant_of-result
invariant_of-result c = (subst IsRising (sym c.new-2.ensures.items) none_rises, subst (λ (rows : List (Name × TextFault)). IsRising (names_of rows)) (sym c.new-3.ensures.items) none_rises)
