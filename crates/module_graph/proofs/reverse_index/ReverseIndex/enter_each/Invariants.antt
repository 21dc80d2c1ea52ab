use Rattle.std.proofs.Common.{true, take}
use Rattle.std.specs.Prelude.{if◌then◌else◌}
use Rattle.core_model.specs.Names.{has}
use Rattle.module_graph.specs.ReverseIndex.{Places, is_under}
use Rattle.module_graph.proofs.reverse_index.ReverseIndex.enter_each.Given as goal

abbrev pub invariant-loop-name : goal.invariant-loop-name
invariant-loop-name l = Places l.lister (λ n. if has (take l.name-index l.names) n then true else is_under l.fn.self.sets.entries n l.lister) l.fn.self.sets.entries l.self.sets.entries
